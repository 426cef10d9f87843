-- The keys of an object.
use Rattle.std.proofs.Common.{◌≡◌, List, [], ◌∷◌, map, refl, sym, ap, String}
use Rattle.std.specs.Prelude.{ℕ, zero, suc, length, slice_get, ◌&&◌, ◌==◌, string_bytes}
use Rattle.std.specs.Borrow.{Bor}
use Rattle.std.proofs.lemmas.List.{length-map}
use Rattle.serde_json.specs.View.{view}
use Rattle.serde_json.specs.Data.{Data}
use Rattle.file_values.specs.Read.{items_in, values_of}
use Rattle.file_values.specs.Kinds.{has_only_keys, is_whole, is_pair}
use Rattle.std.specs.declared.alloc.Global.{Global}
use Rattle.std.specs.List.{list_all, list_any}
use Rattle.std.specs.Option.{option_map}
use Rattle.prod_model.specs.Names.{same_text}
use Rattle.base_laws.proofs.Tests.{list_any_map}
use Rattle.serde_json.specs.declared.value.Value.{Value}
use Rattle.serde_json.specs.View.{items_view, members_view}
use Rattle.file_values.specs.declared.kind.Member.{Member}
use Rattle.file_values.specs.Places.{text_of}

pub has_only_keys_view : (listed : List Member) (es : List (String Global × Value)) →
    has_only_keys (map (λ m. text_of m.key) listed) (members_view es) ≡ list_all (λ key. list_any (λ m. same_text (string_bytes key) (text_of m.key)) listed) (map (λ e. e.0) es)
has_only_keys_view listed [] = refl
has_only_keys_view listed (e ∷ es) = rw (list_any_map (same_text (string_bytes e.0)) (λ m. text_of m.key) listed, has_only_keys_view listed es) refl

pub among_view : (s : List ℕ) (texts : List (Bor (List ℕ))) → list_any (same_text s) (map (λ t. t.now) texts) ≡ list_any (λ t. same_text s t.now) texts
among_view s texts = list_any_map (same_text s) (λ t. t.now) texts

whole_view : (vs : List Value) → list_all is_whole (map view vs) ≡ list_all (λ v. is_whole (view v)) vs
whole_view [] = refl
whole_view (v ∷ vs) = ap (λ more. is_whole (view v) && more) (whole_view vs)

-- the values in an array, and what they are seen as
pub pair_view : (d : Data) (vs : List Value) → map view vs ≡ items_in d → is_pair d ≡ ((length vs == 2) && list_all (λ v. is_whole (view v)) vs)
pair_view d vs same = rw (sym same, length-map vs view, whole_view vs) refl

pub slice_get-map : {X Y : Type 0} (f : X → Y) (xs : List X) (i : ℕ) → slice_get (map f xs) i ≡ option_map f (slice_get xs i)
slice_get-map f [] i = refl
slice_get-map f (x ∷ xs) zero = refl
slice_get-map f (x ∷ xs) (suc i) = slice_get-map f xs i

pub values_of_view : (vs : List Value) → values_of (items_view vs) ≡ map view vs
values_of_view [] = refl
values_of_view (v ∷ vs) = ap (λ more. view v ∷ more) (values_of_view vs)
