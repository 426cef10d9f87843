-- Each place in a file has keys of the list alone, so that it can be written.
use Rattle.std.proofs.Common.{◌∙◌, ℕ, ◌+◌, List, [], ◌∷◌, ◌++◌, map, length, refl, sym, subst, Some, None, Option, inl, inr, true, false}
use Rattle.std.proofs.lemmas.Bool.{and_parts, and_from}
use Rattle.std.proofs.lemmas.List.Folds.{list_all-append}
use Rattle.std.specs.Prelude.{Bool, not, IsTrue, Contains}
use Rattle.std.specs.Option.{option_map_or}
use Rattle.std.specs.List.{list_all}
use Rattle.serde_json.specs.Data.{Data, null, boolean, number, string, array, object, Items, no_items, item}
use Rattle.base_laws.specs.Places.{IsAt}
use Rattle.base_laws.proofs.Elements.{at_contained}
use Rattle.base_laws.proofs.Places.{at_either}
use Rattle.base_laws.proofs.Tests.{list_all_at}
use Rattle.file_values.specs.declared.part.Part.{Part}
use Rattle.file_values.specs.declared.part.Part.TheVariants.{At as at}
use Rattle.file_values.specs.declared.format.Format.{Format}
use Rattle.file_values.specs.declared.kind.Key.{Key}
use Rattle.file_values.specs.declared.kind.Key.TheVariants as key
use Rattle.file_values.specs.declared.kind.Kind.{Kind}
use Rattle.file_values.specs.declared.kind.Kind.TheVariants.{Model, Order, Types, TypeDecl, Attributes, Attribute, Ports, Port, Bounds, Bound, Rules, Rule, Requests, Request, Criteria, Criterion, Words, Range, Links, End, Count, Instances, ModelFormat, OrderFormat, PortKind, Name, TypeName, InverseName, Word, Expression}
use Rattle.file_values.specs.declared.operator.Argument.{Argument}
use Rattle.file_values.specs.declared.operator.Argument.TheVariants.{Text, Factor, Inner}
use Rattle.file_values.specs.Places.{under, is_known_key, has_known_keys}
use Rattle.file_values.specs.Read.{items_in, items_at}
use Rattle.file_values.specs.Inside.{IsInside, itself, in_member, in_item, FailsAt}
use Rattle.file_values.specs.Kinds.{is_text, is_whole}
use Rattle.file_values.specs.Twice.{Placed, texts_in, IsTwice}
use Rattle.file_values.specs.Forms.{misformed, each_misformed, whole_if, misformed_argument, misformed_arguments, misformed_array, arguments_of}
use Rattle.file_values.specs.steps.Groups.{step_by, listed_in}
use Rattle.file_values.proofs.TextLaws.{listed_place}

under_known : (k : Key) → IsTrue (is_known_key (under k))
under_known key.Format = refl
under_known key.Root = refl
under_known key.Instances = refl
under_known key.Types = refl
under_known key.Bounds = refl
under_known key.Rules = refl
under_known key.Requests = refl
under_known key.Criteria = refl
under_known key.Name = refl
under_known key.Parent = refl
under_known key.Attributes = refl
under_known key.Ports = refl
under_known key.Range = refl
under_known key.Words = refl
under_known key.Kind = refl
under_known key.Target = refl
under_known key.Links = refl
under_known key.OfType = refl
under_known key.Count = refl
under_known key.Holds = refl
under_known key.Minimise = refl
under_known key.Maximise = refl
under_known key.Inverse = refl

-- of two places, one in the other
pub joined_known : (p q : List Part) → IsTrue (has_known_keys p) → IsTrue (has_known_keys q) → IsTrue (has_known_keys (p ++ q))
joined_known p q first second = list_all-append is_known_key p q ∙ and_from _ _ first second

-- ---- where a value stands that has a kind

pub inside_known : (format : Format) (k : Kind) (d : Data) (place : List Part) (l : Kind) (f : Data) → IsInside format k d place l f → IsTrue (has_known_keys place)
inside_known format k d place l f inside = known inside
  where
    known : {k : Kind} {d : Data} {place : List Part} {l : Kind} {f : Data} → IsInside format k d place l f → IsTrue (has_known_keys place)
    known itself = refl
    known (in_member i m listed e there inside) = and_from _ _ (under_known m.key) (known inside)
    known (in_item j is i e there inside) = known inside

pub failing_known : (format : Format) (passes : Kind → Data → Bool) (k : Kind) (d : Data) (place : List Part) → FailsAt format passes k d place → IsTrue (has_known_keys place)
failing_known format passes k d place f = inside_known format k d place f.kind f.value f.inside

-- ---- where a text stands

step_known : (o : Option Key) → IsTrue (has_known_keys (step_by o))
step_known None = refl
step_known (Some k) = and_from _ _ (under_known k) refl

listed_known : (list text : Option Key) (ds : List Data) (i : ℕ) (p : Placed) → IsAt (listed_in list text ds) i p → IsTrue (has_known_keys p.place)
listed_known list text ds i p there =
    let Known : List Part → Type 0 = λ q. IsTrue (has_known_keys q) in
    subst Known (sym (listed_place list text ds i p there)) (joined_known (step_by list) (at i ∷ step_by text) (step_known list) (step_known text))

none_known : (i : ℕ) (p : Placed) → IsAt [] i p → IsTrue (has_known_keys p.place)
none_known i p there = absurd (cc)

texts_known : (k : Kind) (d : Data) (i : ℕ) (p : Placed) → IsAt (texts_in k d) i p → IsTrue (has_known_keys p.place)
unfolding texts_in
texts_known Types d = listed_known None (Some key.Name) (items_in d)
texts_known TypeDecl d =
    λ i p there. elim (at_either (listed_in (Some key.Attributes) (Some key.Name) (items_at key.Attributes d)) (listed_in (Some key.Ports) (Some key.Name) (items_at key.Ports d)) i p there) [
      | inl first ↦ listed_known (Some key.Attributes) (Some key.Name) (items_at key.Attributes d) i p first
      | inr second ↦ listed_known (Some key.Ports) (Some key.Name) (items_at key.Ports d) second.0 p second.2
    ]
texts_known Words d = listed_known None None (items_in d)
texts_known Bounds d = listed_known None (Some key.OfType) (items_in d)
texts_known Rules d = listed_known None (Some key.Name) (items_in d)
texts_known Requests d = listed_known None (Some key.Name) (items_in d)
texts_known Criteria d = listed_known None (Some key.Name) (items_in d)
texts_known Model d = none_known
texts_known Order d = none_known
texts_known Attributes d = none_known
texts_known Attribute d = none_known
texts_known Ports d = none_known
texts_known Port d = none_known
texts_known Bound d = none_known
texts_known Rule d = none_known
texts_known Request d = none_known
texts_known Criterion d = none_known
texts_known Range d = none_known
texts_known Links d = none_known
texts_known End d = none_known
texts_known Count d = none_known
texts_known Instances d = none_known
texts_known ModelFormat d = none_known
texts_known OrderFormat d = none_known
texts_known PortKind d = none_known
texts_known Name d = none_known
texts_known TypeName d = none_known
texts_known InverseName d = none_known
texts_known Word d = none_known
texts_known Expression d = none_known

pub twice_known : (format : Format) (k : Kind) (d : Data) (place : List Part) → IsTwice format k d place → IsTrue (has_known_keys place)
twice_known format k d place t =
    let Known : List Part → Type 0 = λ q. IsTrue (has_known_keys q) in
    let r = t.repeated in
    let rest : IsTrue (has_known_keys t.rest) = subst Known (sym r.is) (texts_known t.kind t.value r.j r.later r.again) in
    subst Known (sym t.is) (joined_known t.front t.rest (inside_known format k d t.front t.kind t.value t.inside) rest)

-- ---- where an expression is of none of the forms

abbrev are_known : List (List Part) → Type 0
are_known places = IsTrue (list_all has_known_keys places)

abbrev all_known : List (Data × List (List Part)) → Type 0
all_known ds = IsTrue (list_all (λ d. list_all has_known_keys d.1) ds)

whole_known : (wrong : Bool) → are_known (whole_if wrong)
whole_known true = refl
whole_known false = refl

argument_known : (a : Argument) (d : Data) (inner : List (List Part)) → are_known inner → are_known (misformed_argument a d inner)
argument_known Text d inner known = whole_known (not (is_text d))
argument_known Factor d inner known = whole_known (not (is_whole d))
argument_known Inner d inner known = known

behind_known : (n : ℕ) (places : List (List Part)) → are_known places → are_known (map (λ p. at n ∷ p) places)
behind_known n [] known = refl
behind_known n (p ∷ ps) known = let both = and_parts _ _ known in and_from _ _ both.0 (behind_known n ps both.1)

arguments_known : (n : ℕ) (as_ : List Argument) (ds : List (Data × List (List Part))) → all_known ds → are_known (misformed_arguments n as_ ds)
arguments_known n [] ds known = refl
arguments_known n (a ∷ as_) [] known = refl
arguments_known n (a ∷ as_) (d ∷ ds) known =
    let both = and_parts _ _ known in
    list_all-append has_known_keys (map (λ p. at n ∷ p) (misformed_argument a d.0 d.1)) (misformed_arguments (n + 1) as_ ds)
    ∙ and_from _ _ (behind_known n (misformed_argument a d.0 d.1) (argument_known a d.0 d.1 both.0)) (arguments_known (n + 1) as_ ds both.1)

array_known : (ds : List (Data × List (List Part))) → all_known ds → are_known (misformed_array ds)
array_known [] known = refl
array_known (o ∷ ds) known = by (arguments_of o.0 (length ds))
  where
    by : (found : Option (List Argument)) → are_known (option_map_or (λ args. misformed_arguments 1 args ds) found ([] ∷ []))
    by None = refl
    by (Some args) = arguments_known 1 args ds (and_parts _ _ known).1

mutual
  forms_known : (d : Data) → are_known (misformed d)
  forms_known null = refl
  forms_known (boolean b) = refl
  forms_known (number n) = whole_known (not (is_whole (number n)))
  forms_known (string s) = refl
  forms_known (array ds) = array_known (each_misformed ds) (each_known ds)
  forms_known (object ms) = refl

  each_known : (ds : Items) → all_known (each_misformed ds)
  each_known no_items = refl
  each_known (item d ds) = and_from _ _ (forms_known d) (each_known ds)

pub misformed_known : (d : Data) (place : List Part) → Contains (misformed d) place → IsTrue (has_known_keys place)
misformed_known d place among = list_all_at has_known_keys (misformed d) (forms_known d) among.0 place (at_contained (misformed d) place among)
