-- What an instance has of an attribute or a port, by the place of its id.
use Rattle.std.proofs.Common.{◌≡◌, ℕ, ◌==◌, ◌<◌, ◌≤◌, ◌⊎◌, Bool, true, false, cond, ◌&&◌, List, [], refl, ap, sym, ◌∙◌, Some, None, Option, ℤ, pos, inl, inr, length, get_or, arith, lt-ltb, ltb-true}
use Rattle.std.specs.Prelude.{slice_get, slice_index_or, nat_lt, position, if◌then◌else◌}
use Rattle.std.specs.Option.{option_map, option_map_or, is_some}
use Rattle.std.specs.List.{list_any, position_or_len}
use Rattle.std.proofs.lemmas.Bool.{false_from_ne_true}
use Rattle.std.proofs.lemmas.List.Folds.{find_at}
use Rattle.std.proofs.lemmas.Option.{slice_get_cases}
use Rattle.base_laws.proofs.Searches.{any_found}
use Rattle.prod_model.specs.declared.model.Model.{Model}
use Rattle.prod_model.specs.declared.model.AttrAt.{AttrAt}
use Rattle.prod_model.specs.declared.model.PortAt.{PortAt}
use Rattle.prod_model.specs.Taxonomy.{attributes_at, ports_at}
use Rattle.config_value.specs.declared.configuration.Instance.{Instance}
use Rattle.config_value.specs.Value.{value_of, links_of}
use Rattle.config_value.specs.Literals.{has_attribute, has_port, has_value_that, has_links_that}
use Rattle.literal_book.specs.steps.Told.{value_told, links_told, value_told_at, links_told_at}

-- an element passes where the first place of one is within the list
found_within : {A : Type 0} (p : A → Bool) (xs : List A) → list_any p xs ≡ nat_lt (position_or_len p xs) (length xs)
found_within p xs = any_found p xs ∙ (ap is_some (find_at p xs) ∙ by (slice_get_cases xs (position_or_len p xs)).1)
  where
    n : ℕ
    n = position_or_len p xs

    by : ((x : _) × (n < length xs) × (slice_get xs n ≡ Some x) × (get_or xs n x ≡ x)) ⊎ ((length xs ≤ n) × (slice_get xs n ≡ None)) → is_some (slice_get xs n) ≡ nat_lt n (length xs)
    by (inl w) = ap is_some w.2 ∙ sym (lt-ltb n (length xs) w.1)
    by (inr w) = ap is_some w.1 ∙ sym (false_from_ne_true (nat_lt n (length xs)) (λ low. let less = ltb-true n (length xs) low in absurd (omega (arith, less, w.0))))

-- what is told where some element passes is what stands at the first place of one
told : {A B : Type 0} (p : A → Bool) (f : ℕ → B) (otherwise : B) (xs : List A)
    → (if list_any p xs then Some (option_map_or f (position p xs) otherwise) else None) ≡ option_map f (position p xs)
told p f otherwise xs =
    ap (λ b. if b then Some (option_map_or f (position p xs) otherwise) else None) (found_within p xs)
    ∙ by (nat_lt (position_or_len p xs) (length xs)) (position_or_len p xs)
  where
    by : (b : Bool) (n : ℕ) → (if b then Some (option_map_or f (cond b (Some n) None) otherwise) else None) ≡ option_map f (cond b (Some n) None)
    by true n = refl
    by false n = refl

pub value_told_is : (m : Model) (x : Instance) (id : ℕ)
    → value_told m x id ≡ option_map (λ k. slice_index_or x.values k (pos 0)) (position (λ a. a.id == id) (attributes_at m x.kind))
value_told_is m x id = told (λ (a : AttrAt). a.id == id) (λ k. slice_index_or x.values k (pos 0)) (pos 0) (attributes_at m x.kind)

pub links_told_is : (m : Model) (x : Instance) (id : ℕ)
    → links_told m x id ≡ option_map (λ k. slice_index_or x.links k []) (position (λ p. p.id == id) (ports_at m x.kind))
links_told_is m x id = told (λ (p : PortAt). p.id == id) (λ k. slice_index_or x.links k []) [] (ports_at m x.kind)

-- ---- an instance of a configuration

-- a test of what is told
if_told : {B : Type 0} (there : Bool) (value : B) (test : B → Bool) → (there && test value) ≡ option_map_or test (if there then Some value else None) false
if_told true value test = refl
if_told false value test = refl

-- what an instance has passes exactly where what is told of it passes
told_that : {B : Type 0} (there : Instance → Bool) (value : Instance → B) (test : B → Bool) (o : Option Instance)
    → option_map_or (λ x. there x && test (value x)) o false
    ≡ option_map_or test (option_map_or (λ x. if there x then Some (value x) else None) o None) false
told_that there value test None = refl
told_that there value test (Some x) = if_told (there x) (value x) test

pub value_that : (m : Model) (c : List Instance) (i id : ℕ) (test : ℤ → Bool)
    → has_value_that m c i id test ≡ option_map_or test (value_told_at m c i id) false
value_that m c i id test = told_that (λ x. has_attribute m x.kind id) (λ x. value_of m x id) test (slice_get c i)

pub links_that : (m : Model) (c : List Instance) (i id : ℕ) (test : List ℕ → Bool)
    → has_links_that m c i id test ≡ option_map_or test (links_told_at m c i id) false
links_that m c i id test = told_that (λ x. has_port m x.kind id) (λ x. links_of m x id) test (slice_get c i)
