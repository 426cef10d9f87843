-- Tests of lists that are mapped, filtered and joined.
use Rattle.std.proofs.Common.{◌≡◌, ℕ, zero, suc, Bool, true, false, cond, List, [], ◌∷◌, ◌++◌, map, refl, ap, sym, ◌∙◌, subst}
use Rattle.std.specs.Prelude.{IsTrue}
use Rattle.std.specs.List.{list_all, filter, flat_map}
use Rattle.std.proofs.lemmas.Bool.{and_parts, and_from, false≢true}
use Rattle.std.proofs.lemmas.Option.{same_Some, none-some}
use Rattle.std.proofs.lemmas.List.Folds.{list_all-append, list_all-map}
use Rattle.base_laws.specs.Places.{IsAt}
use Rattle.base_laws.proofs.Places.{filter_at}
use Rattle.base_laws.proofs.Tests.{list_all_at, list_all_from}

module _ {A B : Type 0} (p : B → Bool) (f : A → B) (xs : List A) where
  -- what f gives of each element passes, so all that is mapped does
  pub mapped_all : ((k : ℕ) (x : A) → IsAt xs k x → IsTrue (p (f x))) → IsTrue (list_all p (map f xs))
  mapped_all each = list_all-map p f xs ∙ list_all_from (λ x. p (f x)) xs each

  -- and the other way round
  pub mapped_each : IsTrue (list_all p (map f xs)) → (k : ℕ) (x : A) → IsAt xs k x → IsTrue (p (f x))
  mapped_each all = list_all_at (λ x. p (f x)) xs (sym (list_all-map p f xs) ∙ all)

module _ {A : Type 0} (p q : A → Bool) where
  -- what is filtered passes where each that the filter lets through does
  pub filtered_all : (xs : List A) → ((k : ℕ) (x : A) → IsAt xs k x → IsTrue (q x) → IsTrue (p x)) → IsTrue (list_all p (filter q xs))
  filtered_all xs each = list_all_from p (filter q xs) (λ k x at. let found = filter_at q xs k x at in each found.0 x found.1 found.2)

  -- and the other way round
  pub filtered_each : (xs : List A) → IsTrue (list_all p (filter q xs)) → (k : ℕ) (x : A) → IsAt xs k x → IsTrue (q x) → IsTrue (p x)
  filtered_each [] all k x at lets = absurd (none-some x at)
  filtered_each (y ∷ ys) all k x at lets = by (q y) refl all (filtered_each ys) k at
    where
      by : (b : Bool) → q y ≡ b → IsTrue (list_all p (cond b (y ∷ filter q ys) (filter q ys)))
          → (IsTrue (list_all p (filter q ys)) → (k : ℕ) (x : A) → IsAt ys k x → IsTrue (q x) → IsTrue (p x)) → (k : ℕ) → IsAt (y ∷ ys) k x → IsTrue (p x)
      by true is all rest zero at = subst (λ z. IsTrue (p z)) (same_Some y x at) (and_parts (p y) (list_all p (filter q ys)) all).0
      by true is all rest (suc k) at = rest (and_parts (p y) (list_all p (filter q ys)) all).1 k x at lets
      by false is all rest zero at = absurd (false≢true (sym is ∙ ap q (same_Some y x at) ∙ lets))
      by false is all rest (suc k) at = rest all k x at lets

module _ {A : Type 0} (p : A → Bool) where
  pub joined_all : (xs ys : List A) → IsTrue (list_all p xs) → IsTrue (list_all p ys) → IsTrue (list_all p (xs ++ ys))
  joined_all xs ys front back = list_all-append p xs ys ∙ and_from _ _ front back

  pub joined_parts : (xs ys : List A) → IsTrue (list_all p (xs ++ ys)) → IsTrue (list_all p xs) × IsTrue (list_all p ys)
  joined_parts xs ys all = and_parts (list_all p xs) (list_all p ys) (sym (list_all-append p xs ys) ∙ all)

  -- lists that pass each pass one after the other
  pub flat_all : {B : Type 0} (f : B → List A) (xs : List B) → ((x : B) → IsTrue (list_all p (f x))) → IsTrue (list_all p (flat_map f xs))
  flat_all f [] each = refl
  flat_all f (x ∷ xs) each = joined_all (f x) (flat_map f xs) (each x) (flat_all f xs each)

  -- and the other way round
  pub flat_each : {B : Type 0} (f : B → List A) (xs : List B) → IsTrue (list_all p (flat_map f xs)) → (k : ℕ) (x : B) → IsAt xs k x → IsTrue (list_all p (f x))
  flat_each f [] all k x at = absurd (none-some x at)
  flat_each f (y ∷ ys) all zero x at =
      subst (λ z. IsTrue (list_all p (f z))) (same_Some y x at) (joined_parts (f y) (flat_map f ys) all).0
  flat_each f (y ∷ ys) all (suc k) x at = flat_each f ys (joined_parts (f y) (flat_map f ys) all).1 k x at
