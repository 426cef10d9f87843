-- What is left of literals without those that others imply, and without those that always hold.
use Rattle.std.proofs.Common.{◌≡◌, ℕ, zero, suc, ◌+◌, ◌<◌, ◌≤◌, Bool, true, false, not, cond, List, [], ◌∷◌, ◌++◌, length, take, get_or, refl, inl, inr, sym, ap, subst, ◌∙◌, le_refl, arith, length-append}
use Rattle.std.specs.Prelude.{IsTrue, if◌then◌else◌}
use Rattle.std.specs.List.{list_all, list_any, filter}
use Rattle.std.proofs.lemmas.Bool.{and_parts, and_from, not-true, false≢true, false_from_ne_true}
use Rattle.std.proofs.lemmas.List.{take_more}
use Rattle.std.proofs.lemmas.List.Folds.{list_all-append}
use Rattle.std.proofs.lemmas.List.Sums.{length-filter, count_by-le-length}
use Rattle.std.proofs.lemmas.Option.{none-some, same_Some}
use Rattle.base_laws.specs.Places.{IsAt}
use Rattle.base_laws.proofs.Places.{at_front, at_back, at_either, filter_at}
use Rattle.base_laws.proofs.Tests.{list_all_at, list_any_at, list_any_from}
use Rattle.prod_model.specs.declared.model.Model.{Model}
use Rattle.prod_model.specs.Valid.{IsValid}
use Rattle.config_value.specs.declared.configuration.Instance.{Instance}
use Rattle.config_value.specs.declared.literal.Literal.{Literal}
use Rattle.config_value.specs.Satisfies.{satisfies}
use Rattle.config_value.specs.Literals.{has_literal}
use Rattle.literal_book.specs.Nogoods.{has_literals}
use Rattle.state_space.specs.Root.{root}
use Rattle.state_space.proofs.EntailsLaws.{entailed_holds}
use Rattle.state_space.proofs.NewState.{root_is_state}
use Rattle.state_space.proofs.RootLaws.{root_covers}
use Rattle.conflict_learn.specs.Implied.{implies}
use Rattle.conflict_learn.specs.steps.Shortened.{AreApart, IsShortened, kept_with, holds_always}
use Rattle.conflict_learn.proofs.ImpliedLaws.{implied_holds}

-- ---- tests

-- what passes where a filter leaves it, and where it doesn't, passes
all_of_filtered : {X : Type 0} (p test : X → Bool) → ((x : X) → p x ≡ false → IsTrue (test x)) → (xs : List X)
    → IsTrue (list_all test (filter p xs)) → IsTrue (list_all test xs)
all_of_filtered p test out [] h = h
all_of_filtered {X} p test out (y ∷ xs) h = by (p y) refl h (all_of_filtered p test out xs)
  where
    by : (b : Bool) → p y ≡ b → IsTrue (list_all test (cond b (y ∷ filter p xs) (filter p xs)))
        → (IsTrue (list_all test (filter p xs)) → IsTrue (list_all test xs)) → IsTrue (list_all test (y ∷ xs))
    by true is h rest = let both = and_parts (test y) _ h in and_from (test y) _ both.0 (rest both.1)
    by false is h rest = and_from (test y) _ (out y is) (rest h)

all_with : {X : Type 0} (test : X → Bool) (xs : List X) (x : X) → IsTrue (list_all test xs) → IsTrue (test x) → IsTrue (list_all test (xs ++ x ∷ []))
all_with test xs x all last = list_all-append test xs (x ∷ []) ∙ and_from (list_all test xs) _ all (and_from (test x) true last refl)

filter-le : {X : Type 0} (p : X → Bool) (xs : List X) → length (filter p xs) ≤ length xs
filter-le p xs = omega (arith, length-filter p xs, count_by-le-length p xs)

true_from_not : (b : Bool) → not b ≡ false → IsTrue b
true_from_not true is = refl
true_from_not false is = absurd (false≢true (sym is))

-- ---- lists whose literals don't imply one another

module _ (m : Model) where
  -- the literal implies none of them, and none of them implies it
  abbrev IsApartFrom : Literal → List Literal → Type 0
  IsApartFrom x xs = (k : ℕ) (y : Literal) → IsAt xs k y → (implies m x y ≡ false) × (implies m y x ≡ false)

  -- each is so beside those after it
  abbrev Apart : List Literal → Type 0
  Apart [] = Unit {0}
  Apart (x ∷ xs) = IsApartFrom x xs × Apart xs

  apart_places : (xs : List Literal) → Apart xs → AreApart m xs
  apart_places [] apart j k a b at_a at_b other = absurd (none-some a at_a)
  apart_places (x ∷ xs) apart zero zero a b at_a at_b other = absurd (other refl)
  apart_places (x ∷ xs) apart zero (suc k) a b at_a at_b other =
      ap (λ y. implies m y b) (sym (same_Some x a at_a)) ∙ (apart.0 k b at_b).0
  apart_places (x ∷ xs) apart (suc j) zero a b at_a at_b other =
      ap (implies m a) (sym (same_Some x b at_b)) ∙ (apart.0 j a at_a).1
  apart_places (x ∷ xs) apart (suc j) (suc k) a b at_a at_b other =
      apart_places xs apart.1 j k a b at_a at_b (λ same. other (ap suc same))

  places_apart : (xs : List Literal) → AreApart m xs → Apart xs
  places_apart [] apart = tt
  places_apart (x ∷ xs) apart = (
    (λ k y at. (apart 0 (suc k) x y refl at (λ same. omega (arith, same)), apart (suc k) 0 y x at refl (λ same. omega (arith, same)))),
    places_apart xs (λ j k a b at_a at_b other. apart (suc j) (suc k) a b at_a at_b (λ same. omega (arith, same, other (omega (arith, same))))),
  )

  apart_filter : (p : Literal → Bool) (xs : List Literal) → Apart xs → Apart (filter p xs)
  apart_filter p [] apart = tt
  apart_filter p (y ∷ xs) apart = by (p y) (apart_filter p xs apart.1)
    where
      by : (b : Bool) → Apart (filter p xs) → Apart (cond b (y ∷ filter p xs) (filter p xs))
      by true rest = ((λ k z at. let there = filter_at p xs k z at in apart.0 there.0 z there.1), rest)
      by false rest = rest

  apart_with : (xs : List Literal) (l : Literal) → Apart xs → IsApartFrom l xs → Apart (xs ++ l ∷ [])
  apart_with [] l apart beside = ((λ k y at. absurd (none-some y at)), tt)
  apart_with (x ∷ xs) l apart beside = (here, apart_with xs l apart.1 (λ k y at. beside (suc k) y at))
    where
      last : (j : ℕ) (y : Literal) → IsAt (l ∷ []) j y → l ≡ y
      last zero y at = same_Some l y at
      last (suc j) y at = absurd (none-some y at)

      here : IsApartFrom x (xs ++ l ∷ [])
      here k y at = elim (at_either xs (l ∷ []) k y at) [
        | inl front ↦ apart.0 k y front
        | inr back ↦
            let is = last back.0 y back.2 in let both = beside 0 x refl in
            (ap (implies m x) (sym is) ∙ both.1, ap (λ z. implies m z x) (sym is) ∙ both.0)
      ]

-- ---- one literal more

module _ (m : Model) (valid : IsValid m) (done kept : List Literal) (l : Literal) (so_far : IsShortened m done kept) where
  among_more : (k : ℕ) (x : Literal) → IsAt kept k x → (j : ℕ) × IsAt (done ++ l ∷ []) j x
  among_more k x at = let there = so_far.among k x at in (there.0, at_front done (l ∷ []) there.0 x there.1)

  -- one that is kept implies it
  stays : IsTrue (list_any (λ k. implies m k l) kept) → IsShortened m (done ++ l ∷ []) kept
  stays implied = record {
    no_longer = omega (arith, so_far.no_longer, length-append done (l ∷ []));
    among = among_more;
    same = (λ c all.
        let k = list_any_at (λ k. implies m k l) kept implied in
        all_with (has_literal m c) done l (so_far.same c all)
        (implied_holds m k.1 l c valid k.3 (list_all_at (has_literal m c) kept all k.0 k.1 k.2)));
    apart = so_far.apart;
  }

  -- those that it doesn't imply
  abbrev rest : List Literal
  rest = filter (λ k. not (implies m l k)) kept

  beside : list_any (λ k. implies m k l) kept ≡ false → IsApartFrom m l rest
  beside none k y at =
      let there = filter_at (λ k. not (implies m l k)) kept k y at in
      (not-true _ there.2, false_from_ne_true _ (λ is. false≢true (sym none ∙ list_any_from (λ k. implies m k l) kept there.0 y there.1 is)))

  among_rest : (k : ℕ) (x : Literal) → IsAt (rest ++ l ∷ []) k x → (j : ℕ) × IsAt (done ++ l ∷ []) j x
  among_rest k x at = elim (at_either rest (l ∷ []) k x at) [
    | inl front ↦ let there = filter_at (λ k. not (implies m l k)) kept k x front in among_more there.0 x there.1
    | inr back ↦ (length done + back.0, at_back done (l ∷ []) back.0 x back.2)
  ]

  same_rest : (c : List Instance) → IsTrue (has_literals m c (rest ++ l ∷ [])) → IsTrue (has_literals m c (done ++ l ∷ []))
  same_rest c all =
      let parts = and_parts (has_literals m c rest) _ (sym (list_all-append (has_literal m c) rest (l ∷ [])) ∙ all) in
      let last = (and_parts (has_literal m c l) true parts.1).0 in
      all_with (has_literal m c) done l
      (so_far.same c (all_of_filtered (λ k. not (implies m l k)) (has_literal m c)
      (λ k is. implied_holds m l k c valid (true_from_not (implies m l k) is) last) kept parts.0)) last

  -- none that is kept implies it
  joins : list_any (λ k. implies m k l) kept ≡ false → IsShortened m (done ++ l ∷ []) (rest ++ l ∷ [])
  joins none = record {
    no_longer = omega (arith, so_far.no_longer, length-append done (l ∷ []), length-append rest (l ∷ []), filter-le (λ k. not (implies m l k)) kept);
    among = among_rest;
    same = same_rest;
    apart = apart_places m (rest ++ l ∷ []) (apart_with m rest l (apart_filter m (λ k. not (implies m l k)) kept (places_apart m kept so_far.apart)) (beside none));
  }

  pub one_more : IsShortened m (done ++ l ∷ []) (kept_with m kept l)
  one_more = by (list_any (λ k. implies m k l) kept) refl
    where
      by : (b : Bool) → list_any (λ k. implies m k l) kept ≡ b → IsShortened m (done ++ l ∷ []) (if b then kept else rest ++ l ∷ [])
      by true implied = stays implied
      by false none = joins none

-- the step of a loop over the literals
pub next_shortened : (m : Model) → IsValid m → (literals kept new : List Literal) (i : ℕ) (otherwise : Literal) → i < length literals
    → IsShortened m (take i literals) kept → new ≡ kept_with m kept (get_or literals i otherwise) → IsShortened m (take (i + 1) literals) new
next_shortened m valid literals kept new i otherwise within so_far is =
    subst (λ done. IsShortened m done new) (sym (take_more literals i otherwise within))
    (subst (IsShortened m (take i literals ++ get_or literals i otherwise ∷ [])) (sym is)
    (one_more m valid (take i literals) kept (get_or literals i otherwise) so_far))

pub none_yet : (m : Model) → IsShortened m [] []
none_yet m = record {
  no_longer = le_refl 0;
  among = (λ k x at. absurd (none-some x at));
  same = (λ c all. refl);
  apart = (λ j k a b at_a at_b other. absurd (none-some a at_a));
}

-- ---- literals that always hold

-- where a configuration that satisfies the model has the others, it has all
pub all_with_always : (m : Model) (c : List Instance) → IsValid m → IsTrue (satisfies m c) → (ls : List Literal)
    → IsTrue (has_literals m c (filter (λ l. not (holds_always m l)) ls)) → IsTrue (has_literals m c ls)
all_with_always m c valid satisfied ls all = all_of_filtered (λ l. not (holds_always m l)) (has_literal m c)
    (λ l is. entailed_holds m (root m) l c (root_is_state m valid) (true_from_not (holds_always m l) is) (root_covers m c valid satisfied)) ls all
