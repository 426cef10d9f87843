-- How many elements of a list pass a test: none, or at most one.
use Rattle.std.proofs.Common.{◌≡◌, ℕ, zero, suc, ◌≤◌, Bool, true, false, cond, List, [], ◌∷◌, length, refl, sym, ap, ◌∙◌, arith}
use Rattle.std.specs.Prelude.{IsTrue}
use Rattle.std.specs.List.{count_by, filter}
use Rattle.std.proofs.lemmas.Bool.{cases_Bool, false≢true}
use Rattle.std.proofs.lemmas.List.Sums.{length-filter}
use Rattle.std.proofs.lemmas.Option.{same_Some, none-some}
use Rattle.base_laws.specs.Places.{IsAt}
use Rattle.std.proofs.Common.{inl, inr}

module _ {X : Type 0} (p : X → Bool) where
  -- no element passes
  abbrev pub PassesNowhere : List X → Type 0
  PassesNowhere xs = (n : ℕ) (x : X) → IsAt xs n x → ¬ IsTrue (p x)

  -- two places of elements that pass are the same
  abbrev pub PassesOnce : List X → Type 0
  PassesOnce xs = (n o : ℕ) (x y : X) → IsAt xs n x → IsAt xs o y → IsTrue (p x) → IsTrue (p y) → n ≡ o

  filtered_yes : (x : X) (xs : List X) → p x ≡ true → length (filter p (x ∷ xs)) ≡ suc (length (filter p xs))
  filtered_yes x xs holds = ap (λ b. length (cond b (x ∷ filter p xs) (filter p xs))) holds

  filtered_no : (x : X) (xs : List X) → p x ≡ false → length (filter p (x ∷ xs)) ≡ length (filter p xs)
  filtered_no x xs fails = ap (λ b. length (cond b (x ∷ filter p xs) (filter p xs))) fails

  -- an element that passes is counted
  some_filtered : (xs : List X) (n : ℕ) (x : X) → IsAt xs n x → IsTrue (p x) → 1 ≤ length (filter p xs)
  some_filtered [] n x there passes = absurd (none-some x there)
  some_filtered (z ∷ xs) zero x there passes =
      let holds : p z ≡ true = ap p (same_Some z x there) ∙ passes in omega (arith, filtered_yes z xs holds)
  some_filtered (z ∷ xs) (suc n) x there passes =
      let rest = some_filtered xs n x there passes in
      elim (cases_Bool (p z)) [
        | inl holds ↦ omega (arith, filtered_yes z xs holds)
        | inr fails ↦ omega (arith, filtered_no z xs fails)
      ]

  none_filtered : (xs : List X) → PassesNowhere xs → length (filter p xs) ≡ 0
  none_filtered [] none = refl
  none_filtered (z ∷ xs) none = elim (cases_Bool (p z)) [
    | inl holds ↦ absurd (none 0 z refl holds)
    | inr fails ↦ filtered_no z xs fails ∙ none_filtered xs (λ n. none (suc n))
  ]

  once_filtered : (xs : List X) → PassesOnce xs → length (filter p xs) ≤ 1
  once_filtered [] once = omega arith
  once_filtered (z ∷ xs) once = elim (cases_Bool (p z)) [
    | inl holds ↦
        (let none = none_filtered xs (λ n x there passes. let same = once 0 (suc n) z x refl there holds passes in absurd (omega arith)) in
        omega (arith, filtered_yes z xs holds))
    | inr fails ↦
        (let rest = once_filtered xs (λ n o x y at_x at_y first second. let same = once (suc n) (suc o) x y at_x at_y first second in omega arith) in
        omega (arith, filtered_no z xs fails))
  ]

  filtered_once : (xs : List X) → length (filter p xs) ≤ 1 → PassesOnce xs
  filtered_once [] few n o x y at_x at_y first second = absurd (none-some x at_x)
  filtered_once (z ∷ xs) few zero zero x y at_x at_y first second = refl
  filtered_once (z ∷ xs) few zero (suc o) x y at_x at_y first second =
      let holds : p z ≡ true = ap p (same_Some z x at_x) ∙ first in
      absurd (omega (arith, filtered_yes z xs holds, some_filtered xs o y at_y second))
  filtered_once (z ∷ xs) few (suc n) zero x y at_x at_y first second =
      let holds : p z ≡ true = ap p (same_Some z y at_y) ∙ second in
      absurd (omega (arith, filtered_yes z xs holds, some_filtered xs n x at_x first))
  filtered_once (z ∷ xs) few (suc n) (suc o) x y at_x at_y first second =
      let fewer : length (filter p xs) ≤ 1 = elim (cases_Bool (p z)) [
        | inl holds ↦ omega (arith, filtered_yes z xs holds)
        | inr fails ↦ omega (arith, filtered_no z xs fails)
      ] in
      ap suc (filtered_once xs fewer n o x y at_x at_y first second)

  -- at most one element passes exactly where two that pass stand at the same place
  pub counted_once : (xs : List X) → PassesOnce xs → count_by p xs ≤ 1
  counted_once xs once = omega (arith, length-filter p xs, once_filtered xs once)

  pub once_counted : (xs : List X) → count_by p xs ≤ 1 → PassesOnce xs
  once_counted xs few = filtered_once xs (omega (arith, length-filter p xs))

  -- and none does where none is counted
  pub counted_nowhere : (xs : List X) → PassesNowhere xs → count_by p xs ≡ 0
  counted_nowhere xs none = sym (length-filter p xs) ∙ none_filtered xs none

  pub nowhere_counted : (xs : List X) → count_by p xs ≡ 0 → PassesNowhere xs
  nowhere_counted xs none n x there passes = omega (arith, length-filter p xs, some_filtered xs n x there passes)
