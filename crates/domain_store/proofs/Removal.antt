-- The answers of removing a number from a set.
use Rattle.std.proofs.Common.{◌≡◌, ◌∙◌, ap, ap₂, sym, subst, ℕ, suc, ◌+◌, ◌<◌, Bool, true, false, cond, ◌&&◌, ◌||◌, not, List, [], ◌∷◌, length, get_or, refl, ℤ, arith}
use Rattle.std.specs.Prelude.{IsTrue, Option, Some, None, nat_lt, ◌≤ℤ◌}
use Rattle.std.specs.Ordering.{int_eq}
use Rattle.std.specs.List.{list_any, position, position_or_len}
use Rattle.std.proofs.lemmas.Int.{ints}
use Rattle.std.proofs.lemmas.Bool.{and_from, false≢true}
use Rattle.std.proofs.lemmas.Bool.Decides.{nat_tests}
use Rattle.std.proofs.lemmas.Option.{same_Some, none-some}
use Rattle.domain_store.specs.declared.change.Change.TheVariants.{Same, Smaller, Empty}
use Rattle.domain_store.specs.declared.interval.Interval.{Interval}
use Rattle.domain_store.specs.Intervals.{is_other, is_inside, is_in_one, ascend_apart, are_intervals, IsLeastNumber, IsGreatestNumber, NarrowsNumbers}
use Rattle.domain_store.specs.steps.Ends.{low_of}
use Rattle.domain_store.specs.steps.Without.{without, replaced}
use Rattle.domain_store.proofs.Narrowing.{AllPass, empty_narrows, same_narrows, smaller_narrows}
use Rattle.domain_store.proofs.Intervals.{least}
use Rattle.domain_store.proofs.Cuts.{ascending}
use Rattle.domain_store.proofs.Without.{replaced_member, replaced_ascends}

-- ---- the place of the first that passes

module _ {X : Type 0} (p : X → Bool) where
  place_within : (xs : List X) → nat_lt (position_or_len p xs) (length xs) ≡ list_any p xs
  place_within [] = refl
  place_within (x ∷ xs) = by (place_within xs) (p x) refl
    where
      some_on : (k : ℕ) → nat_lt 0 (suc k) ≡ true
      some_on k = grind (arith, nat_tests)

      one_on : (m k : ℕ) → nat_lt (1 + m) (suc k) ≡ nat_lt m k
      one_on m k = grind (arith, nat_tests)

      by : nat_lt (position_or_len p xs) (length xs) ≡ list_any p xs → (b : Bool) → p x ≡ b → nat_lt (position_or_len p (x ∷ xs)) (length (x ∷ xs)) ≡ list_any p (x ∷ xs)
      by rest true is = rw is (some_on (length xs))
      by rest false is = rw is (one_on (position_or_len p xs) (length xs) ∙ rest)

  place_passes : (xs : List X) (any : X) → IsTrue (list_any p xs) → IsTrue (p (get_or xs (position_or_len p xs) any))
  place_passes [] any some = absurd (false≢true some)
  place_passes (x ∷ xs) any some = by (place_passes xs any) (p x) refl some
    where
      at : {b : Bool} → p x ≡ b → p (get_or (x ∷ xs) (position_or_len p (x ∷ xs)) any) ≡ p (get_or (x ∷ xs) (cond (not b) (1 + position_or_len p xs) 0) any)
      at is = ap (λ b. p (get_or (x ∷ xs) (cond (not b) (1 + position_or_len p xs) 0) any)) is

      one_on : (m : ℕ) → 1 + m ≡ suc m
      one_on m = omega arith

      by : (IsTrue (list_any p xs) → IsTrue (p (get_or xs (position_or_len p xs) any))) → (b : Bool) → p x ≡ b → IsTrue (list_any p (x ∷ xs))
          → IsTrue (p (get_or (x ∷ xs) (position_or_len p (x ∷ xs)) any))
      by rest true is some = at is ∙ is
      by rest false is some =
          at is
          ∙ ap (λ k. p (get_or (x ∷ xs) k any)) (one_on (position_or_len p xs))
          ∙ rest (sym (ap (λ b. b || list_any p xs) is) ∙ some)

  pub place_none : (xs : List X) → position p xs ≡ None → list_any p xs ≡ false
  place_none xs is = by (list_any p xs) (place_within xs) is
    where
      by : (b : Bool) → nat_lt (position_or_len p xs) (length xs) ≡ b → position p xs ≡ None → b ≡ false
      by false within is = refl
      by true within is = absurd (none-some (position_or_len p xs) (sym is ∙ ap (λ b. cond b (Some (position_or_len p xs)) None) within))

  pub place_some : (xs : List X) (any : X) (k : ℕ) → position p xs ≡ Some k
      → (k < length xs) × IsTrue (list_any p xs) × IsTrue (p (get_or xs k any))
  place_some xs any k is = by (list_any p xs) (place_within xs) refl
    where
      to_lt : (a b : ℕ) → nat_lt a b ≡ true → a < b
      to_lt a b is = grind (arith, nat_tests)

      by : (b : Bool) → nat_lt (position_or_len p xs) (length xs) ≡ b → list_any p xs ≡ b
          → (k < length xs) × IsTrue (list_any p xs) × IsTrue (p (get_or xs k any))
      by false within some = absurd (none-some k (sym (ap (λ b. cond b (Some (position_or_len p xs)) None) within) ∙ is))
      by true within some =
          let here : position_or_len p xs ≡ k = same_Some (position_or_len p xs) k (sym (ap (λ b. cond b (Some (position_or_len p xs)) None) within) ∙ is) in (
            to_lt k (length xs) (ap (λ i. nat_lt i (length xs)) (sym here) ∙ within),
            some,
            ap (λ i. p (get_or xs i any)) (sym here) ∙ place_passes xs any some,
          )

-- ---- the answers

one_differs : (a b n : ℤ) → (a ≡ b → ⊥) → ¬ IsTrue (is_other n a) → ¬ IsTrue (is_other n b) → ⊥
one_differs a b n differ first second = by (int_eq a n) (int_eq b n) refl refl
  where
    same : int_eq a n ≡ true → int_eq b n ≡ true → a ≡ b
    same p q = grind (arith, ints)

    by : (p q : Bool) → int_eq a n ≡ p → int_eq b n ≡ q → ⊥
    by true true p q = differ (same p q)
    by false q is isn't = first (ap not is)
    by true false p q = second (ap not q)

module _ (n : ℤ) (old : List Interval) where
  pub number_absent : IsTrue (are_intervals old) → is_in_one old n ≡ false → NarrowsNumbers (is_other n) Same old old
  number_absent h none = same_narrows is_in_one (is_other n) old old all (λ nothing. nothing (low_of old) some (all (low_of old) some))
    where
      some : IsTrue (is_in_one old (low_of old))
      some = (least old h).0

      all : AllPass is_in_one (is_other n) old old
      all v there = by (int_eq v n) refl
        where
          same : int_eq v n ≡ true → v ≡ n
          same is = grind (arith, ints)

          by : (b : Bool) → int_eq v n ≡ b → IsTrue (not b)
          by false is = refl
          by true is = absurd (false≢true (sym none ∙ ap (is_in_one old) (sym (same is)) ∙ there))

  pub only_number : (low high : ℤ) → IsLeastNumber old low → IsGreatestNumber old high → low ≡ high → IsTrue (is_in_one old n)
      → NarrowsNumbers (is_other n) Empty old old
  only_number low high first last same there =
      empty_narrows is_in_one (is_other n) old old
      (λ v is. by v low high same (first.1 v is) (last.1 v is) (first.1 n there) (last.1 n there))
      (λ all. not_other (all n there))
    where
      by : (v a b : ℤ) → a ≡ b → a ≤ℤ v → v ≤ℤ b → a ≤ℤ n → n ≤ℤ b → ¬ IsTrue (is_other n v)
      by v a b same p q r s other = grind (arith, ints)

      not_other : ¬ IsTrue (is_other n n)
      not_other other = grind (arith, ints)

module _ (n : ℤ) (old new : List Interval) (k : ℕ) (found any : Interval) (h : IsTrue (are_intervals old)) (low high : ℤ)
    (first : IsLeastNumber old low) (last : IsGreatestNumber old high) (differ : low ≡ high → ⊥) (within : k < length old)
    (read : found ≡ get_or old k any) (inside : IsTrue (is_inside found n)) (is : new ≡ replaced old k (without n found)) where
  left : (v : ℤ) → is_in_one new v ≡ (is_in_one old v && is_other n v)
  left v = ap (λ rs. is_in_one rs v) is ∙ replaced_member n found any k old within read inside (ascending (record { low = low; high = high }) old h) v

  pub number_removed : IsTrue (is_in_one old n) → NarrowsNumbers (is_other n) Smaller old new
  number_removed there =
      smaller_narrows is_in_one (is_other n) old new (λ all. not_other (all n there))
      (λ none. one_differs low high n differ (none low first.0) (none high last.0)) left
    where
      not_other : ¬ IsTrue (is_other n n)
      not_other other = grind (arith, ints)

  pub removal_formed : IsTrue (are_intervals new)
  removal_formed = by new (ap ascend_apart is ∙ replaced_ascends n found any k old within read inside (ascending (record { low = low; high = high }) old h)) some
    where
      some : ((v : ℤ) → is_in_one new v ≡ false) → ⊥
      some none = one_differs low high n differ (gone low first.0) (gone high last.0)
        where
          gone : (v : ℤ) → IsTrue (is_in_one old v) → ¬ IsTrue (is_other n v)
          gone v there other = false≢true (sym (none v) ∙ left v ∙ and_from (is_in_one old v) (is_other n v) there other)

      by : (rs : List Interval) → IsTrue (ascend_apart rs) → (((v : ℤ) → is_in_one rs v ≡ false) → ⊥) → IsTrue (are_intervals rs)
      by [] up some = absurd (some (λ v. refl))
      by (r ∷ rs) up some = up

-- ---- the same of a number and a list as they are shown

pub shown_absent : (n n' : ℤ) (old seen : List Interval) (result : Option ℕ) → n' ≡ n → seen ≡ old → result ≡ None
    → result ≡ position (λ r. is_inside r n') seen → is_in_one old n ≡ false
shown_absent n n' old seen result shown same none is =
    ap₂ is_in_one (sym same) (sym shown) ∙ place_none (λ r. is_inside r n') seen (sym is ∙ none)

module _ (n n' : ℤ) (old seen : List Interval) (k : ℕ) (any : Interval) (result : Option ℕ) (shown : n' ≡ n) (same : seen ≡ old)
    (some : result ≡ Some k) (is : result ≡ position (λ r. is_inside r n') seen) where
  there : (k < length seen) × IsTrue (is_in_one seen n') × IsTrue (is_inside (get_or seen k any) n')
  there = place_some (λ r. is_inside r n') seen any k (sym is ∙ some)

  pub shown_present : IsTrue (is_in_one old n)
  shown_present = ap₂ is_in_one (sym same) (sym shown) ∙ there.1

  pub shown_within : k < length old
  shown_within = subst (λ l. k < length l) same there.0

  pub shown_inside : IsTrue (is_inside (get_or old k any) n)
  shown_inside = ap₂ (λ l m. is_inside (get_or l k any) m) (sym same) (sym shown) ∙ there.2

  module _ (items seen' new : List Interval) (inner : items ≡ old) (read : seen' ≡ items) (h : IsTrue (are_intervals old)) (low high : ℤ)
      (first : IsLeastNumber old low) (last : IsGreatestNumber old high) (differ : low ≡ high → ⊥)
      (left : new ≡ replaced items k (without n' (get_or seen' k any))) where
    left_there : new ≡ replaced old k (without n (get_or old k any))
    left_there = left ∙ ap₂ (λ l xs. replaced l k xs) inner (ap₂ (λ m l. without m (get_or l k any)) shown (read ∙ inner))

    pub shown_removed : NarrowsNumbers (is_other n) Smaller old new
    shown_removed = number_removed n old new k (get_or old k any) any h low high first last differ shown_within refl shown_inside left_there shown_present

    pub shown_formed : IsTrue (are_intervals new)
    shown_formed = removal_formed n old new k (get_or old k any) any h low high first last differ shown_within refl shown_inside left_there
