-- What a search for the first item or the first place finds, step by step.
use Rattle.std.proofs.Common.{◌≡◌, ℕ, zero, suc, ◌+◌, ◌<◌, ◌≤◌, ◌∙◌, ap, sym, subst, Bool, true, nat_lt, List, [], ◌∷◌, length, get_or, Option, Some, None, inl, inr, arith}
use Rattle.std.specs.Prelude.{slice_get}
use Rattle.std.specs.List.{position, position_or_len}
use Rattle.std.proofs.lemmas.Option.{same_Some, none-some, slice_get_within, slice_get-get_or, get_or_from_slice_get}
use Rattle.std.proofs.lemmas.List.Quantifiers.{position-Some}
use Rattle.std.proofs.lemmas.Bool.{lt-ltb, cases_lt}
use Rattle.answer_check.specs.steps.Finds.{FindsItem, FindsPlace}

-- ---- by `position`

module _ {X : Type 0} (p : X → Bool) where
  -- an element at this place passes
  pub record Passes (xs : List X) (k : ℕ) : Type 0 where
    pub element : X
    pub there : slice_get xs k ≡ Some element
    pub passes : p element ≡ true

  position_at_most : (xs : List X) (k : ℕ) (x : X) → slice_get xs k ≡ Some x → p x ≡ true → position_or_len p xs ≤ k
  position_at_most [] k x there passes = absurd (none-some x there)
  position_at_most (y ∷ xs) zero x there passes = let head : p y ≡ true = ap p (same_Some y x there) ∙ passes in grind (arith)
  position_at_most (y ∷ xs) (suc k) x there passes = let rest = position_at_most xs k x there passes in grind (arith)

  none_passes : (xs : List X) → None ≡ position p xs → (k : ℕ) → Passes xs k → ⊥
  none_passes xs none k passing =
      let low = position_at_most xs k passing.element passing.there passing.passes in
      let within : k < length xs = slice_get_within xs k passing.element passing.there in
      let found : nat_lt (position_or_len p xs) (length xs) ≡ true = lt-ltb _ _ (omega arith) in
      absurd (grind (arith))

  some_passes : (xs : List X) (k : ℕ) (d : X) → position p xs ≡ Some k → FindsItem (Passes xs) (Some k)
  some_passes xs k d found =
      let first = position-Some p xs k d found in (
        record { element = get_or xs k d; there = slice_get-get_or xs k d first.0; passes = first.1 },
        λ j lower passing.
            let same : get_or xs j d ≡ passing.element = get_or_from_slice_get xs j passing.element d passing.there in
            let fails = first.2 j lower in
            let passes = passing.passes in
            absurd cc,
      )

  -- what `position` finds
  pub finds_position : (xs : List X) (o : Option ℕ) → o ≡ position p xs → FindsItem (Passes xs) o
  finds_position xs None is = none_passes xs is
  finds_position [] (Some k) is = absurd cc
  finds_position (d ∷ xs) (Some k) is = some_passes (d ∷ xs) k d (sym is)

-- the first that has P is the first that has Q, where these are the same
pub finds_same : (P Q : ℕ → Type 0) (o : Option ℕ) → ((k : ℕ) → P k → Q k) → ((k : ℕ) → Q k → P k) → FindsItem P o → FindsItem Q o
finds_same P Q None to from none = λ k q. none k (from k q)
finds_same P Q (Some k) to from found = (to k found.0, λ j lower q. found.1 j lower (from j q))

-- ---- by a loop

module _ (P : ℕ → Type 0) where
  -- no number below n has P
  abbrev pub NoItemBelow : ℕ → Type 0
  NoItemBelow n = (k : ℕ) → k < n → P k → ⊥

  pub no_item_next : (n : ℕ) → NoItemBelow n → (P n → ⊥) → NoItemBelow (n + 1)
  no_item_next n below here k low has = elim (cases_lt k n) [
    | inl lower ↦ below k lower has
    | inr upper ↦ (let same : k ≡ n = omega arith in here (subst P same has))
  ]

module _ (P : ℕ → ℕ → Type 0) where
  -- no instance below n has a place that has P
  abbrev pub NoPlaceBelow : ℕ → Type 0
  NoPlaceBelow n = (i k : ℕ) → i < n → P i k → ⊥

  pub no_place_next : (n : ℕ) → NoPlaceBelow n → ((k : ℕ) → P n k → ⊥) → NoPlaceBelow (n + 1)
  no_place_next n below here i k low has = elim (cases_lt i n) [
    | inl lower ↦ below i k lower has
    | inr upper ↦ (let Has : ℕ → Type 0 = λ j. P j k in let same : i ≡ n = omega arith in here k (subst Has same has))
  ]

  pub first_place : (n k : ℕ) → NoPlaceBelow n → FindsItem (P n) (Some k) → FindsPlace P (Some (record { instance = n; item = k }))
  first_place n k below found = record { here = found.0; none_lower = below; none_before = found.1 }

  pub no_place : (n : ℕ) → NoPlaceBelow n → ((i k : ℕ) → P i k → i < n) → FindsPlace P None
  no_place n below within i k has = below i k (within i k has) has
