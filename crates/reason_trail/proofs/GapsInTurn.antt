-- Going over the gaps of an attribute's values by the first one from a value on.
use Rattle.std.proofs.Common.{◌≡◌, ℕ, zero, suc, ◌+◌, ◌<◌, ℤ, pos, not, Bool, true, false, cond, List, [], ◌∷◌, ◌++◌, map, refl, ap, ap₂, sym, ◌∙◌, inl, inr, Some, None, arith}
use Rattle.std.specs.Prelude.{IsTrue, int_le, ◌+ℤ◌, ◌-ℤ◌, ◌≤ℤ◌, nat_abs}
use Rattle.std.specs.List.{filter, range_with_len}
use Rattle.std.proofs.lemmas.Int.{ints}
use Rattle.std.proofs.lemmas.Bool.{cases_Bool, false≢true}
use Rattle.std.proofs.lemmas.List.{map-append}
use Rattle.std.proofs.lemmas.List.Elements.{filter-append}
use Rattle.base_laws.proofs.Ranges.{range_split}
use Rattle.domain_store.specs.Gaps.{IsGap, IsNextGap}
use Rattle.state_space.specs.Values.{Values, has_value, least, greatest, are_values}
use Rattle.state_space.specs.Descriptions.{numbers_between, gaps}
use Rattle.state_space.proofs.ValuesLaws.{le-greatest, greatest-in}

-- numbers counted from one, and those counted from a later one
shifted : (low : ℤ) (s a n : ℕ) → map (λ k. low +ℤ pos k) (range_with_len (a + s) n) ≡ map (λ k. (low +ℤ pos s) +ℤ pos k) (range_with_len a n)
shifted low s a zero = refl
shifted low s a (suc n) = ap₂ (λ v vs. v ∷ vs) same (ap (λ k. map (λ k. low +ℤ pos k) (range_with_len k n)) next ∙ shifted low s (a + 1) n)
  where
    same : low +ℤ pos (a + s) ≡ (low +ℤ pos s) +ℤ pos a
    same = grind (arith, ints)

    next : a + s + 1 ≡ a + 1 + s
    next = omega arith

module _ (p : ℤ → Bool) (low : ℤ) where
  -- none passes
  none_pass : (a n : ℕ) → ((k : ℕ) → k < a + n → p (low +ℤ pos k) ≡ false) → filter p (map (λ k. low +ℤ pos k) (range_with_len a n)) ≡ []
  none_pass a zero fails = refl
  none_pass a (suc n) fails =
      ap (λ b. cond b ((low +ℤ pos a) ∷ filter p (map (λ k. low +ℤ pos k) (range_with_len (a + 1) n))) (filter p (map (λ k. low +ℤ pos k) (range_with_len (a + 1) n)))) (fails a (omega arith))
      ∙ none_pass (a + 1) n (λ k below. fails k (omega (arith, below)))

  -- up to the first that passes none does
  first_passes : (j r : ℕ) → p (low +ℤ pos j) ≡ true → ((k : ℕ) → k < j → p (low +ℤ pos k) ≡ false)
      → filter p (map (λ k. low +ℤ pos k) (range_with_len 0 (j + suc r)))
      ≡ (low +ℤ pos j) ∷ filter p (map (λ k. (low +ℤ pos (j + 1)) +ℤ pos k) (range_with_len 0 r))
  first_passes j r is fails =
      let number = λ (k : ℕ). low +ℤ pos k in
      let rest = filter p (map number (range_with_len (j + 1) r)) in
      ap (λ ns. filter p (map number ns)) (range_split 0 j r ∙ ap (λ m. range_with_len 0 j ++ m ∷ range_with_len (m + 1) r) (omega arith))
      ∙ ap (filter p) (map-append number (range_with_len 0 j) (j ∷ range_with_len (j + 1) r))
      ∙ filter-append p (map number (range_with_len 0 j)) (number j ∷ map number (range_with_len (j + 1) r))
      ∙ ap (λ vs. vs ++ filter p (number j ∷ map number (range_with_len (j + 1) r))) (none_pass 0 j (λ k below. fails k (omega (arith, below))))
      ∙ ap (λ b. cond b (number j ∷ rest) rest) is
      ∙ ap (λ vs. number j ∷ filter p vs) (ap (λ m. map number (range_with_len m r)) (omega arith) ∙ shifted low (j + 1) 0 r)

-- the numbers from one to another, parted at one between them
apart : (a v b : ℤ) → a ≤ℤ v → (v +ℤ pos 1) ≤ℤ b → nat_abs (b -ℤ a) ≡ nat_abs (v -ℤ a) + suc (nat_abs (b -ℤ (v +ℤ pos 1)))
apart a v b late below = grind (arith, ints, late, below)

reached : (a v : ℤ) → a ≤ℤ v → a +ℤ pos (nat_abs (v -ℤ a)) ≡ v
reached a v late = grind (arith, ints, late)

one_more : (a v : ℤ) (n : ℕ) → a +ℤ pos n ≡ v → a +ℤ pos (n + 1) ≡ v +ℤ pos 1
one_more a v n is = grind (arith, ints, is)

-- the gaps from a value on
pub gaps_from : Values → ℤ → List ℤ
gaps_from d from = filter (λ v. not (has_value d v)) (numbers_between from (greatest d))

pub all_gaps : (d : Values) → gaps_from d (least d) ≡ gaps d
unfolding gaps_from
all_gaps d = refl

module _ (d : Values) (formed : IsTrue (are_values d)) where
  -- a gap is below the greatest value
  pub gap_below : (v : ℤ) → IsGap (has_value d) v → (v +ℤ pos 1) ≤ℤ greatest d
  gap_below v gap =
      let most = le-greatest d gap.greater formed gap.there in
      let above = gap.above in
      elim (cases_Bool (int_le (v +ℤ pos 1) (greatest d))) [
        | inl below ↦ grind (arith, ints, below)
        | inr not_below ↦
            let same : v ≡ gap.greater = grind (arith, ints, most, above, not_below) in
            absurd (false≢true (sym gap.missing ∙ ap (has_value d) same ∙ gap.there))
      ]

  module _ (from : ℤ) (within : from ≤ℤ greatest d) where
    -- what is missing from it on is no earlier than the first gap
    there_before : (v : ℤ) → v ≤ℤ greatest d → ¬ IsGap (has_value d) v → not (has_value d v) ≡ false
    there_before v below none = elim (cases_Bool (has_value d v)) [
      | inl there ↦ ap not there
      | inr missing ↦ absurd (none (record { missing = missing; greater = greatest d; above = below; there = greatest-in d formed }))
    ]

    -- where there is no gap from it on, no more are left
    pub gaps_last : IsNextGap (has_value d) from None → gaps_from d from ≡ []
    unfolding gaps_from
    gaps_last none = none_pass (λ v. not (has_value d v)) from 0 (nat_abs (greatest d -ℤ from)) each
      where
        after : (k : ℕ) → from ≤ℤ (from +ℤ pos k)
        after k = grind (arith, ints)

        inside : (k : ℕ) → k < 0 + nat_abs (greatest d -ℤ from) → (from +ℤ pos k) ≤ℤ greatest d
        inside k below = grind (arith, ints, below, within)

        each : (k : ℕ) → k < 0 + nat_abs (greatest d -ℤ from) → not (has_value d (from +ℤ pos k)) ≡ false
        each k below = there_before (from +ℤ pos k) (inside k below) (none (from +ℤ pos k) (after k))

    -- the first gap, and those from the next value on
    pub gaps_next : (v : ℤ) → IsNextGap (has_value d) from (Some v) → gaps_from d from ≡ v ∷ gaps_from d (v +ℤ pos 1)
    unfolding gaps_from
    gaps_next v next =
        let late = next.0 in
        let below = gap_below v next.1 in
        let j = nat_abs (v -ℤ from) in
        let r = nat_abs (greatest d -ℤ (v +ℤ pos 1)) in
        ap (λ n. filter (λ v. not (has_value d v)) (map (λ k. from +ℤ pos k) (range_with_len 0 n))) (all late below)
        ∙ first_passes (λ v. not (has_value d v)) from j r (ap (λ u. not (has_value d u)) (at late) ∙ ap not next.1.missing) (each late below)
        ∙ ap₂ (λ u low. u ∷ filter (λ v. not (has_value d v)) (map (λ k. low +ℤ pos k) (range_with_len 0 r))) (at late) (on late)
      where
        at : from ≤ℤ v → from +ℤ pos (nat_abs (v -ℤ from)) ≡ v
        at late = reached from v late

        on : from ≤ℤ v → from +ℤ pos (nat_abs (v -ℤ from) + 1) ≡ v +ℤ pos 1
        on late = one_more from v (nat_abs (v -ℤ from)) (at late)

        all : from ≤ℤ v → (v +ℤ pos 1) ≤ℤ greatest d → nat_abs (greatest d -ℤ from) ≡ nat_abs (v -ℤ from) + suc (nat_abs (greatest d -ℤ (v +ℤ pos 1)))
        all late below = apart from v (greatest d) late below

        after : (k : ℕ) → from ≤ℤ (from +ℤ pos k)
        after k = grind (arith, ints)

        inside : (k : ℕ) → k < nat_abs (v -ℤ from) → from ≤ℤ v → (v +ℤ pos 1) ≤ℤ greatest d → (from +ℤ pos k) ≤ℤ greatest d
        inside k before late below = grind (arith, ints, before, late, below)

        early : (k : ℕ) → k < nat_abs (v -ℤ from) → from ≤ℤ v → v ≤ℤ (from +ℤ pos k) → ⊥
        early k before late first = grind (arith, ints, before, late, first)

        each : from ≤ℤ v → (v +ℤ pos 1) ≤ℤ greatest d → (k : ℕ) → k < nat_abs (v -ℤ from) → not (has_value d (from +ℤ pos k)) ≡ false
        each late below k before =
            there_before (from +ℤ pos k) (inside k before late below) (λ gap. early k before late (next.2 (from +ℤ pos k) (after k) gap))
