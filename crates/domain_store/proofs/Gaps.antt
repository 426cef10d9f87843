-- The first gap of a set of whole numbers, and of ascending intervals from their front.
use Rattle.std.proofs.Common.{◌≡◌, ◌∙◌, ap, sym, subst, refl, Bool, true, false, List, [], ◌∷◌, inl, inr, ℤ, pos, Option, None, Some, arith}
use Rattle.std.specs.Prelude.{IsTrue, slice_get, ◌||◌, int_le, int_lt, ◌≤ℤ◌, ◌+ℤ◌}
use Rattle.std.specs.List.{list_all}
use Rattle.std.proofs.lemmas.Int.{ints}
use Rattle.std.proofs.lemmas.Bool.{and_parts, or_cases, or_left, or_right, cases_Bool, false≢true}
use Rattle.std.proofs.lemmas.Option.{same_Some, none-some}
use Rattle.domain_store.specs.declared.interval.Interval.{Interval}
use Rattle.domain_store.specs.Gaps.{IsGap, IsNextGap}
use Rattle.domain_store.specs.Intervals.{is_inside, is_in_one, is_apart, ascend_apart}
use Rattle.domain_store.proofs.Intervals.{in_turn, past, inside_parts, low_inside, le-refl}

between : (a b c : ℤ) → a ≤ℤ b → b ≤ℤ c → a ≤ℤ c
between a b c low high = omega (arith, ints)

-- ---- sets that agree from a number on

module _ (has has' : ℤ → Bool) (from : ℤ) (same : (v : ℤ) → from ≤ℤ v → has v ≡ has' v) where
  gap_kept : (v : ℤ) → from ≤ℤ v → IsGap has v → IsGap has' v
  gap_kept v late gap = record {
    missing = sym (same v late) ∙ gap.missing;
    greater = gap.greater;
    above = gap.above;
    there = sym (same gap.greater (between from v gap.greater late gap.above)) ∙ gap.there;
  }

-- they have the same next gap
pub next_gap_kept : (has has' : ℤ → Bool) (from : ℤ) → ((v : ℤ) → from ≤ℤ v → has v ≡ has' v) → (next : Option ℤ)
    → IsNextGap has from next → IsNextGap has' from next
next_gap_kept has has' from same None none =
    λ v late gap. none v late (gap_kept has' has from (λ u after. sym (same u after)) v late gap)
next_gap_kept has has' from same (Some n) next = (
  next.0,
  gap_kept has has' from same n next.0 next.1,
  λ v late gap. next.2 v late (gap_kept has' has from (λ u after. sym (same u after)) v late gap),
)

-- ---- ascending intervals

outside_above : (r : Interval) (v : ℤ) → IsTrue (int_lt r.high v) → is_inside r v ≡ false
outside_above r v high = grind (arith, ints)

outside_below : (r : Interval) (v : ℤ) → IsTrue (int_lt v r.low) → is_inside r v ≡ false
outside_below r v low = grind (arith, ints)

-- what lies in neither of two lies in none
neither : (a b : Bool) → a ≡ false → b ≡ false → (a || b) ≡ false
neither a b first other = ap (λ x. x || b) first ∙ other

not_first : (a b : Bool) → (a || b) ≡ false → a ≡ false
not_first true b none = none
not_first false b none = refl

module _ (r : Interval) (rs : List Interval) (from : ℤ) (stand : IsTrue (ascend_apart (r ∷ rs))) where
  turn : IsTrue (int_le r.low r.high) × IsTrue (list_all (is_apart r) rs) × IsTrue (ascend_apart rs)
  turn = in_turn r rs stand

  -- below the others
  none_of_others : (v : ℤ) → IsTrue (int_le v (r.high +ℤ pos 1)) → is_in_one rs v ≡ false
  none_of_others v low = elim (cases_Bool (is_in_one rs v)) [
    | inl there ↦ absurd (apart (past r rs v turn.1 there))
    | inr none ↦ none
  ]
    where
      apart : IsTrue (int_lt (r.high +ℤ pos 1) v) → ⊥
      apart high = grind (arith, ints)

  -- past an interval that lies below, the gaps are those of the others
  pub next_gap_past : IsTrue (int_lt r.high from) → (next : Option ℤ) → IsNextGap (is_in_one rs) from next
      → IsNextGap (is_in_one (r ∷ rs)) from next
  next_gap_past below next is = next_gap_kept (is_in_one rs) (is_in_one (r ∷ rs)) from same next is
    where
      late : (v : ℤ) → from ≤ℤ v → IsTrue (int_lt r.high v)
      late v after = grind (arith, ints)

      same : (v : ℤ) → from ≤ℤ v → is_in_one rs v ≡ is_in_one (r ∷ rs) v
      same v after = ap (λ b. b || is_in_one rs v) (sym (outside_above r v (late v after)))

  -- what is below the first interval is missing
  pub gap_before : IsTrue (int_lt from r.low) → IsNextGap (is_in_one (r ∷ rs)) from (Some from)
  gap_before below = (
    grind (arith, ints),
    record {
      missing = neither (is_inside r from) (is_in_one rs from) (outside_below r from below) (none_of_others from (low turn.0));
      greater = r.low;
      above = grind (arith, ints);
      there = or_left (is_inside r r.low) (is_in_one rs r.low) (low_inside r turn.0);
    },
    λ v late gap. late,
  )
    where
      low : IsTrue (int_le r.low r.high) → IsTrue (int_le from (r.high +ℤ pos 1))
      low some = grind (arith, ints)

  -- from a number of the first interval on, what is missing is above the interval
  above_first : IsTrue (int_le r.low from) → (v : ℤ) → from ≤ℤ v → IsGap (is_in_one (r ∷ rs)) v → (r.high +ℤ pos 1) ≤ℤ v
  above_first within v late gap = elim (cases_Bool (int_lt r.high v)) [
    | inl past ↦ next past
    | inr not ↦ absurd (false≢true (sym (not_first (is_inside r v) (is_in_one rs v) gap.missing) ∙ inside not))
  ]
    where
      next : IsTrue (int_lt r.high v) → (r.high +ℤ pos 1) ≤ℤ v
      next past = grind (arith, ints)

      inside : int_lt r.high v ≡ false → IsTrue (is_inside r v)
      inside not = grind (arith, ints)

  -- behind the last interval there is none
  pub no_gap_in_last : IsTrue (int_le r.low from) → slice_get rs 0 ≡ None → IsNextGap (is_in_one (r ∷ rs)) from None
  no_gap_in_last within last v late gap = elim (or_cases (is_inside r gap.greater) (is_in_one rs gap.greater) gap.there) [
    | inl here ↦ beyond (above_first within v late gap) gap.above (inside_parts r gap.greater here).1
    | inr later ↦ none_of_none rs last later
  ]
    where
      beyond : (r.high +ℤ pos 1) ≤ℤ v → v ≤ℤ gap.greater → IsTrue (int_le gap.greater r.high) → ⊥
      beyond next above high = grind (arith, ints)

      none_of_none : (qs : List Interval) → slice_get qs 0 ≡ None → IsTrue (is_in_one qs gap.greater) → ⊥
      none_of_none [] at there = false≢true there
      none_of_none (q ∷ qs) at there = none-some q (sym at)

  -- the next interval is apart from the first
  pub next_apart : (s : Interval) → slice_get rs 0 ≡ Some s → IsTrue (int_lt (r.high +ℤ pos 1) s.low) × IsTrue (is_in_one rs s.low)
  next_apart s next = of_others rs next turn.1 turn.2
    where
      of_others : (qs : List Interval) → slice_get qs 0 ≡ Some s → IsTrue (list_all (is_apart r) qs) → IsTrue (ascend_apart qs)
          → IsTrue (int_lt (r.high +ℤ pos 1) s.low) × IsTrue (is_in_one qs s.low)
      of_others [] at apart rise = absurd (none-some s at)
      of_others (q ∷ qs) at apart rise =
          let same : q ≡ s = same_Some q s at in (
            subst (λ t. IsTrue (int_lt (r.high +ℤ pos 1) t.low)) same (and_parts (is_apart r q) (list_all (is_apart r) qs) apart).0,
            subst (λ t. IsTrue (is_in_one (q ∷ qs) t.low)) same (or_left (is_inside q q.low) (is_in_one qs q.low) (low_inside q (in_turn q qs rise).0)),
          )

  -- between two intervals it is the number behind the first
  pub gap_behind : (s : Interval) → slice_get rs 0 ≡ Some s → IsTrue (int_le r.low from) → IsTrue (int_le from r.high)
      → IsNextGap (is_in_one (r ∷ rs)) from (Some (r.high +ℤ pos 1))
  gap_behind s next within low = (
    behind,
    record {
      missing = neither (is_inside r (r.high +ℤ pos 1)) (is_in_one rs (r.high +ℤ pos 1)) (outside_above r (r.high +ℤ pos 1) high) (none_of_others (r.high +ℤ pos 1) (le-refl (r.high +ℤ pos 1)));
      greater = s.low;
      above = to_le (next_apart s next).0;
      there = or_right (is_inside r s.low) (is_in_one rs s.low) (next_apart s next).1;
    },
    above_first within,
  )
    where
      behind : from ≤ℤ (r.high +ℤ pos 1)
      behind = grind (arith, ints)

      high : IsTrue (int_lt r.high (r.high +ℤ pos 1))
      high = grind (arith, ints)

      to_le : IsTrue (int_lt (r.high +ℤ pos 1) s.low) → (r.high +ℤ pos 1) ≤ℤ s.low
      to_le apart = grind (arith, ints)
