use Rattle.std.proofs.Common.{rules, ◌≡◌, ◌∷◌, ◌∙◌, ap, sym, subst, List, to_z, of_z, w64, ℤ, pos, ◌+ℤ◌, SFits, Option, None, Some, false, arith}
use Rattle.std.specs.Prelude.{IsTrue, int_lt, int_le}
use Rattle.std.proofs.lemmas.Int.{ints}
use Rattle.domain_store.specs.declared.interval.Interval.{Interval}
use Rattle.domain_store.specs.Gaps.{IsNextGap}
use Rattle.domain_store.specs.Intervals.{ascend_apart, is_in_one}
use Rattle.domain_store.proofs.Gaps.{next_gap_past, no_gap_in_last, gap_before, gap_behind, next_apart}
use Rattle.domain_store.proofs.int_domain.+gap_between.Goals as goal

in_whole : (list list' : List Interval) (from : ℤ) (next next' : Option ℤ) → list ≡ list' → next ≡ next'
    → IsNextGap (is_in_one list') from next' → IsNextGap (is_in_one list) from next
in_whole list list' from next next' whole shown is =
    subst (λ l. IsNextGap (is_in_one l) from next) (sym whole) (subst (λ n. IsNextGap (is_in_one list') from n) (sym shown) is)

not_under : (a b : ℤ) → int_lt a b ≡ false → IsTrue (int_le b a)
not_under a b not = grind (arith, ints)

-- past the first interval
pub returns-then-first-from : goal.returns-then-first-from
returns-then-first-from t c =
    let r = c.in_ok-first.first.now in
    let rs = c.in_ok-first.rest.now in
    let whole : c.args.intervals.now ≡ r ∷ rs = c.in_ok-first.ensures.cases.0 in
    let stand : IsTrue (ascend_apart (r ∷ rs)) = subst (λ l. IsTrue (ascend_apart l)) whole c.requires in
    let from : to_z w64 (of_z w64 c.args.from) ≡ c.args.from = search rules in
    let high : to_z w64 (of_z w64 r.high) ≡ r.high = search rules in
    let below : IsTrue (int_lt r.high c.args.from) = simp (high, from) at c.if-first-from.true in
    subst (λ l. IsNextGap (is_in_one l) c.args.from c.gap_between.result) (sym whole)
    (next_gap_past r rs c.args.from stand below c.gap_between.result (simp from at c.gap_between.ensures))

-- below the first interval
pub returns-then-from-first : goal.returns-then-from-first
returns-then-from-first t c =
    let r = c.in_ok-first.first.now in
    let rs = c.in_ok-first.rest.now in
    let whole : c.args.intervals.now ≡ r ∷ rs = c.in_ok-first.ensures.cases.0 in
    let stand : IsTrue (ascend_apart (r ∷ rs)) = subst (λ l. IsTrue (ascend_apart l)) whole c.requires in
    let from : to_z w64 (of_z w64 c.args.from) ≡ c.args.from = search rules in
    let low : to_z w64 (of_z w64 r.low) ≡ r.low = search rules in
    let below : IsTrue (int_lt c.args.from r.low) = simp (from, low) at c.if-from-first.true in
    in_whole c.args.intervals.now (r ∷ rs) c.args.from _ (Some c.args.from) whole (ap Some from) (gap_before r rs c.args.from stand below)

-- in the last interval
pub returns-in_err-next : goal.returns-in_err-next
returns-in_err-next t c =
    let r = c.in_ok-first.first.now in
    let rs = c.in_ok-first.rest.now in
    let whole : c.args.intervals.now ≡ r ∷ rs = c.in_ok-first.ensures.cases.0 in
    let stand : IsTrue (ascend_apart (r ∷ rs)) = subst (λ l. IsTrue (ascend_apart l)) whole c.requires in
    let from : to_z w64 (of_z w64 c.args.from) ≡ c.args.from = search rules in
    let low : to_z w64 (of_z w64 r.low) ≡ r.low = search rules in
    let within : IsTrue (int_le r.low c.args.from) = not_under c.args.from r.low (simp (from, low) at c.if-from-first.false) in
    in_whole c.args.intervals.now (r ∷ rs) c.args.from _ None whole c.from_residual-in_err-next.ensures
    (no_gap_in_last r rs c.args.from stand within (sym c.in_err-next.ensures.value))

-- the next interval is above
pub prove-unreachable-requires : goal.prove-unreachable-requires
prove-unreachable-requires t c =
    let r = c.in_ok-first.first.now in
    let rs = c.in_ok-first.rest.now in
    let s = c.in_ok-next.next.now in
    let whole : c.args.intervals.now ≡ r ∷ rs = c.in_ok-first.ensures.cases.0 in
    let stand : IsTrue (ascend_apart (r ∷ rs)) = subst (λ l. IsTrue (ascend_apart l)) whole c.requires in
    let high : to_z w64 (of_z w64 r.high) ≡ r.high = search rules in
    let low : to_z w64 (of_z w64 s.low) ≡ s.low = search rules in
    let not : int_lt r.high s.low ≡ false = simp (high, low) at c.if-prove.true in
    crossed r.high s.low (next_apart r rs c.args.from stand s (sym c.in_ok-next.ensures.value)).0 not
  where
    crossed : (a b : ℤ) → IsTrue (int_lt (a +ℤ pos 1) b) → int_lt a b ≡ false → ⊥
    crossed a b apart not = grind (arith, ints)

-- behind the first interval
pub returns : goal.returns
returns t c =
    let r = c.in_ok-first.first.now in
    let rs = c.in_ok-first.rest.now in
    let s = c.in_ok-next.next.now in
    let whole : c.args.intervals.now ≡ r ∷ rs = c.in_ok-first.ensures.cases.0 in
    let stand : IsTrue (ascend_apart (r ∷ rs)) = subst (λ l. IsTrue (ascend_apart l)) whole c.requires in
    let from : to_z w64 (of_z w64 c.args.from) ≡ c.args.from = search rules in
    let first_low : to_z w64 (of_z w64 r.low) ≡ r.low = search rules in
    let high : to_z w64 (of_z w64 r.high) ≡ r.high = search rules in
    let low : to_z w64 (of_z w64 s.low) ≡ s.low = search rules in
    let within : IsTrue (int_le r.low c.args.from) = not_under c.args.from r.low (simp (from, first_low) at c.if-from-first.false) in
    let before : IsTrue (int_le c.args.from r.high) = not_under r.high c.args.from (simp (high, from) at c.if-first-from.false) in
    let shown : to_z w64 (of_z w64 (to_z w64 (of_z w64 r.high) +ℤ pos 1)) ≡ r.high +ℤ pos 1 =
    ap (λ z. to_z w64 (of_z w64 (z +ℤ pos 1))) high ∙ next_fits r.high s.low (search rules) (search rules) (simp (high, low) at c.if-prove.false) in
    in_whole c.args.intervals.now (r ∷ rs) c.args.from _ (Some (r.high +ℤ pos 1)) whole (ap Some shown)
    (gap_behind r rs c.args.from stand s (sym c.in_ok-next.ensures.value) within before)
  where
    next_fits : (a b : ℤ) → SFits w64 a → SFits w64 b → IsTrue (int_lt a b) → to_z w64 (of_z w64 (a +ℤ pos 1)) ≡ a +ℤ pos 1
    next_fits a b fits fits' before = omega (arith, ints)
