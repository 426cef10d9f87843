use Rattle.std.proofs.Common.{rules, ◌≡◌, ◌<◌, ◌∷◌, ◌++◌, [], ◌∙◌, ap, sym, subst, ℤ, pos, to_z, of_z, w64, arith, SFits}
use Rattle.std.specs.Prelude.{◌+ℤ◌, ◌-ℤ◌, ◌≤ℤ◌, nat_abs}
use Rattle.std.proofs.lemmas.Int.{ints, to_z-of_z}
use Rattle.config_value.specs.declared.literal.Literal.TheVariants.{ValueIsNot}
use Rattle.reason_trail.proofs.GapsLeft.{IsGoingOver, fewer_left, going_start, going_below, going_next, going_end}
use Rattle.reason_trail.proofs.appended.push_gaps.Goals as goal

-- the value after a gap, as it is computed
to_next : (high gap : ℤ) → SFits w64 high → SFits w64 gap → (gap +ℤ pos 1) ≤ℤ to_z w64 (of_z w64 high) → to_z w64 (of_z w64 (to_z w64 (of_z w64 gap) +ℤ pos 1)) ≡ gap +ℤ pos 1
to_next high gap top fits below = omega (arith, ints, top, fits, below)

pub loop-gap-init : goal.loop-gap-init
loop-gap-init c =
    let low : SFits w64 c.low-from.result = search rules in
    let high : SFits w64 c.high-high.result = search rules in
    going_start c.args.i c.args.attr c.args.state.now c.requires c.low-from.ensures.formed c.args.into.now _ _
    (to_z-of_z w64 c.low-from.result low ∙ c.low-from.ensures.least) (to_z-of_z w64 c.high-high.result high ∙ c.high-high.ensures)

-- a gap is below the greatest value
pub overflow_add-from : goal.overflow_add-from
overflow_add-from c =
    let high : SFits w64 c.high-high.result = search rules in
    let gap : SFits w64 c.in-Some.gap = search rules in
    let below = (going_below c.args.i c.args.attr c.args.state.now c.requires c.low-from.ensures.formed c.args.into.now c.loop-gap.into _ _ c.loop-gap.invariant c.in-Some.gap c.in-Some.ensures).1 in
    omega (arith, ints, high, gap, below)

pub loop-gap-smaller : goal.loop-gap-smaller
loop-gap-smaller c =
    let gap : SFits w64 c.in-Some.gap = search rules in
    let below = going_below c.args.i c.args.attr c.args.state.now c.requires c.low-from.ensures.formed c.args.into.now c.loop-gap.into _ _ c.loop-gap.invariant c.in-Some.gap c.in-Some.ensures in
    let next : to_z w64 (of_z w64 (to_z w64 (of_z w64 c.in-Some.gap) +ℤ pos 1)) ≡ c.in-Some.gap +ℤ pos 1 = to_next c.high-high.result c.in-Some.gap (search rules) gap below.1 in
    subst (λ u. nat_abs (to_z w64 (of_z w64 c.high-high.result) -ℤ u) < nat_abs (to_z w64 (of_z w64 c.high-high.result) -ℤ to_z w64 c.loop-gap.from-bits)) (sym next)
    (fewer_left _ c.in-Some.gap _ below.0 below.1)

pub loop-gap-preserved : goal.loop-gap-preserved
loop-gap-preserved c =
    let gap : SFits w64 c.in-Some.gap = search rules in
    let below = going_below c.args.i c.args.attr c.args.state.now c.requires c.low-from.ensures.formed c.args.into.now c.loop-gap.into _ _ c.loop-gap.invariant c.in-Some.gap c.in-Some.ensures in
    let next : to_z w64 (of_z w64 (to_z w64 (of_z w64 c.in-Some.gap) +ℤ pos 1)) ≡ c.in-Some.gap +ℤ pos 1 = to_next c.high-high.result c.in-Some.gap (search rules) gap below.1 in
    subst (λ u. IsGoingOver c.args.i c.args.attr c.args.state.now c.args.into.now c.push.new.self (to_z w64 (of_z w64 c.high-high.result)) u) (sym next)
    (going_next c.args.i c.args.attr c.args.state.now c.requires c.low-from.ensures.formed c.args.into.now c.loop-gap.into _ _ c.loop-gap.invariant c.in-Some.gap c.push.new.self c.in-Some.ensures
    (c.in_ok-push.ensures.pushed ∙ ap (λ u. c.loop-gap.into ++ ValueIsNot c.args.i c.args.attr u ∷ []) (to_z-of_z w64 c.in-Some.gap gap)))

pub returns-clause-described : goal.returns-clause-described
returns-clause-described c =
    going_end c.args.i c.args.attr c.args.state.now c.requires c.low-from.ensures.formed c.args.into.now c.loop-gap.into _ _ c.loop-gap.invariant c.in_default.ensures
