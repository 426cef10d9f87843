-- The ends of the values are apart from the range.
use Rattle.std.proofs.Common.{rules, ◌≡◌, [], ◌∷◌, ap, ap₂, sym, subst, ◌∙◌, w64, to_z, of_z}
use Rattle.std.proofs.lemmas.Int.{ints, to_z-of_z}
use Rattle.std.specs.Prelude.{IsSome, int_lt}
use Rattle.config_value.specs.declared.literal.Literal.TheVariants.{Kind, AtMost, AtLeast}
use Rattle.state_space.specs.State.{domain_at, low_at, high_at}
use Rattle.reason_trail.specs.Propagators.{IsFailure}
use Rattle.type_narrowing.specs.steps.Narrowing.{resting_on}
use Rattle.type_narrowing.proofs.Failures.{answered}
use Rattle.type_narrowing.proofs.RangeReasons.{values_there, below_fails, above_fails}
use Rattle.type_narrowing.proofs.values.range_failure.Goals as goal

pub low-least-requires : goal.low-least-requires
low-least-requires c =
    subst (λ s. IsSome (domain_at s c.args.i c.args.attr)) (sym c.state.ensures.state)
    (values_there c.args.trail.now.job c.args.trail.now.state c.args.i c.args.kind c.args.attr c.args.low c.args.high c.job-task.ensures.right.task c.state.ensures.problem c.requires.sole c.requires.declared)

pub high-greatest-requires : goal.high-greatest-requires
high-greatest-requires c =
    subst (λ s. IsSome (domain_at s c.args.i c.args.attr)) (sym c.state-2.ensures.state)
    (values_there c.args.trail.now.job c.args.trail.now.state c.args.i c.args.kind c.args.attr c.args.low c.args.high c.job-task.ensures.right.task c.state.ensures.problem c.requires.sole c.requires.declared)

pub returns-then-greatest-low : goal.returns-then-greatest-low
returns-then-greatest-low c =
    let t = c.args.trail.now in
    let greatest = to_z w64 (of_z w64 c.high-greatest.result) in
    let own : greatest ≡ c.high-greatest.result = search (rules, ints, to_z-of_z) in
    let low : to_z w64 (of_z w64 c.args.low) ≡ c.args.low = search (rules, ints, to_z-of_z) in
    let is : greatest ≡ high_at t.state c.args.i c.args.attr =
    own ∙ c.high-greatest.ensures ∙ ap (λ s. high_at s c.args.i c.args.attr) c.state-2.ensures.state in
    let less = ap₂ int_lt (sym is) (sym low) ∙ c.if-greatest-low.true in
    answered t c.failed.result (Kind c.args.i c.args.kind ∷ AtMost c.args.i c.args.attr greatest ∷ []) c.failed.ensures
    (subst (λ v. IsFailure t.job t.state (resting_on (Kind c.args.i c.args.kind ∷ AtMost c.args.i c.args.attr v ∷ []))) (sym is)
    (below_fails t.job t.state c.args.i c.args.kind c.args.attr c.args.low c.args.high c.job-task.ensures.right.task c.state.ensures.problem c.requires.sole c.requires.declared less))

pub returns-then-high-least : goal.returns-then-high-least
returns-then-high-least c =
    let t = c.args.trail.now in
    let least = to_z w64 (of_z w64 c.low-least.result) in
    let own : least ≡ c.low-least.result = search (rules, ints, to_z-of_z) in
    let high : to_z w64 (of_z w64 c.args.high) ≡ c.args.high = search (rules, ints, to_z-of_z) in
    let is : least ≡ low_at t.state c.args.i c.args.attr =
    own ∙ c.low-least.ensures.least ∙ ap (λ s. low_at s c.args.i c.args.attr) c.state.ensures.state in
    let more = ap₂ int_lt (sym high) (sym is) ∙ c.if-high-least.true in
    answered t c.failed-then-high-least.result (Kind c.args.i c.args.kind ∷ AtLeast c.args.i c.args.attr least ∷ []) c.failed-then-high-least.ensures
    (subst (λ v. IsFailure t.job t.state (resting_on (Kind c.args.i c.args.kind ∷ AtLeast c.args.i c.args.attr v ∷ []))) (sym is)
    (above_fails t.job t.state c.args.i c.args.kind c.args.attr c.args.low c.args.high c.job-task.ensures.right.task c.state.ensures.problem c.requires.sole c.requires.declared more))
