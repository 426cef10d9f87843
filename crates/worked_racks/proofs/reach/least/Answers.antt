use Rattle.std.proofs.Common.{◌≡◌, ◌∙◌, ap, sym, subst, Some, to_z, of_z, w64, rules}
use Rattle.std.proofs.lemmas.Int.{ints, to_z-of_z}
use Rattle.worked_racks.specs.steps.Beyond.{IsAtLeast}
use Rattle.worked_racks.proofs.UnmetLaws.{at_least_bound}
use Rattle.worked_racks.proofs.reach.least.Goals as goal

pub returns-in-Number : goal.returns-in-Number
returns-in-Number c =
    let own : to_z w64 (of_z w64 c.in-Number.low) ≡ c.in-Number.low = search (rules, ints, to_z-of_z) in
    let told = c.in_ok-low.ensures ∙ ap Some c.in-Number.is in
    subst (IsAtLeast c.args.problem.now c.args.e.now) (sym own) (at_least_bound c.args.problem.now c.args.e.now c.in-Number.low c.in-Number.high c.model-model.ensures.valid told)
