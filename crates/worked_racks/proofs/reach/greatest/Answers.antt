use Rattle.std.proofs.Common.{◌≡◌, ◌∙◌, ap, sym, subst, Some, to_z, of_z, w64, rules}
use Rattle.std.proofs.lemmas.Int.{ints, to_z-of_z}
use Rattle.worked_racks.specs.steps.Beyond.{IsAtMost}
use Rattle.worked_racks.proofs.UnmetLaws.{at_most_bound}
use Rattle.worked_racks.proofs.reach.greatest.Goals as goal

pub returns-in-Number : goal.returns-in-Number
returns-in-Number c =
    let own : to_z w64 (of_z w64 c.in-Number.high) ≡ c.in-Number.high = search (rules, ints, to_z-of_z) in
    let told = c.in_ok-high.ensures ∙ ap Some c.in-Number.is in
    subst (IsAtMost c.args.problem.now c.args.e.now) (sym own) (at_most_bound c.args.problem.now c.args.e.now c.in-Number.low c.in-Number.high c.model-model.ensures.valid told)
