use mir.Val.{SFits}
use Rattle.std.proofs.Common.{w64}
use Rattle.std.proofs.lemmas.Int.{to_z-of_z}
use Rattle.partial_state.proofs.partial.Partial.at_most.Goals as goal

pub returns : goal.returns
returns c =
    let fits : SFits w64 c.args.n = c.ranges.n in
    simp to_z-of_z at c.narrow.ensures
