use mir.Val.{SFits}
use Rattle.std.proofs.Common.{rules, w64}
use Rattle.std.proofs.lemmas.Int.{to_z-of_z}
use Rattle.partial_state.proofs.row.narrow_values.Goals as goal

pub returns-in-AtLeast : goal.returns-in-AtLeast
returns-in-AtLeast c =
    let fits : SFits w64 c.in-AtLeast.n = search rules in
    rw c.in-AtLeast.is (simp to_z-of_z at c.at_least.ensures)
