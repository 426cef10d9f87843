use mir.Val.{SFits}
use Rattle.std.proofs.Common.{rules, w64}
use Rattle.std.proofs.lemmas.Int.{to_z-of_z}
use Rattle.partial_state.proofs.partial.Partial.cut.Goals as goal

pub returns-in-UpTo-clause-narrowed : goal.returns-in-UpTo-clause-narrowed
returns-in-UpTo-clause-narrowed c =
    let fits : SFits w64 c.in-UpTo.n = search rules in
    rw c.in-UpTo.is (simp to_z-of_z at c.at_most.ensures)

pub returns-in-From-clause-narrowed : goal.returns-in-From-clause-narrowed
returns-in-From-clause-narrowed c =
    let fits : SFits w64 c.in-From.n = search rules in
    rw c.in-From.is (simp to_z-of_z at c.at_least.ensures)

pub returns-in-Without-clause-narrowed : goal.returns-in-Without-clause-narrowed
returns-in-Without-clause-narrowed c =
    let fits : SFits w64 c.in-Without.n = search rules in
    rw c.in-Without.is (simp to_z-of_z at c.remove.ensures.narrowed)
