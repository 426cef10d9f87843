use mir.Val.{SFits}
use Rattle.std.proofs.Common.{rules, w64}
use Rattle.std.proofs.lemmas.Int.{to_z-of_z}
use Rattle.partial_state.proofs.values.AttributeDomain.answer.Goals as goal

pub returns-in-UpTo : goal.returns-in-UpTo
returns-in-UpTo c =
    let fits : SFits w64 c.in-UpTo.n = search rules in
    rw c.in-UpTo.is (simp to_z-of_z at c.answer_up_to.ensures)

pub returns-in-From : goal.returns-in-From
returns-in-From c =
    let fits : SFits w64 c.in-From.n = search rules in
    rw c.in-From.is (simp to_z-of_z at c.answer_from.ensures)

pub returns-in-Without : goal.returns-in-Without
returns-in-Without c =
    let fits : SFits w64 c.in-Without.n = search rules in
    rw c.in-Without.is (simp to_z-of_z at c.answer_without.ensures)
