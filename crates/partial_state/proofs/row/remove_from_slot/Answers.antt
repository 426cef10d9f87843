use mir.Val.{SFits}
use Rattle.std.proofs.Common.{not, w64}
use Rattle.std.specs.Ordering.{int_eq}
use Rattle.std.proofs.lemmas.Int.{to_z-of_z}
use Rattle.partial_state.proofs.StateChanges.{slot_narrowed}
use Rattle.partial_state.proofs.row.remove_from_slot.Goals as goal

pub returns-clause-narrowed : goal.returns-clause-narrowed
returns-clause-narrowed c =
    let fits : SFits w64 c.args.n = c.ranges.n in
    slot_narrowed c.args.slot.now _ c.remove.new.self (λ v. not (int_eq v c.args.n)) c.in_ok-remove-in-Some.field-0 c.in-Some.is
    (simp to_z-of_z at c.in_ok-remove-in-Some.ensures.narrowed)
