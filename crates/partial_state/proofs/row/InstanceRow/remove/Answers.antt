use mir.Val.{SFits}
use Rattle.std.proofs.Common.{◌<◌, length, sym, subst, not, w64}
use Rattle.std.specs.Prelude.{IsSome}
use Rattle.std.specs.Ordering.{int_eq}
use Rattle.std.proofs.lemmas.Int.{to_z-of_z}
use Rattle.state_space.specs.Made.{MadeInstance, domain_of}
use Rattle.partial_state.specs.contracts.row.InstanceRow.{the_view}
use Rattle.partial_state.proofs.StateChanges.{slot_below, slot_read, attribute_narrowed}
use Rattle.partial_state.proofs.row.InstanceRow.remove.Goals as goal

pub returns-clause-narrowed : goal.returns-clause-narrowed
returns-clause-narrowed c =
    let fits : SFits w64 c.args.n = c.ranges.n in
    let old : MadeInstance = the_view c.self.inside in
    let HasIt : MadeInstance → Type 0 = λ x. IsSome (domain_of x c.args.attr) in
    let some : HasIt old = subst HasIt (sym c.self.view_is) c.requires in
    let below : c.args.attr < length old.domains = slot_below old.domains c.args.attr some in
    let slot = slot_read old.domains c.args.attr c.index_mut.result.now below c.index_mut.ensures.value in
    rw (← c.self.view_is)
    (attribute_narrowed old c.args.attr (λ v. not (int_eq v c.args.n)) c.in_ok-change.change c.index_mut.result.now c.remove_from_slot.new.slot slot
    (simp to_z-of_z at c.in_ok-change.ensures.narrowed))
