use Rattle.std.proofs.Common.{◌≡◌, ◌∙◌, ap}
use Rattle.cfg_io.specs.Counts.{with_fault}
use Rattle.cfg_io.specs.FaultCounts.{counts_of}
use Rattle.cfg_io.proofs.CountLaws.{kept_in_room, fault_in_room}
use Rattle.cfg_io.proofs.memory_shelf.MemoryShelf.count_fault.Goals as goal

-- there is room for the name
pub raise-requires : goal.raise-requires
raise-requires c =
    rw c.in_ok-make_room.ensures.ok (kept_in_room c.args.name.now (counts_of c.self.inside.faults))

-- the room that was made does not show behind the fault
pub returns-clause-ok : goal.returns-clause-ok
returns-clause-ok c =
    let faults : counts_of c.raise.new.self ≡ with_fault c.args.name.now (counts_of c.self.inside.faults) =
    c.raise.ensures ∙ ap (with_fault c.args.name.now) c.in_ok-make_room.ensures.ok
    ∙ fault_in_room c.args.name.now (counts_of c.self.inside.faults) in
    rw (← c.self.view_is, ← faults) c.count_call.ensures
