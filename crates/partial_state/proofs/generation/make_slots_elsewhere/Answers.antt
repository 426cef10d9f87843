use Rattle.std.proofs.Common.{sym, arith}
use Rattle.std.specs.Option.{option_map}
use Rattle.state_space.specs.Ports.{made_elsewhere}
use Rattle.partial_state.proofs.Generations.{none_changed, one_changed, all_changed}
use Rattle.partial_state.proofs.generation.make_slots_elsewhere.Goals as goal

pub loop-i-init : goal.loop-i-init
loop-i-init c = sym (none_changed (option_map (made_elsewhere c.args.n)) c.args.slots.now.items)

pub loop-i-preserved : goal.loop-i-preserved
loop-i-preserved c =
    one_changed (option_map (made_elsewhere c.args.n)) c.args.slots.now.items c.loop-i.slots.items c.loop-i.i c.index_mut.result.now c.make_slot_elsewhere.new.slot
    c.loop-i.invariant (omega arith) c.index_mut.ensures.value c.make_slot_elsewhere.ensures

pub returns : goal.returns
returns c = all_changed (option_map (made_elsewhere c.args.n)) c.args.slots.now.items c.loop-i.slots.items c.loop-i.i c.loop-i.invariant (omega arith)
