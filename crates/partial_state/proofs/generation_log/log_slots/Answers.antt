use Rattle.std.proofs.Common.{◌∙◌, take, arith}
use Rattle.std.specs.List.{flat_map, enumerate_from}
use Rattle.state_space.specs.Undo.{old_port}
use Rattle.partial_state.proofs.GenerationLogs.{also_on_error, with_entries, one_more, all_entries}
use Rattle.partial_state.proofs.generation_log.log_slots.Goals as goal

-- an error leaves those of the ports before
pub returns-in_err-log_slot-clause-kept : goal.returns-in_err-log_slot-clause-kept
returns-in_err-log_slot-clause-kept c =
    also_on_error c.from_residual.result
    (with_entries c.args.log.now c.log_slot.new.log (flat_map (old_port c.args.i) (take c.loop-port.port (enumerate_from 0 c.args.ports.now)))
    (c.in_err-log_slot.ensures.kept ∙ c.loop-port.invariant))

pub returns-clause-logged : goal.returns-clause-logged
returns-clause-logged c = all_entries (old_port c.args.i) c.args.log.now c.loop-port.log c.args.ports.now c.loop-port.port (omega arith) c.loop-port.invariant

pub loop-port-preserved : goal.loop-port-preserved
loop-port-preserved c =
    one_more (old_port c.args.i) c.args.log.now c.loop-port.log c.log_slot.new.log c.args.ports.now c.loop-port.port c.index-ports-port.result
    c.loop-port-test.true c.index-ports-port.is c.loop-port.invariant c.in_ok-log_slot.ensures.logged
