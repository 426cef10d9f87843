use Rattle.std.proofs.Common.{take, arith, ℕ}
use Rattle.std.specs.List.{flat_map, enumerate_from}
use Rattle.state_space.specs.Made.{MadeInstance}
use Rattle.partial_state.specs.steps.GenerationLog.{old_ports}
use Rattle.partial_state.proofs.GenerationLogs.{also_on_error, with_entries, then_more, one_more, all_entries}
use Rattle.partial_state.proofs.generation_log.log_rows.Goals as goal

-- an error leaves those of the instances before, and maybe some of this one
pub returns-in_err-log_ports-clause-kept : goal.returns-in_err-log_ports-clause-kept
returns-in_err-log_ports-clause-kept c =
    also_on_error c.from_residual.result
    (then_more c.args.log.now c.loop-i.log c.log_ports.new.log
    (with_entries c.args.log.now c.loop-i.log (flat_map (λ (e : ℕ × MadeInstance). old_ports e.0 e.1.ports) (take c.loop-i.i (enumerate_from 0 c.args.rows.now))) c.loop-i.invariant)
    c.in_err-log_ports.ensures.kept)

pub returns-clause-logged : goal.returns-clause-logged
returns-clause-logged c =
    all_entries (λ (e : ℕ × MadeInstance). old_ports e.0 e.1.ports) c.args.log.now c.loop-i.log c.args.rows.now c.loop-i.i (omega arith) c.loop-i.invariant

pub loop-i-preserved : goal.loop-i-preserved
loop-i-preserved c =
    one_more (λ (e : ℕ × MadeInstance). old_ports e.0 e.1.ports) c.args.log.now c.loop-i.log c.log_ports.new.log c.args.rows.now c.loop-i.i c.index-rows-i.result
    c.loop-i-test.true c.index-rows-i.is c.loop-i.invariant c.in_ok-log_ports.ensures.logged
