use Rattle.std.proofs.Common.{◌≡◌, ◌++◌, take, ℕ}
use Rattle.std.specs.List.{flat_map, enumerate_from}
use Rattle.state_space.specs.Made.{MadeInstance}
use Rattle.partial_state.specs.steps.GenerationLog.{old_ports}
use Rattle.partial_state.proofs.generation_log.log_rows.Given as goal

-- the ports of the first instances are logged
abbrev pub invariant-loop-i : goal.invariant-loop-i
invariant-loop-i l = l.log ≡ l.fn.log ++ flat_map (λ (e : ℕ × MadeInstance). old_ports e.0 e.1.ports) (take l.i (enumerate_from 0 l.rows))
