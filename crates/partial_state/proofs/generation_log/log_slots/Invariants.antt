use Rattle.std.proofs.Common.{◌≡◌, ◌++◌, take}
use Rattle.std.specs.List.{flat_map, enumerate_from}
use Rattle.state_space.specs.Undo.{old_port}
use Rattle.partial_state.proofs.generation_log.log_slots.Given as goal

-- the first ports are logged
abbrev pub invariant-loop-port : goal.invariant-loop-port
invariant-loop-port l = l.log ≡ l.fn.log ++ flat_map (old_port l.i) (take l.port (enumerate_from 0 l.ports))
