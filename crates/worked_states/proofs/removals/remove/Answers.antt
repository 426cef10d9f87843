use Rattle.state_space.proofs.StateLaws.{each_keeps_state}
use Rattle.worked_states.proofs.removals.remove.Goals as goal

-- each narrowing of a state of the problem leaves one
pub returns : goal.returns
returns c =
    (each_keeps_state c.args.problem.now 0 c.in_ok-remove.field-0 c.args.p.now c.remove.new.self c.requires).1 0 _ c.in_ok-remove.ensures.narrowed
