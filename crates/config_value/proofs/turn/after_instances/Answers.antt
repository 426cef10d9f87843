use Rattle.std.proofs.Common.{arith, Some, None, sym, ◌∙◌}
use Rattle.config_value.proofs.TurnSteps.{turn_after_instance}
use Rattle.config_value.proofs.turn.after_instances.Goals as goal

-- a link of this instance is out of turn, and so of all of them
pub returns-in_err-turn : goal.returns-in_err-turn
returns-in_err-turn c =
    let i = c.loop-i.i in
    let instance = c.index-instances-i in
    let after = rw c.as_slice.ensures at c.in_err-turn.ensures in
    c.from_residual.ensures
    ∙ sym (turn_after_instance _ _ i i c.args.instances.now instance.result None (omega arith) instance.is after)
    ∙ c.loop-i.invariant

-- the instances to come are one fewer
pub loop-i-preserved : goal.loop-i-preserved
loop-i-preserved c =
    let i = c.loop-i.i in
    let instance = c.index-instances-i in
    let after = rw c.as_slice.ensures at c.in_ok-turn.ensures in
    let turn = Some c.in_ok-turn.turn in
    sym (turn_after_instance _ _ i i c.args.instances.now instance.result turn (omega arith) instance.is after)
    ∙ c.loop-i.invariant
