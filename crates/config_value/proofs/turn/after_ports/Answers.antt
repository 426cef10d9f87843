use Rattle.std.proofs.Common.{arith, Some, None, sym, ◌∙◌}
use Rattle.config_value.proofs.TurnSteps.{turn_after_port}
use Rattle.config_value.proofs.turn.after_ports.Goals as goal

-- a link of this port is out of turn, and so of all of them
pub returns-in_err-turn : goal.returns-in_err-turn
returns-in_err-turn c =
    let i = c.loop-links.links-index in
    let links = c.links-item in
    let after = rw c.as_slice.ensures at c.in_err-turn.ensures in
    c.from_residual.ensures
    ∙ sym (turn_after_port _ _ c.args.from i c.args.ports.now links.result None (omega arith) links.is after)
    ∙ c.loop-links.invariant

-- the ports to come are one fewer
pub loop-links-preserved : goal.loop-links-preserved
loop-links-preserved c =
    let i = c.loop-links.links-index in
    let links = c.links-item in
    let after = rw c.as_slice.ensures at c.in_ok-turn.ensures in
    let turn = Some c.in_ok-turn.turn in
    sym (turn_after_port _ _ c.args.from i c.args.ports.now links.result turn (omega arith) links.is after)
    ∙ c.loop-links.invariant
