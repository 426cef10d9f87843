use Rattle.std.proofs.Common.{◌∙◌, sym, refl, arith}
use Rattle.answer_check.proofs.TurnSets.{link_past, link_known, link_in_turn, link_out_of_turn}
use Rattle.answer_check.proofs.turns.Turns.add_link.Goals as goal

pub returns-then-j-ge256 : goal.returns-then-j-ge256
returns-then-j-ge256 c = link_past c.args.self.now (record { from = c.args.from; to = c.args.j }) (omega (arith, c.if-j-ge256.true))

pub returns-then-contains : goal.returns-then-contains
returns-then-contains c =
    link_known c.args.self.now (record { from = c.args.from; to = c.args.j }) (omega (arith, c.if-j-ge256.false)) (sym c.contains.ensures ∙ c.if-contains.true)

pub returns-then-in_turn : goal.returns-then-in_turn
returns-then-in_turn c =
    link_in_turn c.args.self.now _ (record { from = c.args.from; to = c.args.j }) (omega (arith, c.if-j-ge256.false))
    (sym c.contains.ensures ∙ c.if-contains.false) c.insert.ensures (sym c.comes_in_turn-in_turn.ensures ∙ c.if-in_turn.true) c.insert-then-in_turn.ensures

pub returns-else-in_turn : goal.returns-else-in_turn
returns-else-in_turn c =
    link_out_of_turn c.args.self.now _ (record { from = c.args.from; to = c.args.j }) (omega (arith, c.if-j-ge256.false))
    (sym c.contains.ensures ∙ c.if-contains.false) c.insert.ensures (sym c.comes_in_turn-in_turn.ensures ∙ c.if-in_turn.false) refl
