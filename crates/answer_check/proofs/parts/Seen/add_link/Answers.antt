use Rattle.std.proofs.Common.{◌∙◌, sym, refl, arith}
use Rattle.answer_check.proofs.SeenParts.{link_again, link_first}
use Rattle.answer_check.proofs.parts.Seen.add_link.Goals as goal

pub returns-then-contains : goal.returns-then-contains
returns-then-contains c = link_again c.args.self.now _ c.args.j (omega (arith, c.if-j-ge256.false)) (sym c.contains.ensures ∙ c.if-contains.true) refl c.insert.ensures

pub returns-else-contains : goal.returns-else-contains
returns-else-contains c = link_first c.args.self.now _ c.args.j (omega (arith, c.if-j-ge256.false)) (sym c.contains.ensures ∙ c.if-contains.false) refl c.insert-else-contains.ensures
