use Rattle.std.proofs.Common.{rules, ◌∙◌, sym, SFits, w64}
use Rattle.state_values.proofs.KeyStartLeft.{key_turn}
use Rattle.state_values.proofs.key_cursor.KeyCursor.next.Goals as goal

-- nothing is left of an instance, and the next one follows
pub returns : goal.returns
returns c =
    let fits : SFits w64 c.from-2.result = search rules in
    sym c.self.view_is
    ∙ key_turn c.self.inside.configuration.now c.self.inside.next c.get-instance.result.now c.from-2.result
    c.self.inside.values.now c.as_slice-self-inside-2.result.now c.self.inside.links.now c.self.inside.ports.now c.as_slice-self-inside-3.result.now
    c.in_default.ensures.cases c.in_default-split_first.ensures.cases c.in_default-split_first-2.ensures.cases
    c.get-instance.ensures c.as_slice-self-inside-2.ensures c.as_slice-self-inside-3.ensures c.from-2.ensures fits
