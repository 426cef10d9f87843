use Rattle.state_values.proofs.LinkableLaws.{within_same}
use Rattle.state_values.proofs.links.links_only.Goals as goal
use Rattle.std.proofs.Common.{◌∙◌, ◌&&◌, ◌==◌, ap, sym}

pub returns-then-is_within : goal.returns-then-is_within
returns-then-is_within c =
    sym (ap (λ b. b && (c.args.q.now.fresh_high == 0)) (sym (within_same c.args.q.now.possible c.args.into c.is_within.result c.is_within.ensures) ∙ c.if-is_within.true))

pub returns-else-is_within : goal.returns-else-is_within
returns-else-is_within c =
    let same = within_same c.args.q.now.possible c.args.into c.is_within.result c.is_within.ensures in
    c.if-is_within.false ∙ sym (ap (λ b. b && (c.args.q.now.fresh_high == 0)) (sym same ∙ c.if-is_within.false))
