use Rattle.std.proofs.Common.{◌∙◌, ap, refl, Some, arith}
use Rattle.partial_state.proofs.NewPorts.{no_port, new_port, nothing_required}
use Rattle.partial_state.proofs.new_row.whole_port.Goals as goal

pub returns-then-types-eq0 : goal.returns-then-types-eq0
returns-then-types-eq0 c = no_port c.args.problem.now c.args.port c.args.types _ c.if-types-eq0.true

pub from_links-requires : goal.from_links-requires
from_links-requires c = nothing_required _ c.empty.ensures refl

pub returns : goal.returns
returns c =
    ap Some c.from_links.ensures
    ∙ new_port c.args.problem.now c.args.port c.args.types c.empty.result c.args.made c.greatest_count.result c.if-types-eq0.false (omega arith) c.requires c.empty.ensures c.greatest_count.ensures
