-- What is left open of the port is split, and where nothing is it is decided.
use Rattle.std.proofs.Common.{inl, subst}
use Rattle.std.proofs.lemmas.Option.{same_Some}
use Rattle.branch_cut.specs.steps.Fixed.{SplitsPort}
use Rattle.branch_cut.proofs.PortParts.{splits_links, port_decided}
use Rattle.branch_cut.proofs.openings.link_branch.Goals as goal

pub returns-in-Some-clause-splits : goal.returns-in-Some-clause-splits
returns-in-Some-clause-splits c = λ b is.
    subst (SplitsPort c.args.p.now c.args.instance c.args.port) (same_Some _ b is)
    (inl (splits_links c.args.p.now c.args.instance c.args.port c.port-links.result c.difference.result c.port-links.ensures.links c.difference.ensures
    c.in-Some.to c.in-Some.ensures))

pub returns-then-links-count-clause-decided : goal.returns-then-links-count-clause-decided
returns-then-links-count-clause-decided c = λ none.
    port_decided c.args.p.now c.args.instance c.args.port c.port-links.result c.difference.result c.port-links.ensures.links c.difference.ensures
    c.in_default.ensures c.if-links-count.true
