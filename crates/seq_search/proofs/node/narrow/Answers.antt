-- A change by a literal that fits and is not entailed.
use Rattle.std.proofs.Common.{sym, subst}
use Rattle.std.specs.Prelude.{Some}
use Rattle.reason_trail.specs.declared.reason.Why.TheVariants.{Assumed}
use Rattle.seq_search.specs.steps.Nodes.{IsEntered}
use Rattle.seq_search.proofs.Entering.{entered, extends_pushed}
use Rattle.seq_search.proofs.node.narrow.Goals as goal

pub returns-clause-entered : goal.returns-clause-entered
returns-clause-entered c =
    subst (IsEntered c.args.trail.now.job.model (record { state = c.args.trail.now.state; literal = Some c.args.l }) c.assume.new.self.state) (sym c.is_left.ensures)
    (entered c.args.trail.now c.assume.new.self c.args.l Assumed c.requires.right c.requires.taken c.in_ok-change.change c.in_ok-change.ensures.pushed)

pub returns-clause-extends : goal.returns-clause-extends
returns-clause-extends c =
    extends_pushed c.args.trail.now c.assume.new.self c.args.l Assumed c.requires.right c.requires.taken c.in_ok-change.change c.in_ok-change.ensures.pushed
