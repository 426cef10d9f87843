-- The trail at one of its lengths is a trail, and extends itself.
use Rattle.std.proofs.Common.{sym, subst}
use Rattle.reason_trail.specs.Trails.{IsTrail, Extends, cut_to}
use Rattle.reason_trail.proofs.Trails.{cut_is_trail}
use Rattle.seq_search.proofs.Along.{extends_itself}
use Rattle.seq_search.proofs.node.enter.Goals as goal

pub narrow-requires-clause-right : goal.narrow-requires-clause-right
narrow-requires-clause-right c =
    subst IsTrail (sym c.back_to.ensures) (cut_is_trail c.args.trail.now c.args.taken.len c.requires.within c.requires.right)

pub returns-in-None-clause-extends : goal.returns-in-None-clause-extends
returns-in-None-clause-extends c =
    subst (Extends (cut_to c.args.trail.now c.args.taken.len)) (sym c.back_to.ensures) (extends_itself (cut_to c.args.trail.now c.args.taken.len))
