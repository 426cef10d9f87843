use Rattle.nogood_store.proofs.Kept.{entailed_watched}
use Rattle.nogood_store.proofs.watched.Watched.is_reached.Goals as goal

-- where it applies all its literals are entailed, the watched ones too
pub returns-then-are_kept-clause-passed_over : goal.returns-then-are_kept-clause-passed_over
returns-then-are_kept-clause-passed_over c =
    λ fails is.
    let w = c.args.self.now in
    let holds = c.are_watched_entailed.ensures.1
    (entailed_watched c.args.trail.now.job.model c.args.trail.now.state w.nogood.literals w.watch is.entailed) in
    cc
