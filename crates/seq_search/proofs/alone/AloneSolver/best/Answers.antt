-- The best of the job is the first that is wanted.
use Rattle.std.proofs.Common.{refl, subst, false}
use Rattle.std.specs.Prelude.{IfOk}
use Rattle.std.specs.Option.{option_map}
use Rattle.criteria_order.specs.Wanted.{IsFirstWanted}
use Rattle.reason_trail.specs.Jobs.{IsBestOf}
use Rattle.reason_trail.proofs.BestLaws.{best_is_first_wanted}
use Rattle.seq_search.specs.Solvers.{asked}
use Rattle.seq_search.proofs.Looking.{if_ok}
use Rattle.seq_search.proofs.alone.AloneSolver.best.Goals as goal

pub returns-clause-best : goal.returns-clause-best
returns-clause-best g c =
    let s = c.args.self.now in
    let j = asked s c.args.keep.now (option_map (λ d. d.now) c.args.after) c.args.extra.now false in
    if_ok (IsBestOf j) (IsFirstWanted s.model s.order j.goal.keep j.goal.after j.goal.extra) c.best_of-best.result
    (λ best is. (best_is_first_wanted j best refl).0 is)
    (subst (λ k. IfOk c.best_of-best.result (IsBestOf k)) c.in_ok-job.ensures c.best_of-best.ensures)
