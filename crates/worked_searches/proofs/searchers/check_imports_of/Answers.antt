-- The request that is out of reach is that of the search.
use Rattle.std.proofs.Common.{subst, sym}
use Rattle.worked_racks.specs.Unmet.{FirstIsUnmet}
use Rattle.worked_searches.proofs.searchers.check_imports_of.Goals as goal

pub check_imports-checked-requires : goal.check_imports-checked-requires
check_imports-checked-requires g c =
    subst (λ j. FirstIsUnmet j.model j.order) (sym c.in_ok-search.ensures)
    (subst (λ m. FirstIsUnmet m c.args.job.now.order) c.problem.ensures.problem
    (subst (FirstIsUnmet c.problem.result.now) c.order.ensures (c.is_out_of_reach.ensures c.if-not-is_out_of_reach.false)))
