use Rattle.std.proofs.Common.{refl}
use Rattle.config_cli.specs.Checked.{satisfied, request_false}
use Rattle.config_cli.proofs.CheckLaws.{satisfied_is_shaped, unmet_within, is_candidate}
use Rattle.config_cli.proofs.check.requests_outcome.Goals as goal

pub first_unmet-requires-clause-shaped : goal.first_unmet-requires-clause-shaped
first_unmet-requires-clause-shaped c = satisfied_is_shaped c.args.problem.now c.args.c.now c.requires.satisfied

pub unmet_text-requires : goal.unmet_text-requires
unmet_text-requires c = unmet_within c.args.problem.now c.args.order.now c.args.c.now c.in-Some.k c.in-Some.ensures

pub satisfied_text-requires-clause-shaped : goal.satisfied_text-requires-clause-shaped
satisfied_text-requires-clause-shaped c = satisfied_is_shaped c.args.problem.now c.args.c.now c.requires.satisfied

-- the first request that isn't met
pub returns-in_ok-unmet_text-in-Some-clause-verdict :
    goal.returns-in_ok-unmet_text-in-Some-clause-verdict
returns-in_ok-unmet_text-in-Some-clause-verdict c =
    request_false c.requires.satisfied c.in-Some.k c.in-Some.ensures refl c.in_ok-unmet_text-in-Some.ensures

-- all are met
pub returns-in_ok-satisfied_text-in-None-clause-verdict :
    goal.returns-in_ok-satisfied_text-in-None-clause-verdict
returns-in_ok-satisfied_text-in-None-clause-verdict c =
    satisfied (is_candidate c.args.problem.now c.args.order.now c.args.c.now c.requires.satisfied c.in-None.ensures)
    refl c.in_ok-satisfied_text-in-None.ensures
