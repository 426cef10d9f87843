use Rattle.std.proofs.Common.{◌≡◌, [], subst, arith}
use Rattle.std.specs.Prelude.{IsTrue}
use Rattle.std.proofs.lemmas.List.{nil_from_length}
use Rattle.config_value.specs.Satisfies.{satisfies}
use Rattle.worked_searches.proofs.WantedLaws.{all_wanted}
use Rattle.worked_searches.proofs.wanted.is_wanted.Goals as goal

pub returns-in-Satisfied : goal.returns-in-Satisfied
returns-in-Satisfied c is =
    let none : c.args.job.now.order.requests ≡ [] = nil_from_length c.args.job.now.order.requests (grind (arith, c.if-not-is_empty.false, c.is_empty.ensures, c.as_slice.ensures, c.order.ensures)) in
    let satisfied : IsTrue (satisfies c.args.job.now.model c.args.c.now) =
    subst (λ m. IsTrue (satisfies m c.args.c.now)) c.problem-problem.ensures.problem (c.check.ensures.satisfied.0 c.in-Satisfied.is) in
    all_wanted c.args.job.now c.args.c.now c.requires.goal none satisfied
