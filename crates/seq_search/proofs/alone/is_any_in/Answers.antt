-- Something is wanted exactly where something is found.
use Rattle.std.proofs.Common.{◌≡◌, [], ap, sym, subst, ◌∙◌}
use Rattle.std.specs.Prelude.{IsTrue, ◌↔◌}
use Rattle.criteria_order.specs.Wanted.{SomeIsWanted}
use Rattle.seq_search.proofs.Solving.{found_exactly}
use Rattle.seq_search.proofs.alone.is_any_in.Goals as goal

pub returns : goal.returns
returns g c =
    let s = c.run_to_first.new.search in
    let found = c.has_best.result in
    let job : s.job ≡ c.args.job.now = c.in_ok-run_to_first.ensures.same_job ∙ sym c.requires.job in
    let all : s.piece.literals ≡ [] = ap (λ p. p.literals) c.in_ok-run_to_first.ensures.same_piece ∙ c.requires.whole in
    subst (λ j. IsTrue found ↔ SomeIsWanted j.model j.order j.goal.keep j.goal.after j.goal.extra) job
    (found_exactly s all c.has_best.ensures.search c.has_best.ensures.done found c.has_best.ensures.found c.in_ok-run_to_first.ensures.done)
