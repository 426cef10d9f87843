-- A failure leaves nothing that is wanted, and what it teaches is sound.
use Rattle.std.proofs.Common.{subst}
use Rattle.literal_book.specs.Nogoods.{IsSound}
use Rattle.state_space.specs.State.{IsState}
use Rattle.conflict_learn.specs.Learning.{IsLearned}
use Rattle.seq_search.proofs.Looking.{failed_is_barren}
use Rattle.seq_search.proofs.node.taught.Goals as goal

pub returns-in-Nogood-clause-found : goal.returns-in-Nogood-clause-found
returns-in-Nogood-clause-found c piece nogoods best =
    let t = c.args.trail.now in
    let state = subst (λ j. IsState j.model t.state) c.requires.job c.state-state.ensures.problem in
    let taught = subst (IsLearned t c.args.why.now) c.in-Nogood.is c.in_ok-nogood.ensures.learned in (
      failed_is_barren c.args.job.now piece t.state c.args.why.now state c.requires.failure best,
      subst (λ j. IsSound j.model j.order c.in-Nogood.nogood) c.requires.job taught.sound,
    )

pub returns-in-RestsOnCut-clause-found : goal.returns-in-RestsOnCut-clause-found
returns-in-RestsOnCut-clause-found c piece nogoods best =
    let t = c.args.trail.now in
    let state = subst (λ j. IsState j.model t.state) c.requires.job c.state-state.ensures.problem in
    failed_is_barren c.args.job.now piece t.state c.args.why.now state c.requires.failure best
