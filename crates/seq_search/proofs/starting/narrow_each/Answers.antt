-- One literal more.
use Rattle.std.proofs.Common.{◌∷◌, [], subst, ◌∙◌, true, false}
use Rattle.seq_search.specs.steps.Starting.{IsNarrowed}
use Rattle.seq_search.proofs.Begun.{narrowed_by_all, narrowed_on}
use Rattle.seq_search.proofs.starting.narrow_each.Goals as goal

pub loop-k-preserved : goal.loop-k-preserved
loop-k-preserved c =
    let m = c.args.trail.now.job.model in
    let ls = c.args.literals.now in
    let l = c.literal_at.result in
    let t = c.loop-k.trail.state in
    let u = c.narrow_if.new.trail.state in
    record {
      job = c.narrow_if.ensures.same_job ∙ c.loop-k.invariant.job;
      narrowed = narrowed_on m ls c.args.trail.now.state t u true c.loop-k.invariant.narrowed
          (narrowed_by_all m ls c.loop-k.k l c.literal_at.ensures t u true
          (subst (λ j. IsNarrowed j.model (l ∷ []) t u true) c.loop-k.invariant.job
          (subst (IsNarrowed c.loop-k.trail.job.model (l ∷ []) t u) c.if-not-branch.false c.in_ok-narrow_if.ensures.narrowed)));
    }

pub returns-then-not-branch-clause-narrowed : goal.returns-then-not-branch-clause-narrowed
returns-then-not-branch-clause-narrowed c =
    let m = c.args.trail.now.job.model in
    let ls = c.args.literals.now in
    let l = c.literal_at.result in
    let t = c.loop-k.trail.state in
    let u = c.narrow_if.new.trail.state in
    narrowed_on m ls c.args.trail.now.state t u false c.loop-k.invariant.narrowed
    (narrowed_by_all m ls c.loop-k.k l c.literal_at.ensures t u false
    (subst (λ j. IsNarrowed j.model (l ∷ []) t u false) c.loop-k.invariant.job
    (subst (IsNarrowed c.loop-k.trail.job.model (l ∷ []) t u) c.if-not-branch.true c.in_ok-narrow_if.ensures.narrowed)))
