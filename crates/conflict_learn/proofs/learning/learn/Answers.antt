use Rattle.std.proofs.Common.{subst, ap, ◌∙◌}
use Rattle.conflict_learn.specs.steps.Choosing.{IsParted}
use Rattle.conflict_learn.proofs.Soundness.{taught}
use Rattle.conflict_learn.proofs.learning.learn.Goals as goal

-- it is the chosen one, without literals that others imply
pub returns : goal.returns
returns c =
    let given = c.in_ok-nogood.nogood in
    let n = c.in_ok-parted.field-0 in
    record {
      learned = taught c.args.trail.now c.args.why.now given n c.if-why.false c.in_ok-nogood.ensures
          (subst (λ m. IsParted m given n) (c.problem-problem.ensures.problem ∙ ap (λ j. j.model) c.job.ensures.job) c.in_ok-parted.ensures);
    }
