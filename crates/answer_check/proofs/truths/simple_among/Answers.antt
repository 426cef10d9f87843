use Rattle.std.proofs.Common.{ℕ, ◌+◌, ◌&&◌, ◌∙◌, sym, subst}
use Rattle.std.proofs.lemmas.Bool.{and_parts, and_from, and_right}
use Rattle.instance_set.specs.InstanceSets.{is_member}
use Rattle.instance_set.proofs.Walks.{HasFoundBelow, found_with, found_without}
use Rattle.prod_model.specs.declared.expr.Expr.TheViews.{out-Expr}
use Rattle.answer_check.specs.steps.Evaluable.{simple_truth}
use Rattle.answer_check.proofs.truths.simple_among.Goals as goal
use Rattle.answer_check.proofs.truths.simple_among.Goals.{then-is_simply_true, else-is_simply_true}

pub loop-i-preserved : goal.loop-i-preserved
loop-i-preserved c =
    let passes = λ (k : ℕ). is_member c.args.among k && simple_truth c.args.problem.now c.args.c.now k (out-Expr c.args.e.now) in
    let i = c.in-Some.i in
    let next = HasFoundBelow passes (i + 1) in
    elim c.if-is_simply_true.branch [
      | then-is_simply_true w ↦
          subst next (sym w.found-is)
          (found_with passes c.args.among (λ k yes. (and_parts _ _ yes).0) c.loop-i.from i c.loop-i.found w.insert.new.self c.loop-i.invariant c.in-Some.ensures
          (and_from _ _ c.in-Some.ensures.1 (sym c.is_simply_true.ensures ∙ w.if-is_simply_true.true)) w.insert.ensures)
      | else-is_simply_true w ↦
          subst next (sym w.found-is)
          (found_without passes c.args.among (λ k yes. (and_parts _ _ yes).0) c.loop-i.from i c.loop-i.found c.loop-i.invariant c.in-Some.ensures
          (and_right _ _ (sym c.is_simply_true.ensures ∙ w.if-is_simply_true.false)))
    ]
