use Rattle.std.proofs.Common.{◌≡◌, map, drop, pos}
use Rattle.prod_model.specs.ExprBounds.{bounds_at, truth_of}
use Rattle.prod_model.specs.steps.ExprBounds.{sum_onto}
use Rattle.expr_bounds.proofs.bounds.+forms.Given as goal

-- the sum so far with the rest is the sum of all
abbrev pub invariant-sum_of_all-loop-arg : goal.invariant-sum_of_all-loop-arg
invariant-sum_of_all-loop-arg l = record {
  rest : sum_onto l.sum.low l.sum.high (map (λ e. bounds_at l.model e l.at) (drop l.arg-index l.args)) ≡ sum_onto (pos 0) (pos 0) (map (λ e. bounds_at l.model e l.at) l.args);
  count : l.sum.count ≡ l.arg-index;
}

-- whether the rest are truths is whether all are
abbrev pub invariant-all_truths-loop-arg : goal.invariant-all_truths-loop-arg
invariant-all_truths-loop-arg l =
    truth_of (map (λ e. bounds_at l.model e l.at) (drop l.arg-index l.args)) ≡ truth_of (map (λ e. bounds_at l.model e l.at) l.args)
