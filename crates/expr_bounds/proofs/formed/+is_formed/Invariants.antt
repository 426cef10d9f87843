use Rattle.std.proofs.Common.{◌≡◌, drop}
use Rattle.std.specs.List.{list_all}
use Rattle.prod_model.specs.declared.expr.Expr.TheViews.{out-Expr}
use Rattle.prod_model.specs.Nesting.{nesting}
use Rattle.expr_bounds.specs.steps.Arguments.{argument_list}
use Rattle.expr_bounds.specs.Forms.{is_form}
use Rattle.expr_bounds.proofs.formed.+is_formed.Given as goal

-- an argument nests less deep
abbrev pub decreases-is_formed : goal.decreases-is_formed
decreases-is_formed l = nesting l.expr.now

-- whether the rest are of the language is whether all are
abbrev pub invariant-loop-index : goal.invariant-loop-index
invariant-loop-index l = list_all is_form (drop l.index (argument_list (out-Expr l.expr))) ≡ list_all is_form (argument_list (out-Expr l.expr))
