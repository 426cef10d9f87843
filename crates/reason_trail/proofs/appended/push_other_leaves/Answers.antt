use Rattle.std.proofs.Common.{◌++◌, ◌==◌, ◌&&◌, not, ◌∙◌, ap, sym, length, arith, map}
use Rattle.std.specs.Int.{bit_at}
use Rattle.prod_model.proofs.ValidModels.{few_types}
use Rattle.prod_model.specs.Forest.{is_leaf, type_numbers}
use Rattle.partial_state.proofs.PassingNumbers.{filter_filter}
use Rattle.config_value.specs.declared.literal.Literal.TheVariants.{NotKind}
use Rattle.reason_trail.proofs.InTurn.{tells_none, tells_next, tells_all}
use Rattle.reason_trail.proofs.appended.push_other_leaves.Goals as goal

pub overflow_cast-t-end : goal.overflow_cast-t-end
overflow_cast-t-end c =
    omega (arith, few_types c.args.problem.now c.model.ensures.valid, c.len-t-end.ensures, ap (λ p. length p.types) c.model.ensures.model)

pub loop-t-init : goal.loop-t-init
loop-t-init c = tells_none (λ k. NotKind c.args.i k) (λ k. is_leaf c.args.problem.now k && not (bit_at c.args.kinds k == 1)) c.args.into.now

pub loop-t-preserved : goal.loop-t-preserved
loop-t-preserved c =
    tells_next (λ k. NotKind c.args.i k) (λ k. is_leaf c.args.problem.now k && not (bit_at c.args.kinds k == 1)) c.loop-t.t c.args.into.now c.loop-t.into _ c.is_other_leaf-other.result
    c.is_other_leaf-other.ensures c.in_ok-push_where.ensures.described c.loop-t.invariant

-- the leaves that pass are the types that are leaves and pass
pub returns-clause-described : goal.returns-clause-described
returns-clause-described c =
    tells_all (λ k. NotKind c.args.i k) (λ k. is_leaf c.args.problem.now k && not (bit_at c.args.kinds k == 1)) c.loop-t.t (length c.args.problem.now.types) c.args.into.now c.loop-t.into
    (omega (arith, c.loop-t.auto.t-end, c.loop-t-test.false, c.len-t-end.ensures, ap (λ p. length p.types) c.model.ensures.model)) c.loop-t.invariant
    ∙ ap (λ ts. c.args.into.now ++ map (λ k. NotKind c.args.i k) ts)
    (sym (filter_filter (is_leaf c.args.problem.now) (λ k. not (bit_at c.args.kinds k == 1)) (type_numbers c.args.problem.now.types)))
