use Rattle.std.proofs.Common.{◌≡◌, ◌<◌, ◌+◌, ◌∷◌, length, None, subst, sym, rules, arith, List, ℕ}
use Rattle.std.specs.Prelude.{slice_get}
use Rattle.base_laws.specs.Places.{IsAt}
use Rattle.prod_model.specs.declared.expr.Expr.TheViews.{out-Expr}
use Rattle.prod_model.specs.First.{IsFirst}
use Rattle.prod_model.specs.Nesting.{nesting}
use Rattle.expr_bounds.specs.steps.Arguments.{argument_list, first_place}
use Rattle.expr_bounds.specs.steps.Search.{own_faults, standing_below, HasFaultAt, IsPathBefore}
use Rattle.expr_bounds.proofs.ArgumentLaws.{nesting_argument, first_place_few}
use Rattle.expr_bounds.proofs.FormLaws.{few_arguments, formed_argument}
use Rattle.expr_bounds.proofs.Found.{NoneBefore, finds_none, finds_own, finds_inner}
use Rattle.expr_bounds.proofs.search.+find.Goals as goal

-- the first of a part's own faults is before all in its arguments
pub returns-in-Some : goal.returns-in-Some
returns-in-Some t c =
    let first : IsAt (own_faults c.args.model.now c.args.fault_kind c.args.part.now c.args.standing) 0 c.in-Some.path = search rules in
    finds_own c.args.model.now c.args.fault_kind c.args.part.now c.args.standing c.in-Some.path first

pub find-requires : goal.find-requires
find-requires t c =
    let less : nesting c.argument-arg.result.now < nesting c.args.part.now = nesting_argument c.args.part.now c.loop-index.index c.argument-arg.result.now c.argument-arg.ensures in
    (omega (arith, c.decreases), (c.requires.declared, (c.requires.tables, formed_argument c.args.part.now c.loop-index.index c.argument-arg.result.now c.requires.form c.argument-arg.ensures)))

pub overflow_cast-place : goal.overflow_cast-place
overflow_cast-place t c = let few = few_arguments c.args.part.now c.requires.form in omega (arith, c.argument_count-index-end.ensures)

pub overflow_add-place : goal.overflow_add-place
overflow_add-place t c =
    let few = few_arguments c.args.part.now c.requires.form in
    let first = first_place_few (out-Expr c.args.part.now) in
    omega (arith, c.argument_count-index-end.ensures, c.place_of_first.ensures)

-- the first fault of the first argument that has one is the first of all
pub returns-in-Some-2 : goal.returns-in-Some-2
returns-in-Some-2 t c =
    let m = c.args.model.now in
    let e = c.args.part.now in
    let First : List ℕ → Type 0 = λ path. IsFirst (HasFaultAt m c.args.fault_kind e c.args.standing) IsPathBefore path in
    let none : slice_get (own_faults m c.args.fault_kind e c.args.standing) 0 ≡ None = search rules in
    let first : IsFirst (HasFaultAt m c.args.fault_kind c.argument-arg.result.now (standing_below m e c.args.standing)) IsPathBefore c.in-Some-2.path = search rules in
    let path : c.in_ok-behind.field-0 ≡ (first_place (out-Expr e) + c.loop-index.index) ∷ c.in-Some-2.path = search rules in
    subst First (sym path) (finds_inner m c.args.fault_kind e c.args.standing c.loop-index.index c.argument-arg.result.now c.argument-arg.ensures c.loop-index.invariant c.in-Some-2.path none first)

pub returns : goal.returns
returns t c =
    let none : slice_get (own_faults c.args.model.now c.args.fault_kind c.args.part.now c.args.standing) 0 ≡ None = search rules in
    let NoneUpTo : ℕ → Type 0 = λ n. NoneBefore c.args.model.now c.args.fault_kind c.args.part.now c.args.standing n in
    let end : c.loop-index.index ≡ length (argument_list (out-Expr c.args.part.now)) = omega (arith, c.argument_count-index-end.ensures) in
    finds_none c.args.model.now c.args.fault_kind c.args.part.now c.args.standing none (subst NoneUpTo end c.loop-index.invariant)
