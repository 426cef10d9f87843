use Rattle.std.proofs.Common.{◌≡◌, ◌∙◌, sym, ap, None, rules}
use Rattle.std.specs.Prelude.{is_some}
use Rattle.std.proofs.lemmas.Bool.{false≢true}
use Rattle.prod_model.specs.ExprBounds.{bounds_at}
use Rattle.expr_bounds.specs.declared.fault_kind.FaultKind.TheVariants.{Deep, UnknownName, WrongKind, Wide}
use Rattle.expr_bounds.proofs.Faultless.{nesting_faultless, bounded_faultless}
use Rattle.expr_bounds.proofs.FirstFault.{faults_of_kind, none_before_deep, none_before_name, none_before_kind, none_before_wide}
use Rattle.expr_bounds.proofs.judge.bounds_of.Goals as goal

-- each fault is the first of its kind, and there is none of a kind before
pub returns-in-Some-clause-fault : goal.returns-in-Some-clause-fault
returns-in-Some-clause-fault c =
    let m = c.args.model.now in
    let e = c.args.expr.now in
    faults_of_kind m e c.args.at c.requires.form Deep (none_before_deep m e c.args.at) c.in-Some.fault c.in-Some.ensures.first

pub returns-in-Some-first_of-clause-fault : goal.returns-in-Some-first_of-clause-fault
returns-in-Some-first_of-clause-fault c =
    let m = c.args.model.now in
    let e = c.args.expr.now in
    faults_of_kind m e c.args.at c.requires.form UnknownName (none_before_name m e c.args.at c.in_default.ensures.none) c.in-Some-first_of.fault c.in-Some-first_of.ensures.first

pub returns-in-Some-first_of-2-clause-fault : goal.returns-in-Some-first_of-2-clause-fault
returns-in-Some-first_of-2-clause-fault c =
    let m = c.args.model.now in
    let e = c.args.expr.now in
    faults_of_kind m e c.args.at c.requires.form WrongKind (none_before_kind m e c.args.at c.in_default.ensures.none c.in_default-first_of.ensures.none) c.in-Some-first_of-2.fault
    c.in-Some-first_of-2.ensures.first

pub returns-in-Some-first_of-3-clause-fault : goal.returns-in-Some-first_of-3-clause-fault
returns-in-Some-first_of-3-clause-fault c =
    let m = c.args.model.now in
    let e = c.args.expr.now in
    faults_of_kind m e c.args.at c.requires.form Wide (none_before_wide m e c.args.at c.in_default.ensures.none c.in_default-first_of.ensures.none c.in_default-first_of-2.ensures.none)
    c.in-Some-first_of-3.fault c.in-Some-first_of-3.ensures.first

pub returns-in-Some-bounds-clause-nesting : goal.returns-in-Some-bounds-clause-nesting
returns-in-Some-bounds-clause-nesting c = nesting_faultless c.args.model.now c.args.expr.now c.args.at c.in_default.ensures.none.none

-- without unknown names and wide parts it would have bounds
pub unreachable-requires : goal.unreachable-requires
unreachable-requires c =
    let m = c.args.model.now in
    let e = c.args.expr.now in
    let none : bounds_at m e c.args.at ≡ None = search rules in
    false≢true (sym (ap is_some none) ∙ bounded_faultless m e c.args.at c.in_default-first_of.ensures.none.none c.in_default-first_of-3.ensures.none.none)
