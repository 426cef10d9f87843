use Rattle.std.proofs.Common.{[], subst, sym, ◌∙◌}
use Rattle.std.proofs.lemmas.Bool.{not-true, not-false}
use Rattle.expr_bounds.specs.Faults.{Faults}
use Rattle.file_values.specs.declared.fault.FaultCode.TheVariants.{Deep, UnknownName, WrongKind, Wide}
use Rattle.file_meaning.specs.Faults.{path_place}
use Rattle.file_meaning.proofs.JudgedFaults.{deep_first, unknown_first, kind_first, wide_first, whole_of_kind, whole_of_wide, whole_of_bounded, judged_right, refusal_of}
use Rattle.file_meaning.proofs.judge.judge.Goals as goal

pub returns-in-Err-Deep-clause-fault : goal.returns-in-Err-Deep-clause-fault
returns-in-Err-Deep-clause-fault c =
    refusal_of c.args.model.now c.args.expr.now c.args.at c.args.truth Deep (path_place c.in-Err-Deep.path) c.refused.result c.refused.ensures
    (deep_first c.args.model.now c.args.expr.now c.args.at c.args.truth c.in-Err-Deep.path (subst (Faults c.args.model.now c.args.expr.now c.args.at) c.in-Err-Deep.field-0-is c.in-Err-Deep.ensures.fault))

pub returns-in-Err-UnknownName-clause-fault : goal.returns-in-Err-UnknownName-clause-fault
returns-in-Err-UnknownName-clause-fault c =
    refusal_of c.args.model.now c.args.expr.now c.args.at c.args.truth UnknownName (path_place c.in-Err-UnknownName.path) c.refused-in-Err-UnknownName.result c.refused-in-Err-UnknownName.ensures
    (unknown_first c.args.model.now c.args.expr.now c.args.at c.args.truth c.in-Err-UnknownName.path (subst (Faults c.args.model.now c.args.expr.now c.args.at) c.in-Err-UnknownName.field-0-is c.in-Err-UnknownName.ensures.fault))

pub returns-then-wrong-clause-fault : goal.returns-then-wrong-clause-fault
returns-then-wrong-clause-fault c =
    refusal_of c.args.model.now c.args.expr.now c.args.at c.args.truth WrongKind [] c.whole_refused.result c.whole_refused.ensures
    (whole_of_kind c.args.model.now c.args.expr.now c.args.at c.args.truth c.in-Err-WrongKind.path (subst (Faults c.args.model.now c.args.expr.now c.args.at) c.in-Err-WrongKind.field-0-is c.in-Err-WrongKind.ensures.fault) (not-true _ (sym c.is_wrong_whole-wrong.ensures ∙ c.if-wrong.true)))

pub returns-else-wrong-clause-fault : goal.returns-else-wrong-clause-fault
returns-else-wrong-clause-fault c =
    refusal_of c.args.model.now c.args.expr.now c.args.at c.args.truth WrongKind (path_place c.in-Err-WrongKind.path) c.refused-else-wrong.result c.refused-else-wrong.ensures
    (kind_first c.args.model.now c.args.expr.now c.args.at c.args.truth c.in-Err-WrongKind.path (subst (Faults c.args.model.now c.args.expr.now c.args.at) c.in-Err-WrongKind.field-0-is c.in-Err-WrongKind.ensures.fault) (not-false _ (sym c.is_wrong_whole-wrong.ensures ∙ c.if-wrong.false)))

pub returns-then-wrong-2-clause-fault : goal.returns-then-wrong-2-clause-fault
returns-then-wrong-2-clause-fault c =
    refusal_of c.args.model.now c.args.expr.now c.args.at c.args.truth WrongKind [] c.whole_refused-then-wrong-2.result c.whole_refused-then-wrong-2.ensures
    (whole_of_wide c.args.model.now c.args.expr.now c.args.at c.args.truth c.in-Err-Wide.path (subst (Faults c.args.model.now c.args.expr.now c.args.at) c.in-Err-Wide.field-0-is c.in-Err-Wide.ensures.fault) (not-true _ (sym c.is_wrong_whole-wrong.ensures ∙ c.if-wrong-2.true)))

pub returns-else-wrong-2-clause-fault : goal.returns-else-wrong-2-clause-fault
returns-else-wrong-2-clause-fault c =
    refusal_of c.args.model.now c.args.expr.now c.args.at c.args.truth Wide (path_place c.in-Err-Wide.path) c.refused-else-wrong-2.result c.refused-else-wrong-2.ensures
    (wide_first c.args.model.now c.args.expr.now c.args.at c.args.truth c.in-Err-Wide.path (subst (Faults c.args.model.now c.args.expr.now c.args.at) c.in-Err-Wide.field-0-is c.in-Err-Wide.ensures.fault) (not-false _ (sym c.is_wrong_whole-wrong.ensures ∙ c.if-wrong-2.false)))

pub returns-then-wrong-3-clause-fault : goal.returns-then-wrong-3-clause-fault
returns-then-wrong-3-clause-fault c =
    refusal_of c.args.model.now c.args.expr.now c.args.at c.args.truth WrongKind [] c.whole_refused-then-wrong-3.result c.whole_refused-then-wrong-3.ensures
    (whole_of_bounded c.args.model.now c.args.expr.now c.args.at c.args.truth c.in-Ok.field-0 c.in-Ok.ensures.bounds c.in-Ok.ensures.nesting (not-true _ (sym c.is_wrong_whole-wrong.ensures ∙ c.if-wrong-3.true)))

pub returns-else-wrong-3-clause-judged : goal.returns-else-wrong-3-clause-judged
returns-else-wrong-3-clause-judged c =
    judged_right c.args.model.now c.args.expr.now c.args.at c.args.truth c.in-Ok.field-0 c.in-Ok.ensures.bounds c.in-Ok.ensures.nesting (not-false _ (sym c.is_wrong_whole-wrong.ensures ∙ c.if-wrong-3.false))
