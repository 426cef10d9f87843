use Rattle.std.proofs.Common.{◌≡◌, refl, rules}
use Rattle.std.specs.Prelude.{slice_get, Some}
use Rattle.std.proofs.lemmas.Bool.{and_parts}
use Rattle.std.proofs.lemmas.Option.{slice_get_read}
use Rattle.answer_check.proofs.FaultlessLaws.{faultless_rule}
use Rattle.worked_branches.proofs.truths.rule_at_root.Goals as goal

pub truth_at-requires-clause-truth : goal.truth_at-requires-clause-truth
truth_at-requires-clause-truth c =
    let m = c.args.problem.now in
    let rule = c.in-Some.rule.now in
    let found = c.in-Some.ensures.lookup in
    let there : slice_get c.as_slice.result.now c.args.number ≡ Some rule = slice_get_read c.as_slice.result.now _ c.args.number rule refl found.3.0 found.1 in
    (and_parts _ _ (faultless_rule m c.args.number rule c.model-model.ensures.valid (search (rules, there)))).1
