use Rattle.std.proofs.Common.{sym, subst, Some, refl}
use Rattle.answer_check.specs.declared.verdict.Verdict.{Verdict}
use Rattle.answer_check.specs.steps.Finds.{FindsBreakBelow}
use Rattle.answer_check.proofs.FirstBreaks.{no_break_next, found_break}
use Rattle.answer_check.proofs.NoBreaks.{shaped_unbroken, satisfies_unbroken, told_unsatisfied}
use Rattle.answer_check.proofs.in_order.check.Goals as goal

pub returns-in-Some-clause-satisfied : goal.returns-in-Some-clause-satisfied
returns-in-Some-clause-satisfied c =
    let told = c.in-Some.ensures in
    (λ same. absurd (told.0 same), λ all. absurd (told_unsatisfied c.args.problem.now c.args.c.now c.in-Some.verdict told.0 told.1 all))

pub false_rule-requires-clause-shaped : goal.false_rule-requires-clause-shaped
false_rule-requires-clause-shaped c = shaped_unbroken c.args.problem.now c.args.c.now c.requires c.in_default.ensures

-- the rule that is false is the first break
pub returns-in-Some-false_rule-clause-satisfied : goal.returns-in-Some-false_rule-clause-satisfied
returns-in-Some-false_rule-clause-satisfied c =
    let Finds : Verdict → Type 0 = λ v. FindsBreakBelow c.args.problem.now c.args.c.now 12 (Some v) in
    let told = subst Finds (sym c.broken.ensures) (found_break c.args.problem.now c.args.c.now 10 12 c.in-Some-false_rule.place c.in_default.ensures c.in-Some-false_rule.ensures) in
    (λ same. absurd (told.0 same), λ all. absurd (told_unsatisfied c.args.problem.now c.args.c.now c.broken.result told.0 told.1 all))

pub returns-in-Some-false_rule-clause-broken : goal.returns-in-Some-false_rule-clause-broken
returns-in-Some-false_rule-clause-broken c =
    let Finds : Verdict → Type 0 = λ v. FindsBreakBelow c.args.problem.now c.args.c.now 12 (Some v) in
    (subst Finds (sym c.broken.ensures) (found_break c.args.problem.now c.args.c.now 10 12 c.in-Some-false_rule.place c.in_default.ensures c.in-Some-false_rule.ensures)).1

pub returns-in-None-clause-satisfied : goal.returns-in-None-clause-satisfied
returns-in-None-clause-satisfied c =
    (λ same. satisfies_unbroken c.args.problem.now c.args.c.now c.requires (no_break_next c.args.problem.now c.args.c.now 10 c.in_default.ensures c.in-None.ensures), λ all. refl)
