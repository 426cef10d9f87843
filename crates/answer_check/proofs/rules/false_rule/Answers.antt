use Rattle.std.proofs.Common.{ℕ, ◌+◌, ◌∙◌, ap, sym, subst, length, Option, Some, None, arith}
use Rattle.answer_check.specs.steps.Finds.{BreaksAt}
use Rattle.answer_check.proofs.FewItems.{few_shaped, few_rules}
use Rattle.answer_check.proofs.FaultlessLaws.{faultless_rule, rule_within, rule_item_within}
use Rattle.answer_check.proofs.FirstRule.{IsFirstSoFar, first_found, first_kept, first_end, rule_finds}
use Rattle.base_laws.proofs.Places.{read_at}
use Rattle.answer_check.proofs.rules.false_rule.Goals as goal
use Rattle.answer_check.proofs.rules.false_rule.Goals.{in-Some, in_default}

pub overflow_cast-below : goal.overflow_cast-below
overflow_cast-below c = omega (arith, few_shaped c.args.problem.now c.args.c.now c.requires.valid c.requires.shaped, c.len-below.ensures)

pub false_below-requires-clause-faultless : goal.false_below-requires-clause-faultless
false_below-requires-clause-faultless c =
    let all = c.as_slice-rules.ensures ∙ ap (λ m. m.rules) c.model.ensures.model in
    let rule = read_at c.as_slice-rules.result.now c.args.problem.now.rules c.loop-k.k c.index-rules-k.result all c.loop-k-test.true c.index-rules-k.is in
    faultless_rule c.args.problem.now c.loop-k.k c.index-rules-k.result c.requires.valid rule

pub overflow_cast-first : goal.overflow_cast-first
overflow_cast-first c =
    let all = c.as_slice-rules.ensures ∙ ap (λ m. m.rules) c.model.ensures.model in
    omega (arith, few_rules c.args.problem.now c.requires.valid, ap length all, c.loop-k-test.true)

pub loop-k-preserved : goal.loop-k-preserved
loop-k-preserved c =
    let P = BreaksAt c.args.problem.now c.args.c.now 10 in
    let n = length c.args.c.now in
    let all = c.as_slice-rules.ensures ∙ ap (λ m. m.rules) c.model.ensures.model in
    let rule = read_at c.as_slice-rules.result.now c.args.problem.now.rules c.loop-k.k c.index-rules-k.result all c.loop-k-test.true c.index-rules-k.is in
    let finds = λ (o : Option ℕ). rule_finds c.args.problem.now c.args.c.now c.loop-k.k c.index-rules-k.result c.loop-k.below c.false_below.result o rule c.false_below.ensures in
    elim c.match-least_from.branch [
      | in-Some w ↦
          subst (λ first. IsFirstSoFar P n (c.loop-k.k + 1) first c.match-least_from.below) (sym w.first-is)
          (subst (λ below. IsFirstSoFar P n (c.loop-k.k + 1) (Some (record { instance = w.in-Some.instance; item = c.loop-k.k })) below) (sym w.below-is)
          (first_found P n c.loop-k.k c.loop-k.first c.loop-k.below w.in-Some.instance c.loop-k.invariant (finds (Some w.in-Some.instance) w.in-Some.ensures)))
      | in_default w ↦
          subst (λ first. IsFirstSoFar P n (c.loop-k.k + 1) first c.match-least_from.below) (sym w.first-is)
          (subst (λ below. IsFirstSoFar P n (c.loop-k.k + 1) c.loop-k.first below) (sym w.below-is)
          (first_kept P n c.loop-k.k c.loop-k.first c.loop-k.below c.loop-k.invariant (finds None w.in_default.ensures)))
    ]

pub returns : goal.returns
returns c =
    let all = c.as_slice-rules.ensures ∙ ap (λ m. m.rules) c.model.ensures.model in
    first_end (BreaksAt c.args.problem.now c.args.c.now 10) (length c.args.c.now) c.loop-k.k c.loop-k.first c.loop-k.below c.loop-k.invariant
    (λ i k broken. (
      rule_within c.args.problem.now c.args.c.now i k broken,
      omega (arith, rule_item_within c.args.problem.now c.args.c.now i k broken, ap length all, c.loop-k-test.false),
    ))
