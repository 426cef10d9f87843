use Rattle.std.proofs.Common.{◌≡◌, ◌∙◌, sym, true, nat_lt, ◌&&◌}
use Rattle.std.proofs.lemmas.Bool.{and_parts}
use Rattle.config_value.specs.Value.{is_under}
use Rattle.answer_check.proofs.FewItems.{few_shaped}
use Rattle.answer_check.proofs.FaultlessLaws.{bounded_under}
use Rattle.answer_check.proofs.rules.false_below.Goals as goal

pub under_below-under-requires-clause-few : goal.under_below-under-requires-clause-few
under_below-under-requires-clause-few c = few_shaped c.args.problem.now c.args.c.now c.requires.valid c.requires.shaped

-- each instance of the set is under the rule's type
pub true_among-requires-clause-bounded : goal.true_among-requires-clause-bounded
true_among-requires-clause-bounded c = λ i member.
    let both : (nat_lt i c.args.below && is_under c.args.problem.now c.args.c.now c.args.rule.now.kind i) ≡ true = sym (c.under_below-under.ensures i) ∙ member in
    bounded_under c.args.problem.now c.args.c.now i c.args.rule.now.holds c.args.rule.now.kind (and_parts (nat_lt i c.args.below) _ both).1 c.requires.faultless
