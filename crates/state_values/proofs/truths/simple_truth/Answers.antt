use Rattle.std.proofs.Common.{◌≡◌, rules}
use Rattle.prod_model.specs.declared.expr.Expr.{the_lemmas}
use Rattle.prod_model.specs.declared.expr.Expr.TheOpen.{Cmp}
use Rattle.prod_model.specs.declared.expr.Expr.TheViews.{out-Expr}
use Rattle.state_values.proofs.SimpleTruths.{cmp_told}
use Rattle.state_values.proofs.NumberLaws.{truth_parts}
use Rattle.state_values.proofs.truths.simple_truth.Goals as goal

pub number_in-first-requires-clause-number : goal.number_in-first-requires-clause-number
number_in-first-requires-clause-number c =
    let has = truth_parts c.args.problem.now c.model-model.ensures.valid.declared c.args.p.now c.args.kind c.args.i c.requires.stands c.args.e.now c.requires.truth in
    search (rules, the_lemmas)

pub number_in-second-requires-clause-number : goal.number_in-second-requires-clause-number
number_in-second-requires-clause-number c =
    let has = truth_parts c.args.problem.now c.model-model.ensures.valid.declared c.args.p.now c.args.kind c.args.i c.requires.stands c.args.e.now c.requires.truth in
    search (rules, the_lemmas)

pub has_word-requires : goal.has_word-requires
has_word-requires c =
    let has = truth_parts c.args.problem.now c.model-model.ensures.valid.declared c.args.p.now c.args.kind c.args.i c.requires.stands c.args.e.now c.requires.truth in
    search (rules, the_lemmas)

pub returns-in-Cmp : goal.returns-in-Cmp
returns-in-Cmp c =
    let is : out-Expr c.args.e.now ≡ Cmp c.in-Cmp.r c.get.result.now c.get-in-Cmp.result.now = search (rules, the_lemmas) in
    cmp_told c.args.problem.now c.args.p.now c.args.kind c.args.i c.args.e.now c.in-Cmp.r c.get.result.now c.get-in-Cmp.result.now is c.related.result c.number_in-first.result.seen c.number_in-second.result.seen
    (search (rules, the_lemmas)) c.number_in-first.ensures.low c.number_in-first.ensures.high c.number_in-second.ensures.low c.number_in-second.ensures.high
