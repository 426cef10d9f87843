use Rattle.std.proofs.Common.{◌≡◌, ◌∙◌, ◌&&◌, ◌||◌, not, ap, sym, length, refl, take, arith, rules}
use Rattle.std.specs.List.{list_all, list_any}
use Rattle.std.proofs.lemmas.Bool.{and_parts}
use Rattle.std.proofs.Math.Bool.{and_assoc}
use Rattle.std.proofs.lemmas.Grind.{common_steps}
use denote.Param.Weighed.{at_most}
use Rattle.prod_model.proofs.expr.Expr.TheLaws.{the_size}
use Rattle.prod_model.specs.declared.expr.Expr.{the_lemmas}
use Rattle.std.proofs.lemmas.Option.{slice_get_read}
use Rattle.config_value.specs.Value.{is_true_at, links_at_instance}
use Rattle.instance_set.specs.InstanceSets.{is_member}
use Rattle.base_laws.proofs.Steps.{all_next, any_next}
use Rattle.answer_check.proofs.EvaluationLaws.{value_at_form, evaluable}
use Rattle.answer_check.proofs.TruthLaws.{none_more, but_not, but_not_not, if_then, bounded_within, linked_bounded, all_linked, any_linked}
use Rattle.answer_check.proofs.truths.+truths.Goals as goal

-- ---- what has bounds can be evaluated

pub true_among-all_among-requires : goal.true_among-all_among-requires
true_among-all_among-requires t c = (
  search (rules, the_lemmas),
  (
    c.requires.valid,
    (
      c.requires.shaped,
      λ k e at i here.
          let can = evaluable c.args.problem.now c.args.c.now c.requires.valid.declared c.requires.shaped i c.args.e.now (c.requires.bounded i here) in
          search (rules, the_lemmas),
    ),
  ),
)

pub true_among-none_among-requires : goal.true_among-none_among-requires
true_among-none_among-requires t c = (
  search (rules, the_lemmas),
  (
    c.requires.valid,
    (
      c.requires.shaped,
      λ k e at i here.
          let can = evaluable c.args.problem.now c.args.c.now c.requires.valid.declared c.requires.shaped i c.args.e.now (c.requires.bounded i here) in
          search (rules, the_lemmas),
    ),
  ),
)

pub true_among-true_among-requires : goal.true_among-true_among-requires
true_among-true_among-requires t c = (
  search (rules, the_lemmas),
  (
    c.requires.valid,
    (
      c.requires.shaped,
      λ i here.
          let can = evaluable c.args.problem.now c.args.c.now c.requires.valid.declared c.requires.shaped i c.args.e.now (c.requires.bounded i here) in
          search (rules, the_lemmas),
    ),
  ),
)

pub true_among-true_among-premise-requires : goal.true_among-true_among-premise-requires
true_among-true_among-premise-requires t c = (
  search (rules, the_lemmas),
  (
    c.requires.valid,
    (
      c.requires.shaped,
      λ i here.
          let can = evaluable c.args.problem.now c.args.c.now c.requires.valid.declared c.requires.shaped i c.args.e.now (c.requires.bounded i here) in
          search (rules, the_lemmas),
    ),
  ),
)

pub true_among-true_among-both-requires : goal.true_among-true_among-both-requires
true_among-true_among-both-requires t c = (
  search (rules, the_lemmas),
  (
    c.requires.valid,
    (
      c.requires.shaped,
      λ i premise.
          let here = (and_parts _ _ (sym (c.true_among-premise.ensures i) ∙ premise)).0 in
          let can = evaluable c.args.problem.now c.args.c.now c.requires.valid.declared c.requires.shaped i c.args.e.now (c.requires.bounded i here) in
          search (rules, the_lemmas),
    ),
  ),
)

pub true_among-true_among-found-requires : goal.true_among-true_among-found-requires
true_among-true_among-found-requires t c = (
  search (rules, the_lemmas),
  (
    c.requires.valid,
    (
      c.requires.shaped,
      linked_bounded c.args.problem.now c.args.c.now c.in-All.p c.args.among c.linked_from-linked.result c.linked_from-linked.ensures c.get-in-All.result.now (λ i here.
          let can = evaluable c.args.problem.now c.args.c.now c.requires.valid.declared c.requires.shaped i c.args.e.now (c.requires.bounded i here) in
          search (rules, the_lemmas)),
    ),
  ),
)

pub true_among-true_among-requires-in-Any : goal.true_among-true_among-requires-in-Any
true_among-true_among-requires-in-Any t c = (
  search (rules, the_lemmas),
  (
    c.requires.valid,
    (
      c.requires.shaped,
      linked_bounded c.args.problem.now c.args.c.now c.in-Any.p c.args.among c.linked_from-linked-in-Any.result c.linked_from-linked-in-Any.ensures c.get-in-Any.result.now (λ i here.
          let can = evaluable c.args.problem.now c.args.c.now c.requires.valid.declared c.requires.shaped i c.args.e.now (c.requires.bounded i here) in
          search (rules, the_lemmas)),
    ),
  ),
)

pub all_among-true_among-left-requires : goal.all_among-true_among-left-requires
all_among-true_among-left-requires t c =
    let at = slice_get_read c.args.args.now (length c.args.args.now) c.loop-e.e-index c.e-item.result refl c.loop-e-test.true c.e-item.is in
    let low = at_most the_size c.args.args.now c.loop-e.e-index c.e-item.result c.loop-e-test.true in (
      grind (arith, common_steps, low, ap the_size c.e-item.is),
      (
        c.requires.valid,
        (
          c.requires.shaped,
          λ i here.
              c.requires.bounded c.loop-e.e-index c.e-item.result at i (and_parts _ _ (sym (c.loop-e.invariant i) ∙ here)).0,
        ),
      ),
    )

pub none_among-true_among-requires : goal.none_among-true_among-requires
none_among-true_among-requires t c =
    let at = slice_get_read c.args.args.now (length c.args.args.now) c.loop-e.e-index c.e-item.result refl c.loop-e-test.true c.e-item.is in
    let low = at_most the_size c.args.args.now c.loop-e.e-index c.e-item.result c.loop-e-test.true in (
      grind (arith, common_steps, low, ap the_size c.e-item.is),
      (
        c.requires.valid,
        (
          c.requires.shaped,
          λ i here.
              c.requires.bounded c.loop-e.e-index c.e-item.result at i (and_parts _ _ (sym (c.loop-e.invariant i) ∙ here)).0,
        ),
      ),
    )

-- ---- one more argument

pub all_among-loop-e-preserved : goal.all_among-loop-e-preserved
all_among-loop-e-preserved t c = λ i.
    let at = slice_get_read c.args.args.now (length c.args.args.now) c.loop-e.e-index c.e-item.result refl c.loop-e-test.true c.e-item.is in
    let next = all_next (is_true_at c.args.problem.now c.args.c.now i) c.args.args.now c.loop-e.e-index c.e-item.result at in
    let order = and_assoc (is_member c.args.among i) (list_all (is_true_at c.args.problem.now c.args.c.now i) (take c.loop-e.e-index c.args.args.now)) (is_true_at c.args.problem.now c.args.c.now i c.e-item.result) in
    let told = c.true_among-left.ensures i in
    let before = c.loop-e.invariant i in
    cc

pub none_among-loop-e-preserved : goal.none_among-loop-e-preserved
none_among-loop-e-preserved t c = λ i.
    let at = slice_get_read c.args.args.now (length c.args.args.now) c.loop-e.e-index c.e-item.result refl c.loop-e-test.true c.e-item.is in
    let next = any_next (is_true_at c.args.problem.now c.args.c.now i) c.args.args.now c.loop-e.e-index c.e-item.result at in
    let once = but_not (is_member c.loop-e.left i) (is_true_at c.args.problem.now c.args.c.now i c.e-item.result) in
    let order = none_more (is_member c.args.among i) (list_any (is_true_at c.args.problem.now c.args.c.now i) (take c.loop-e.e-index c.args.args.now)) (is_true_at c.args.problem.now c.args.c.now i c.e-item.result) in
    let told = c.true_among.ensures i in
    let before = c.loop-e.invariant i in
    let left = c.difference-left.ensures i in
    cc

-- ---- where it is true

pub true_among-returns-in-And : goal.true_among-returns-in-And
true_among-returns-in-And t c = λ i. rw (value_at_form c.args.problem.now c.args.c.now i c.args.e.now) (search (rules, the_lemmas))

pub true_among-returns-in-Or : goal.true_among-returns-in-Or
true_among-returns-in-Or t c = λ i.
    let twice = but_not_not (is_member c.args.among i) (list_any (is_true_at c.args.problem.now c.args.c.now i) c.as_slice-in-Or.result.now) in
    rw (value_at_form c.args.problem.now c.args.c.now i c.args.e.now) (search (rules, the_lemmas))

pub true_among-returns-in-Not : goal.true_among-returns-in-Not
true_among-returns-in-Not t c = λ i.
    let once = but_not (is_member c.args.among i) (is_true_at c.args.problem.now c.args.c.now i c.get.result.now) in
    rw (value_at_form c.args.problem.now c.args.c.now i c.args.e.now) (search (rules, the_lemmas))

pub true_among-returns-in-If : goal.true_among-returns-in-If
true_among-returns-in-If t c = λ i.
    let both = if_then (is_member c.args.among i) (is_true_at c.args.problem.now c.args.c.now i c.get-in-If.result.now) (is_true_at c.args.problem.now c.args.c.now i c.get-in-If-2.result.now) in
    let premise = c.true_among-premise.ensures i in
    let found = c.true_among-both.ensures i in
    let others = c.difference-in-If.ensures i in
    let either = c.union.ensures i in
    let told : is_member c.union.result i ≡ (is_member c.args.among i && (not (is_true_at c.args.problem.now c.args.c.now i c.get-in-If.result.now) || is_true_at c.args.problem.now c.args.c.now i c.get-in-If-2.result.now)) = cc in
    rw (value_at_form c.args.problem.now c.args.c.now i c.args.e.now) (search (rules, the_lemmas))

pub true_among-returns-in-All : goal.true_among-returns-in-All
true_among-returns-in-All t c = λ i.
    let within = bounded_within c.args.problem.now c.args.c.now c.args.among c.args.e.now c.requires.bounded in
    let all = all_linked c.args.problem.now c.args.c.now c.in-All.p c.args.among c.linked_from-linked.result c.linked_from-linked.ensures within c.get-in-All.result.now c.true_among-found.result c.true_among-found.ensures i in
    rw (value_at_form c.args.problem.now c.args.c.now i c.args.e.now) (search (rules, the_lemmas))

pub true_among-returns-in-Any : goal.true_among-returns-in-Any
true_among-returns-in-Any t c = λ i.
    let within = bounded_within c.args.problem.now c.args.c.now c.args.among c.args.e.now c.requires.bounded in
    let any = any_linked c.args.problem.now c.args.c.now c.in-Any.p c.args.among c.linked_from-linked-in-Any.result c.linked_from-linked-in-Any.ensures within c.get-in-Any.result.now c.true_among-in-Any.result c.true_among-in-Any.ensures c.difference-others.result c.difference-others.ensures i in
    let twice = but_not_not (is_member c.args.among i) (list_any (λ j. is_true_at c.args.problem.now c.args.c.now j c.get-in-Any.result.now) (links_at_instance c.args.problem.now c.args.c.now c.in-Any.p i)) in
    let told : is_member c.difference-in-Any.result i ≡ (is_member c.args.among i && list_any (λ j. is_true_at c.args.problem.now c.args.c.now j c.get-in-Any.result.now) (links_at_instance c.args.problem.now c.args.c.now c.in-Any.p i)) =
    c.difference-in-Any.ensures i ∙ ap (λ b. is_member c.args.among i && not b) (c.linking_only-in-Any.ensures i ∙ any) ∙ twice in
    rw (value_at_form c.args.problem.now c.args.c.now i c.args.e.now) (search (rules, the_lemmas))

pub true_among-returns-in_default : goal.true_among-returns-in_default
true_among-returns-in_default t c = λ i. rw (value_at_form c.args.problem.now c.args.c.now i c.args.e.now) (search (rules, the_lemmas))
