-- The least ranks decide, and else the key start; and what is demanded is dead.
use Rattle.std.proofs.Common.{◌≡◌, ◌∙◌, ap, sym, subst}
use Rattle.std.specs.Prelude.{IsTrue}
use Rattle.std.specs.declared.cmp.Ordering.{Ordering}
use Rattle.std.specs.Ordering.{is_gt}
use Rattle.config_value.specs.Shaped.{is_shaped}
use Rattle.state_values.specs.KeyStart.{key_start_order}
use Rattle.answer_check.proofs.FewItems.{few_shaped}
use Rattle.branch_cut.specs.Cuts.{IsCutDemanded, IsDead}
use Rattle.branch_cut.proofs.CutLaws.{satisfied_shaped, demanded_is_dead}
use Rattle.branch_cut.proofs.CutParts.{lowest_order, vectors_of, before_is_no_cut, keys_decide, after_is_cut, gt_told}
use Rattle.branch_cut.proofs.cut.cut_dead.Goals as goal

pub lowest_cmp-requires-clause-shaped : goal.lowest_cmp-requires-clause-shaped
lowest_cmp-requires-clause-shaped c =
    subst (λ m. IsTrue (is_shaped m c.args.best.now)) (sym c.problem-problem.ensures.problem)
    (satisfied_shaped c.args.job.now.model c.args.best.now c.requires.wanted.candidate.satisfied)

pub key_start_cmp-requires-clause-few : goal.key_start_cmp-requires-clause-few
key_start_cmp-requires-clause-few c =
    few_shaped c.args.job.now.model c.args.best.now c.problem-problem.ensures.fitting.valid
    (satisfied_shaped c.args.job.now.model c.args.best.now c.requires.wanted.candidate.satisfied)

pub returns-in-Less-clause-demanded : goal.returns-in-Less-clause-demanded
returns-in-Less-clause-demanded c demanded =
    let j = c.args.job.now in
    let vectors = vectors_of j c.args.p.now c.args.best.now c.problem-problem.result.now c.as_slice.result.now c.lowest_cmp.result c.problem-problem.ensures.problem (c.as_slice.ensures ∙ ap (λ o. o.criteria) c.order.ensures) c.lowest_cmp.ensures in
    absurd (before_is_no_cut j c.args.p.now c.args.best.now c.lowest_cmp.result vectors c.in-Less.is demanded)

pub returns-in-Equal-clause-dead : goal.returns-in-Equal-clause-dead
returns-in-Equal-clause-dead c is =
    let j = c.args.job.now in
    let vectors = vectors_of j c.args.p.now c.args.best.now c.problem-problem.result.now c.as_slice.result.now c.lowest_cmp.result c.problem-problem.ensures.problem (c.as_slice.ensures ∙ ap (λ o. o.criteria) c.order.ensures) c.lowest_cmp.ensures in
    let keys = c.key_start_cmp.ensures ∙ ap (λ m. key_start_order m c.args.p.now c.args.best.now) c.problem-problem.ensures.problem in
    let order = keys_decide j c.args.p.now c.args.best.now c.lowest_cmp.result c.key_start_cmp.result vectors c.in-Equal.is keys in
    demanded_is_dead j c.args.p.now c.args.best.now c.problem-problem.ensures.fitting c.requires.state c.requires.whole
    (order ∙ gt_told c.key_start_cmp.result (sym c.is_gt.ensures ∙ is))

pub returns-in-Equal-clause-demanded : goal.returns-in-Equal-clause-demanded
returns-in-Equal-clause-demanded c demanded =
    let j = c.args.job.now in
    let vectors = vectors_of j c.args.p.now c.args.best.now c.problem-problem.result.now c.as_slice.result.now c.lowest_cmp.result c.problem-problem.ensures.problem (c.as_slice.ensures ∙ ap (λ o. o.criteria) c.order.ensures) c.lowest_cmp.ensures in
    let keys = c.key_start_cmp.ensures ∙ ap (λ m. key_start_order m c.args.p.now c.args.best.now) c.problem-problem.ensures.problem in
    let order = keys_decide j c.args.p.now c.args.best.now c.lowest_cmp.result c.key_start_cmp.result vectors c.in-Equal.is keys in
    c.is_gt.ensures ∙ ap is_gt (sym order ∙ demanded)

pub returns-in-Greater-clause-dead : goal.returns-in-Greater-clause-dead
returns-in-Greater-clause-dead c is =
    let j = c.args.job.now in
    let vectors = vectors_of j c.args.p.now c.args.best.now c.problem-problem.result.now c.as_slice.result.now c.lowest_cmp.result c.problem-problem.ensures.problem (c.as_slice.ensures ∙ ap (λ o. o.criteria) c.order.ensures) c.lowest_cmp.ensures in
    demanded_is_dead j c.args.p.now c.args.best.now c.problem-problem.ensures.fitting c.requires.state c.requires.whole
    (after_is_cut j c.args.p.now c.args.best.now c.lowest_cmp.result vectors c.in-Greater.is)
