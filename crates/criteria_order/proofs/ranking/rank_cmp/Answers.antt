-- The rank vectors are those of all criteria of the order.
use Rattle.std.proofs.Common.{◌∙◌, ap}
use Rattle.std.specs.Ordering.{int_cmp}
use Rattle.std.specs.Cmp.Lexicographic.{slice_cmp}
use Rattle.criteria_order.specs.steps.Ranks.{rank_values}
use Rattle.criteria_order.proofs.RankParts.{keys_decide, vectors_decide}
use Rattle.criteria_order.proofs.ranking.rank_cmp.Goals as goal

pub returns-in-Equal : goal.returns-in-Equal
returns-in-Equal c =
    let all = c.criteria_cmp.ensures ∙ ap (λ rs. slice_cmp int_cmp (rank_values c.args.problem.now c.args.a.now rs) (rank_values c.args.problem.now c.args.b.now rs)) c.as_slice.ensures in
    keys_decide c.args.problem.now c.args.order.now c.args.a.now c.args.b.now c.criteria_cmp.result c.key_cmp.result all c.in-Equal.is c.key_cmp.ensures

pub returns-in_default : goal.returns-in_default
returns-in_default c =
    let all = c.criteria_cmp.ensures ∙ ap (λ rs. slice_cmp int_cmp (rank_values c.args.problem.now c.args.a.now rs) (rank_values c.args.problem.now c.args.b.now rs)) c.as_slice.ensures in
    vectors_decide c.args.problem.now c.args.order.now c.args.a.now c.args.b.now c.criteria_cmp.result all c.in_default.not-Equal
