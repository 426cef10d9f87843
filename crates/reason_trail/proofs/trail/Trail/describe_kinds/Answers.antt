use Rattle.std.proofs.Common.{◌==◌, ◌∷◌, ◌++◌, [], ◌∙◌, ap, map, not, ℕ}
use Rattle.std.specs.Prelude.{if◌then◌else◌}
use Rattle.std.specs.Int.{bit_at}
use Rattle.config_value.specs.declared.literal.Literal.TheVariants.{Made, NotKind}
use Rattle.state_space.specs.Sets.{has_number}
use Rattle.state_space.specs.State.{kinds_at, leaves_that}
use Rattle.state_space.proofs.DescriptionLaws.{description_is_entailed}
use Rattle.reason_trail.proofs.InTurn.{two_joined, ok_then, err_then, begins_on, begins_longer}
use Rattle.reason_trail.proofs.Possible.{same_leaves}
use Rattle.reason_trail.proofs.trail.Trail.describe_kinds.Goals as goal

pub returns-in_err-push-clause-entailed : goal.returns-in_err-push-clause-entailed
returns-in_err-push-clause-entailed c =
    (description_is_entailed c.args.self.now.job.model c.args.self.now.state c.args.i c.state.ensures.problem c.requires).kinds

-- the mask has the possible types
pub returns-clause-described : goal.returns-clause-described
returns-clause-described c =
    let model = c.problem.ensures.problem ∙ ap (λ j. j.model) c.job.ensures.job in
    let bits = λ (t : ℕ). c.kinds-kinds.ensures t ∙ ap (λ s. if has_number (kinds_at s c.args.i) t then 1 else 0) c.state.ensures.state in
    ok_then _ _ (λ rest.
    two_joined c.args.into.now c.push.new.self c.push_other_leaves.new.into (Made c.args.i ∷ []) _ c.in_ok-push.ensures.pushed
    (rest
    ∙ ap (λ m. c.push.new.self ++ map (λ t. NotKind c.args.i t) (leaves_that m (λ t. not (bit_at c.kinds-kinds.result t == 1)))) model
    ∙ ap (λ ts. c.push.new.self ++ map (λ t. NotKind c.args.i t) ts)
    (same_leaves c.args.self.now.job.model c.kinds-kinds.result (kinds_at c.args.self.now.state c.args.i) bits))) c.push_other_leaves.result c.push_other_leaves.ensures.described

pub returns-clause-begun : goal.returns-clause-begun
returns-clause-begun c =
    err_then _ _ (begins_on c.args.into.now c.push.new.self c.push_other_leaves.new.into (begins_longer c.args.into.now _ c.push.new.self c.in_ok-push.ensures.pushed))
    c.push_other_leaves.result c.push_other_leaves.ensures.begun

pub returns-clause-entailed : goal.returns-clause-entailed
returns-clause-entailed c =
    (description_is_entailed c.args.self.now.job.model c.args.self.now.state c.args.i c.state.ensures.problem c.requires).kinds
