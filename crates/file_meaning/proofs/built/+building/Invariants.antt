use Rattle.std.proofs.Common.{◌+◌, ◌*◌, ◌≡◌, map, take}
use Rattle.serde_json.specs.View.{view}
use Rattle.file_values.proofs.FormLaws.{size, weight}
use Rattle.file_meaning.specs.steps.Built.{elements}
use Rattle.file_meaning.proofs.built.+building.Given as goal

-- there are less values in an argument than in the array
abbrev pub decreases-expression_of : goal.decreases-expression_of
decreases-expression_of l = 8 * size (view l.value.now) + 1

abbrev pub decreases-array_of : goal.decreases-array_of
decreases-array_of l = 8 * weight l.items.now + 7

abbrev pub decreases-form_of : goal.decreases-form_of
decreases-form_of l = 8 * weight l.args.now + 6

abbrev pub decreases-form_of_few : goal.decreases-form_of_few
decreases-form_of_few l = 8 * weight l.args.now + 5

abbrev pub decreases-all_at : goal.decreases-all_at
decreases-all_at l = 8 * weight l.args.now + 5

abbrev pub decreases-form_of_one : goal.decreases-form_of_one
decreases-form_of_one l = 8 * size (view l.arg.now) + 5

abbrev pub decreases-form_of_two : goal.decreases-form_of_two
decreases-form_of_two l = 8 * (size (view l.first.now) + size (view l.second.now)) + 5

abbrev pub decreases-boxed_at : goal.decreases-boxed_at
decreases-boxed_at l = 8 * size (view l.value.now) + 2

abbrev pub decreases-boxed_behind : goal.decreases-boxed_behind
decreases-boxed_behind l = 8 * size (view l.value.now) + 3

-- what the values before this one are
abbrev pub invariant-all_at-loop-arg : goal.invariant-all_at-loop-arg
invariant-all_at-loop-arg l = l.all ≡ map (λ e. e.at l.t) (elements l.model (take l.arg-index l.args))
