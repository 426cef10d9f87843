use Rattle.std.proofs.Common.{◌+◌, ◌*◌}
use Rattle.serde_json.specs.View.{view}
use Rattle.file_values.proofs.FormLaws.{size, weight}
use Rattle.file_values.proofs.misformed.+misformed.Given as goal

-- there are less values in an argument than in the array
abbrev pub decreases-first_misformed : goal.decreases-first_misformed
decreases-first_misformed l = 4 * size (view l.value.now) + 1

abbrev pub decreases-first_in_array : goal.decreases-first_in_array
decreases-first_in_array l = 4 * weight l.items.now + 2

abbrev pub decreases-first_in_arguments : goal.decreases-first_in_arguments
decreases-first_in_arguments l = 4 * weight l.args.now + 3

abbrev pub decreases-first_in_argument : goal.decreases-first_in_argument
decreases-first_in_argument l = 4 * size (view l.arg.now) + 2
