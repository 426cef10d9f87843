use Rattle.std.proofs.Common.{◌≡◌, true, refl, arith}
use Rattle.std.proofs.lemmas.Bool.Decides.{nat_tests}
use Rattle.prod_model.specs.Limits.{is_between, most_arguments}
use Rattle.file_values.specs.declared.operator.Argument.TheVariants.{Inner}
use Rattle.file_values.proofs.FormLaws.{take_replicate}
use Rattle.file_values.proofs.operators.some_inner.Goals as goal

-- so many of the 64
pub returns-then-count-le-MOST_ARGUMENTS : goal.returns-then-count-le-MOST_ARGUMENTS
returns-then-count-le-MOST_ARGUMENTS c =
    let few : is_between 1 most_arguments c.args.count ≡ true = grind (arith, nat_tests) in
    rw (few, take_replicate c.args.count 64 Inner (omega arith)) refl
