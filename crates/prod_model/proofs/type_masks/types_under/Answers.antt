use Rattle.std.proofs.Common.{arith}
use Rattle.std.proofs.lemmas.Bool.Decides.{nat_tests}
use Rattle.base_laws.proofs.Masks128.{bit_at_zeros}
use Rattle.prod_model.proofs.type_masks.types_under.Goals as goal

-- no bit is set at first
pub loop-t-init : goal.loop-t-init
loop-t-init c = λ u t. grind (arith, nat_tests, bit_at_zeros 128 u t)
