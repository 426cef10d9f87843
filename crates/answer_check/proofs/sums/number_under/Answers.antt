use Rattle.std.proofs.Common.{arith}
use Rattle.std.proofs.lemmas.Int.{ints}
use Rattle.std.proofs.lemmas.List.Sums.{count_by-le-length}
use Rattle.config_value.specs.Value.{under}
use Rattle.answer_check.proofs.sums.number_under.Goals as goal

pub overflow_cast-result : goal.overflow_cast-result
overflow_cast-result c = omega (arith, count_by-le-length (under c.args.problem.now c.args.kind) c.args.c.now, c.count_under.ensures)

pub returns : goal.returns
returns c = omega (arith, ints, count_by-le-length (under c.args.problem.now c.args.kind) c.args.c.now, c.count_under.ensures)
