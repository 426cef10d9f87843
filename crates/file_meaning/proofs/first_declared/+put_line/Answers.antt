use Rattle.std.proofs.Common.{◌<◌, ◌≡◌, Some, rules, arith}
use Rattle.std.specs.Prelude.{slice_get}
use Rattle.std.proofs.lemmas.Grind.{common_steps}
use Rattle.file_meaning.proofs.Lines.{line_down_of}
use Rattle.file_meaning.proofs.first_declared.+put_line.Goals as goal

pub returns : goal.returns
returns t c =
    let some : 0 < c.args.most = omega arith in
    let kind : slice_get c.args.types.now c.in-Some.t ≡ Some c.in-Some-get.kind.now = search rules in
    let down = line_down_of c.args.most c.args.types.now c.in-Some.t c.in-Some-get.kind.now c.args.down.now.items some kind in
    grind (arith, common_steps)
