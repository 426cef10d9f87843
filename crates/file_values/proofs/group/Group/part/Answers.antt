use Rattle.std.proofs.Common.{rules, ◌≡◌, ◌+◌, ◌<◌, length, arith}
use Rattle.file_values.proofs.GroupLaws.{length_grouped, in_first, in_second}
use Rattle.file_values.proofs.group.Group.part.Goals as goal

pub returns-in-None-clause-same : goal.returns-in-None-clause-same
returns-in-None-clause-same c =
    let within : c.args.number < length c.args.self.now.first.items.now = search rules in
    in_first c.args.self.now c.args.number within

pub returns-in-Some-clause-same : goal.returns-in-Some-clause-same
returns-in-Some-clause-same c =
    let is : c.args.number ≡ length c.args.self.now.first.items.now + c.in-Some.index = search rules in
    in_second c.args.self.now c.args.number c.in-Some.index is

pub returns-in-Some-clause-within : goal.returns-in-Some-clause-within
returns-in-Some-clause-within c =
    let is : c.args.number ≡ length c.args.self.now.first.items.now + c.in-Some.index = search rules in
    let long = length_grouped c.args.self.now in
    let within = c.requires in
    omega (arith, is, long, within)
