use Rattle.std.proofs.Common.{◌≡◌, take}
use Rattle.std.specs.List.{count_by}
use Rattle.config_value.specs.Value.{under}
use Rattle.answer_check.proofs.instances.count_under.Given as goal

abbrev pub invariant-loop-i : goal.invariant-loop-i
invariant-loop-i l = l.count ≡ count_by (under l.problem l.kind) (take l.i l.c)
