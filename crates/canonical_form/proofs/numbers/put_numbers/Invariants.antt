use Rattle.std.proofs.Common.{◌≡◌, ◌++◌, take}
use Rattle.canonical_form.proofs.Joined.{after_commas}
use Rattle.canonical_form.proofs.numbers.put_numbers.Given as goal

-- a comma and the number, for each number so far
abbrev pub invariant-loop-n : goal.invariant-loop-n
invariant-loop-n l = l.out.items ≡ l.initial.out.items ++ after_commas (take l.n-index l.rest)
