use Rattle.std.proofs.Common.{ℕ, ◌<◌}
use Rattle.branch_cut.specs.steps.Fixed.{IsFixed}
use Rattle.branch_cut.proofs.choosing.lowest_branch.Given as goal

-- the instances so far are fixed
abbrev pub invariant-loop-i : goal.invariant-loop-i
invariant-loop-i l = (j : ℕ) → j < l.i → IsFixed l.problem l.p j
