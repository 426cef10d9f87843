-- The values of the criteria so far stand in their places.
use Rattle.std.proofs.Common.{◌≡◌, ℕ, ◌<◌, pos, get_or}
use Rattle.criteria_order.specs.CriteriaValues.{criteria_values}
use Rattle.criteria_order.proofs.ranking.criteria_values.Given as goal

abbrev pub invariant-loop-i : goal.invariant-loop-i
invariant-loop-i l = (j : ℕ) → j < l.i → get_or l.into j (pos 0) ≡ get_or (criteria_values l.problem l.order l.c) j (pos 0)
