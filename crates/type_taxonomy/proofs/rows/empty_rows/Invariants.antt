use Rattle.std.proofs.Common.{◌≡◌, length}
use Rattle.type_taxonomy.proofs.rows.empty_rows.Given as goal

abbrev pub invariant-loop : goal.invariant-loop
invariant-loop g l = length l.rows ≡ l.counter
