use Rattle.std.proofs.Common.{◌≡◌, ℕ, ◌≤◌, List, length, drop}
use Rattle.type_taxonomy.specs.steps.Above.{found_along}
use Rattle.type_taxonomy.specs.steps.ByName.{found}
use Rattle.type_taxonomy.proofs.above.names_along.Given as goal

-- the names are those of the types from this place on
abbrev pub invariant-loop-left : goal.invariant-loop-left
invariant-loop-left g l = record {
  within : l.left ≤ length l.line;
  found : (q : List ℕ) → found l.names q ≡ found_along g.D.Declaration.declared g.D.Declaration.name_of l.types (drop l.left l.line) q;
}

abbrev pub decreases-loop-left : goal.decreases-loop-left
decreases-loop-left g l = l.left
