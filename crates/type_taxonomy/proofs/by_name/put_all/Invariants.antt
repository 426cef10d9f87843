use Rattle.std.proofs.Common.{◌≡◌, ℕ, ◌≤◌, List, length, drop}
use Rattle.std.specs.Option.{option_or}
use Rattle.type_taxonomy.specs.steps.ByName.{found, found_at}
use Rattle.type_taxonomy.proofs.by_name.put_all.Given as goal

-- the declarations from this place on are put
abbrev pub invariant-loop-left : goal.invariant-loop-left
invariant-loop-left g l = record {
  within : l.left ≤ length l.declared;
  found : (q : List ℕ) → found l.names q ≡ option_or (found_at g.D.Declaration.name_of l.height (drop l.left l.declared) q) (found l.initial.names q);
}

abbrev pub decreases-loop-left : goal.decreases-loop-left
decreases-loop-left g l = l.left
