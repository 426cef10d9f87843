use Rattle.std.proofs.Common.{ℕ, ◌<◌}
use Rattle.prod_model.specs.declared.model.TypeDecl.{TypeDecl}
use Rattle.type_taxonomy.specs.steps.Built.{NarrowsAll}
use Rattle.base_laws.specs.Places.{IsAt}
use Rattle.type_taxonomy.proofs.widening.first_widening.Given as goal

-- the declarations of the types so far narrow
abbrev pub invariant-loop-t : goal.invariant-loop-t
invariant-loop-t l = (u : ℕ) (e : TypeDecl) → u < l.t → IsAt l.types u e → NarrowsAll l.forest.model.now u e
