-- What the parent of a type has under a name, among ids with declarations, is what the nearest ancestor that declares it says.
use Rattle.std.proofs.Common.{◌≡◌, ℕ, List, refl, Some}
use Rattle.std.specs.Prelude.{slice_get}
use Rattle.std.specs.Option.{option_map}
use Rattle.prod_model.specs.declared.model.TypeDecl.{TypeDecl}
use Rattle.prod_model.specs.Forest.{ancestors}
use Rattle.prod_model.proofs.NamedDeclarations.{types_along, first_named}
use Rattle.prod_model.proofs.NearestEntries.{nearest_inherited}
use Rattle.type_taxonomy.specs.steps.Entries.{placed, placed_again, placed_of}
use Rattle.type_taxonomy.specs.steps.TypeForest.{IsForest}
use Rattle.type_taxonomy.proofs.Inherited.{placed_above}

pub above_nearest : {D : Type 0} (declared : TypeDecl → List D) (name_of : D → List ℕ) (types : List TypeDecl) (t : ℕ) (d : TypeDecl) (name : List ℕ) → IsForest types
    → slice_get types t ≡ Some d → option_map (λ e. e.what.1) (placed_above declared name_of types d.parent name) ≡ first_named declared name_of name (types_along types (ancestors types t))
unfolding placed_of
above_nearest declared name_of types t d name forest is_type =
    nearest_inherited declared name_of (placed declared name_of) (placed_again declared name_of) (λ p. p.1) (λ id e. refl) (λ e p. refl) types forest.no_cycle name t d is_type
