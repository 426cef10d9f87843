-- The faults of inverses, and the first of them.
use Rattle.std.specs.Prelude.{◌≡◌, ℕ, IsTrue, IsFalse, List, [], ◌∷◌}
use Rattle.std.specs.Ordering.{nat_cmp, is_lt}
use Rattle.std.specs.Cmp.Lexicographic.{slice_cmp}
use Rattle.base_laws.specs.Places.{IsAt}
use Rattle.prod_model.specs.declared.model.Model.{Model}
use Rattle.prod_model.specs.declared.model.PortDecl.{PortDecl}
use Rattle.prod_model.specs.First.{IsFirst}
use Rattle.prod_model.specs.Valid.{has_right_inverse, port_declarations}
use Rattle.type_taxonomy.specs.declared.inverse_fault.InverseFault.{InverseFault}
use Rattle.type_taxonomy.specs.declared.inverse_fault.InverseFault.TheVariants.{Bad}

-- the declaration at that place of the type names an inverse that is not right
pub record HasInverseFault (m : Model) (f : InverseFault) : Type 0 where
  pub kind : ℕ
  pub place : ℕ
  pub is : f ≡ Bad kind place
  pub declaration : PortDecl
  pub stands : IsAt (port_declarations m kind) place declaration
  pub wrong : IsFalse (has_right_inverse m kind declaration)

-- by type, and then by place: in the order of the file
abbrev pub rank_of : InverseFault → List ℕ
rank_of (Bad kind place) = kind ∷ place ∷ []

-- the first fault comes before the second one
abbrev pub IsInverseFaultBefore : InverseFault → InverseFault → Type 0
IsInverseFaultBefore f g = IsTrue (is_lt (slice_cmp nat_cmp (rank_of f) (rank_of g)))

-- the first fault of inverses that the model has
abbrev pub IsFirstInverseFault : Model → InverseFault → Type 0
IsFirstInverseFault m = IsFirst (HasInverseFault m) IsInverseFaultBefore
