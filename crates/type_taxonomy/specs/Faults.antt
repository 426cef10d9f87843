-- The faults of a taxonomy, and the first of them.
use Rattle.std.specs.Prelude.{◌≡◌, ℕ, ◌<◌, true, false, IsTrue, IsFalse, List, [], ◌∷◌, length, if◌then◌else◌}
use Rattle.std.specs.Ordering.{nat_cmp, is_lt}
use Rattle.std.specs.Cmp.Lexicographic.{slice_cmp}
use Rattle.base_laws.specs.Places.{IsAt}
use Rattle.prod_model.specs.declared.model.Model.{Model}
use Rattle.prod_model.specs.declared.model.TypeDecl.{TypeDecl}
use Rattle.prod_model.specs.declared.model.AttrDecl.{AttrDecl}
use Rattle.prod_model.specs.declared.model.PortDecl.{PortDecl}
use Rattle.prod_model.specs.First.{IsFirst}
use Rattle.prod_model.specs.Forest.{is_in_circle}
use Rattle.prod_model.specs.Valid.{knows_types, has_room_at}
use Rattle.type_taxonomy.specs.declared.fault.TaxFault.{TaxFault}
use Rattle.type_taxonomy.specs.declared.fault.TaxFault.TheVariants.{UnknownParent, Cycle, Widening, Crowded, Memory}
use Rattle.type_taxonomy.specs.Nearest.{AttributeNarrows, PortNarrows}

-- The model has this fault. Want of memory is none.
pub data HasTaxFault (m : Model) (f : TaxFault) : Type 0 where
  unknown_parent : (t : ℕ) (d : TypeDecl) → f ≡ UnknownParent t → IsAt m.types t d
      → IsFalse (knows_types m d) → HasTaxFault m f
  cycle : (t : ℕ) → f ≡ Cycle t → t < length m.types → IsTrue (is_in_circle m t) → HasTaxFault m f
  wider_attribute : (t k : ℕ) (d : TypeDecl) (a : AttrDecl) → f ≡ Widening t false k
      → IsAt m.types t d → IsAt d.attributes k a → ¬ AttributeNarrows m t a → HasTaxFault m f
  wider_port : (t k : ℕ) (d : TypeDecl) (p : PortDecl) → f ≡ Widening t true k
      → IsAt m.types t d → IsAt d.ports k p → ¬ PortNarrows m t p → HasTaxFault m f
  crowded : (t : ℕ) → f ≡ Crowded t → t < length m.types → IsFalse (has_room_at m t)
      → HasTaxFault m f

-- by kind of fault, then by type, then attributes before ports, and then by place
abbrev pub rank_of : TaxFault → List ℕ
rank_of (UnknownParent t) = 0 ∷ t ∷ []
rank_of (Cycle t) = 1 ∷ t ∷ []
rank_of (Widening t port k) = 2 ∷ t ∷ (if port then 1 else 0) ∷ k ∷ []
rank_of (Crowded t) = 3 ∷ t ∷ []
rank_of Memory = []

-- the first fault comes before the second one
abbrev pub IsFaultBefore : TaxFault → TaxFault → Type 0
IsFaultBefore f g = IsTrue (is_lt (slice_cmp nat_cmp (rank_of f) (rank_of g)))

-- the first fault that the model has
abbrev pub IsFirstTaxFault : Model → TaxFault → Type 0
IsFirstTaxFault m = IsFirst (HasTaxFault m) IsFaultBefore

-- what a fault says of the model: it is the first one; want of memory says nothing
abbrev pub Faults : Model → TaxFault → Type 0
Faults m (UnknownParent t) = IsFirstTaxFault m (UnknownParent t)
Faults m (Cycle t) = IsFirstTaxFault m (Cycle t)
Faults m (Widening t port k) = IsFirstTaxFault m (Widening t port k)
Faults m (Crowded t) = IsFirstTaxFault m (Crowded t)
Faults m Memory = Unit {0}
