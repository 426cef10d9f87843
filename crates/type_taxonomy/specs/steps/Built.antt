-- What is known of a model's types: their lines and entries.
use Rattle.std.specs.Prelude.{◌≡◌, ℕ, ◌<◌, length, true, false, Bool, IsTrue, slice_get, Some}
use Rattle.std.specs.Option.{option_map_or}
use Rattle.prod_model.specs.declared.model.Model.{Model}
use Rattle.prod_model.specs.declared.model.TypeDecl.{TypeDecl}
use Rattle.type_taxonomy.specs.declared.forest.Forest.{Forest}
use Rattle.type_taxonomy.specs.declared.fault.TaxFault.{TaxFault}
use Rattle.type_taxonomy.specs.declared.fault.TaxFault.TheVariants.{Widening}
use Rattle.type_taxonomy.specs.steps.Entries.{AreLines, AreRows}
use Rattle.base_laws.specs.Places.{IsAt}
use Rattle.type_taxonomy.specs.steps.FirstFailing.{IsFirstFailing}
use Rattle.type_taxonomy.specs.steps.NearestTests.{attribute_narrows_nearest, port_narrows_nearest}
use Rattle.type_taxonomy.specs.steps.TypeForest.{IsForest}

-- the lines and entries are those of the model's types
pub record IsBuilt (f : Forest) : Type 0 where
  pub forest : IsForest f.model.now.types
  pub lines : AreLines f.model.now.types f.lines
  pub attributes : AreRows (λ d. d.attributes) (λ d. d.name) f.model.now.types f.attributes
  pub ports : AreRows (λ d. d.ports) (λ d. d.name) f.model.now.types f.ports

-- ---- widenings

-- the attribute that a type declares at this place narrows that of the nearest ancestor
abbrev pub attribute_narrows_at : Model → ℕ → TypeDecl → ℕ → Bool
attribute_narrows_at m t d k =
    option_map_or (attribute_narrows_nearest m t) (slice_get d.attributes k) true

-- and the port
abbrev pub port_narrows_at : Model → ℕ → TypeDecl → ℕ → Bool
port_narrows_at m t d k = option_map_or (port_narrows_nearest m t) (slice_get d.ports k) true

-- every declaration of the type narrows that of the nearest ancestor that declares its name
pub record NarrowsAll (m : Model) (t : ℕ) (d : TypeDecl) : Type 0 where
  pub attributes : (k : ℕ) → k < length d.attributes → IsTrue (attribute_narrows_at m t d k)
  pub ports : (k : ℕ) → k < length d.ports → IsTrue (port_narrows_at m t d k)

-- the first widening of a type: attributes before ports, and then by place
pub data IsWideningOf (m : Model) (t : ℕ) (d : TypeDecl) (f : TaxFault) : Type 0 where
  of_attribute : (k : ℕ) → f ≡ Widening t false k
      → IsFirstFailing (attribute_narrows_at m t d) (length d.attributes) (Some k)
      → IsWideningOf m t d f
  of_port : (k : ℕ) → f ≡ Widening t true k
      → ((j : ℕ) → j < length d.attributes → IsTrue (attribute_narrows_at m t d j))
      → IsFirstFailing (port_narrows_at m t d) (length d.ports) (Some k) → IsWideningOf m t d f

-- the first widening: the types before narrow all that is above them
pub record IsFirstWidening (m : Model) (f : TaxFault) : Type 0 where
  pub kind : ℕ
  pub declared : TypeDecl
  pub is : IsAt m.types kind declared
  pub widens : IsWideningOf m kind declared f
  pub before : (u : ℕ) (e : TypeDecl) → u < kind → IsAt m.types u e → NarrowsAll m u e
