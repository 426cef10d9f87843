-- Laws of what the types of a model have.
use Rattle.std.specs.Prelude.{◌≡◌, ℕ, ◌+◌, ◌<◌, List, [], length}
use Rattle.std.specs.Option.{option_map_or}
use Rattle.base_laws.specs.Places.{IsAt}
use Rattle.prod_model.specs.declared.model.Model.{Model}
use Rattle.prod_model.specs.declared.model.TypeDecl.{TypeDecl}
use Rattle.prod_model.specs.declared.model.AttrAt.{AttrAt}
use Rattle.prod_model.specs.declared.model.PortAt.{PortAt}
use Rattle.prod_model.specs.Forest.{parent_of}
use Rattle.prod_model.specs.Taxonomy.{Named, new_declarations, all_new_declarations, first_id, extended_entries, made_attribute, made_port, attributes_of, ports_of}
use Rattle.prod_model.specs.Valid.{IsValid}

-- what a type has of attributes, where these are inherited: narrowed by its own, and then its new
-- ones
abbrev pub extended_attributes : List TypeDecl → List (Named AttrAt) → ℕ → List (Named AttrAt)
extended_attributes =
    extended_entries (λ d. d.attributes) (λ d. d.name) made_attribute
    (λ d a. made_attribute a.id d)

-- likewise of ports
abbrev pub extended_ports : List TypeDecl → List (Named PortAt) → ℕ → List (Named PortAt)
extended_ports =
    extended_entries (λ d. d.ports) (λ d. d.name) made_port (λ d p. made_port p.id d)

-- A type has what its parent has, extended, and extends nothing where it has no parent.
abbrev pub EntriesExtendTheParents : Type 0
EntriesExtendTheParents =
    (m : Model) → IsValid m → (t : ℕ) → t < length m.types
    → (attributes_of m.types t
    ≡ extended_attributes m.types (option_map_or (attributes_of m.types) (parent_of m t) []) t)
    × (ports_of m.types t
    ≡ extended_ports m.types (option_map_or (ports_of m.types) (parent_of m t) []) t)

-- the places of the new declarations of all types are told by type and by the place in it
pub record ArePlaces {D : Type 0} (declared : TypeDecl → List D) (name_of : D → List ℕ)
    (types : List TypeDecl) : Type 0 where
  -- the j-th new declaration of a type stands among those of all types where its id says
  pub stands : (t j : ℕ) (d : D) → t < length types
      → IsAt (new_declarations declared name_of types t) j d
      → IsAt (all_new_declarations declared name_of types) (first_id declared name_of types t + j) d
  -- each new declaration of all types is the j-th of a type, and its place is the id
  pub is_of : (k : ℕ) (d : D) → IsAt (all_new_declarations declared name_of types) k d
      → (t : ℕ) × (j : ℕ) × (k ≡ first_id declared name_of types t + j)
      × IsAt (new_declarations declared name_of types t) j d

-- The id of a new declaration, which is as many more than its type's first id as are new before it
-- in the type, is its place among the new declarations of all types in file order.
abbrev pub IdsArePlaces : Type 0
IdsArePlaces =
    (types : List TypeDecl)
    → ArePlaces (λ d. d.attributes) (λ d. d.name) types
    × ArePlaces (λ d. d.ports) (λ d. d.name) types
