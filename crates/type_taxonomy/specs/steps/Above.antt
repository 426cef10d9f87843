-- What is declared above a type, by name.
use Rattle.std.specs.Prelude.{◌≡◌, ℕ, suc, Bool, false, not, ◌&&◌, nat_lt, is_none, List, [], ◌∷◌, length, Option, None}
use Rattle.std.specs.Option.{option_map_or, option_or}
use Rattle.prod_model.specs.declared.model.Model.{Model}
use Rattle.prod_model.specs.declared.model.TypeDecl.{TypeDecl}
use Rattle.prod_model.specs.declared.model.AttrDecl.{AttrDecl}
use Rattle.prod_model.specs.declared.model.PortDecl.{PortDecl}
use Rattle.prod_model.specs.Taxonomy.{declarations_of}
use Rattle.prod_model.specs.Valid.{narrows_domain}
use Rattle.type_taxonomy.specs.declared.above.Above.{Above}
use Rattle.type_taxonomy.specs.steps.ByName.{found, found_at}
use Rattle.type_taxonomy.specs.steps.NearestTests.{lies_within}

module _ {D : Type 0} (declared : TypeDecl → List D) (name_of : D → List ℕ) where
  -- The nearest declaration of the name along a line. The height of a declaration is the number of
  -- types from its own upwards.
  abbrev pub found_along : List TypeDecl → List ℕ → List ℕ → Option (ℕ × D)
  found_along types [] name = None
  found_along types (t ∷ line) name =
      let here = declarations_of declared name_of types t in
      option_or (found_at name_of (suc (length line)) here name) (found_along types line name)

-- neither sort has the name; or the nearest that has it is of the first sort, and passes the test
abbrev pub passes_nearest : {D E : Type 0} → (D → Bool) → Option (ℕ × D) → Option (ℕ × E) → Bool
passes_nearest test own other =
    option_map_or (λ f. test f.1 && not (option_map_or (λ g. nat_lt f.0 g.0) other false)) own
    (is_none other)

-- both maps have what is declared along the line
pub record IsAbove (types : List TypeDecl) (line : List ℕ) (above : Above) : Type 0 where
  pub attributes : (name : List ℕ)
      → found above.attributes name ≡ found_along (λ d. d.attributes) (λ a. a.name) types line name
  pub ports : (name : List ℕ)
      → found above.ports name ≡ found_along (λ d. d.ports) (λ p. p.name) types line name

-- the nearest declaration of the attribute's name, if there is one, is an attribute, whose domain
-- its own lies within
unfoldable pub attribute_passes : Above → AttrDecl → Bool
attribute_passes above a =
    passes_nearest (λ b. narrows_domain a.domain b.domain) (found above.attributes a.name)
    (found above.ports a.name)

-- the nearest declaration of the port's name, if there is one, is a port, within which it lies
unfoldable pub port_passes : Model → Above → PortDecl → Bool
port_passes m above p =
    passes_nearest (lies_within m p) (found above.ports p.name) (found above.attributes p.name)
