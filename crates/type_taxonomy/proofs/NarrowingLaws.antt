-- A declaration narrows what its type inherits exactly if no ancestor declares its name in the other sort, and it narrows the nearest.
use Rattle.std.proofs.Common.{◌≡◌, ℕ, true, ◌&&◌, IsTrue, List, sym, ap, ◌∙◌, refl, Option, Some, None, is_none}
use Rattle.std.specs.Option.{option_map_or}
use Rattle.std.proofs.lemmas.Bool.{and_parts}
use Rattle.std.proofs.lemmas.Option.{slice_get_within}
use Rattle.prod_model.specs.declared.model.Model.{Model}
use Rattle.prod_model.specs.declared.model.TypeDecl.{TypeDecl}
use Rattle.prod_model.specs.declared.model.AttrDecl.{AttrDecl}
use Rattle.prod_model.specs.declared.model.PortDecl.{PortDecl}
use Rattle.prod_model.specs.Forest.{ancestors}
use Rattle.prod_model.specs.Valid.{narrows_domain, attribute_narrows, port_narrows, has_distinct_names}
use Rattle.prod_model.proofs.DistinctDeclarations.{no_port, no_attribute}
use Rattle.prod_model.proofs.NamedDeclarations.{types_along, first_named}
use Rattle.type_taxonomy.specs.steps.Built.{NarrowsAll}
use Rattle.base_laws.specs.Places.{IsAt}
use Rattle.type_taxonomy.specs.Nearest.{nearest}
use Rattle.type_taxonomy.specs.steps.NearestTests.{lies_within, attribute_narrows_nearest, port_narrows_nearest}
use Rattle.type_taxonomy.specs.steps.TypeForest.{IsForest}
use Rattle.type_taxonomy.proofs.Inherited.{placed_above, is_none_map, map_or_map, attribute_told, port_told}
use Rattle.type_taxonomy.proofs.NearestLaws.{above_nearest}
use Rattle.type_taxonomy.proofs.Sorts.{either_attribute, either_port, nearest_told, has_of, none_above}

-- the types above a type, the nearest first
abbrev above : Model → ℕ → List TypeDecl
above m t = types_along m.types (ancestors m.types t)

-- what the first of them declares under the name as an attribute, and as a port
abbrev first_attribute : Model → ℕ → List ℕ → Option AttrDecl
first_attribute m t name = first_named (λ d. d.attributes) (λ a. a.name) name (above m t)

abbrev first_port : Model → ℕ → List ℕ → Option PortDecl
first_port m t name = first_named (λ d. d.ports) (λ p. p.name) name (above m t)

is_nothing : {A : Type 0} (o : Option A) → is_none o ≡ true → o ≡ None
is_nothing None none = refl
is_nothing (Some x) none = cc

abbrev NarrowsEach : Model → Type 0
NarrowsEach m = (t : ℕ) (d : TypeDecl) → IsAt m.types t d → NarrowsAll m t d

-- ---- attributes

module _ (m : Model) (forest : IsForest m.types) where
  attribute_by : (t : ℕ) (d : TypeDecl) (a : AttrDecl) → IsAt m.types t d
      → (is_none (first_port m t a.name) && option_map_or (λ b. narrows_domain a.domain b.domain) (first_attribute m t a.name) true) ≡ attribute_narrows m d a
  attribute_by t d a is_type =
      let ports = placed_above (λ e. e.ports) (λ p. p.name) m.types d.parent a.name in
      let attributes = placed_above (λ e. e.attributes) (λ b. b.name) m.types d.parent a.name in
      attribute_told m d a (is_none (first_port m t a.name)) (option_map_or (λ b. narrows_domain a.domain b.domain) (first_attribute m t a.name) true)
      (ap is_none (sym (above_nearest (λ e. e.ports) (λ p. p.name) m.types t d a.name forest is_type)) ∙ is_none_map (λ e. e.what.1) ports)
      (ap (λ o. option_map_or (λ b. narrows_domain a.domain b.domain) o true) (sym (above_nearest (λ e. e.attributes) (λ b. b.name) m.types t d a.name forest is_type))
      ∙ map_or_map (λ b. narrows_domain a.domain b.domain) (λ e. e.what.1) attributes true)

  attribute_same : (t : ℕ) (d : TypeDecl) (a : AttrDecl) → IsAt m.types t d → first_port m t a.name ≡ None → attribute_narrows_nearest m t a ≡ attribute_narrows m d a
  attribute_same t d a is_type none =
      let within = option_map_or (λ b. narrows_domain a.domain b.domain) (first_attribute m t a.name) true in
      nearest_told (λ e. e.attributes) (λ b. b.name) (λ e. e.ports) (λ p. p.name) either_attribute (λ b. narrows_domain a.domain b.domain) a.name (above m t) none
      ∙ ap (λ o. is_none o && within) (sym none) ∙ attribute_by t d a is_type

  -- an attribute that narrows what is inherited narrows the nearest
  pub attribute_back : (t : ℕ) (d : TypeDecl) (a : AttrDecl) → IsAt m.types t d → attribute_narrows m d a ≡ true → attribute_narrows_nearest m t a ≡ true
  attribute_back t d a is_type narrows =
      let parts = and_parts (is_none (first_port m t a.name)) (option_map_or (λ b. narrows_domain a.domain b.domain) (first_attribute m t a.name) true) (attribute_by t d a is_type ∙ narrows) in
      attribute_same t d a is_type (is_nothing (first_port m t a.name) parts.0) ∙ narrows

  attribute_at : (t k : ℕ) (d : TypeDecl) (a : AttrDecl) → NarrowsEach m → IsAt m.types t d → IsAt d.attributes k a → attribute_narrows_nearest m t a ≡ true
  attribute_at t k d a each is_type has =
      ap (λ o. option_map_or (attribute_narrows_nearest m t) o true) (sym has) ∙ (each t d is_type).attributes k (slice_get_within d.attributes k a has)

  -- where all declarations narrow the nearest, an attribute narrows what is inherited
  pub attribute_on : (t k : ℕ) (d : TypeDecl) (a : AttrDecl) → IsTrue (has_distinct_names m) → NarrowsEach m → IsAt m.types t d → IsAt d.attributes k a → attribute_narrows m d a ≡ true
  attribute_on t k d a distinct each is_type has =
      let none : first_port m t a.name ≡ None =
      none_above (λ e. e.attributes) (λ b. b.name) (λ e. e.ports) (λ p. p.name) either_attribute m.types forest
      (λ u e name is_kind some. no_port m distinct u e name is_kind some)
      (λ u j e b is_kind has_b. has_of (λ e. e.attributes) (λ b. b.name) (λ e. e.ports) (λ p. p.name) either_attribute (λ c. narrows_domain b.domain c.domain) b.name (nearest m.types u b.name)
      (attribute_at u j e b each is_kind has_b))
      t k d a is_type has in
      sym (attribute_same t d a is_type none) ∙ attribute_at t k d a each is_type has

  -- ---- ports

  port_by : (t : ℕ) (d : TypeDecl) (p : PortDecl) → IsAt m.types t d
      → (is_none (first_attribute m t p.name) && option_map_or (lies_within m p) (first_port m t p.name) true) ≡ port_narrows m d p
  port_by t d p is_type =
      let ports = placed_above (λ e. e.ports) (λ q. q.name) m.types d.parent p.name in
      let attributes = placed_above (λ e. e.attributes) (λ a. a.name) m.types d.parent p.name in
      port_told m d p (is_none (first_attribute m t p.name)) (option_map_or (lies_within m p) (first_port m t p.name) true)
      (ap is_none (sym (above_nearest (λ e. e.attributes) (λ a. a.name) m.types t d p.name forest is_type)) ∙ is_none_map (λ e. e.what.1) attributes)
      (ap (λ o. option_map_or (lies_within m p) o true) (sym (above_nearest (λ e. e.ports) (λ q. q.name) m.types t d p.name forest is_type))
      ∙ map_or_map (lies_within m p) (λ e. e.what.1) ports true)

  port_same : (t : ℕ) (d : TypeDecl) (p : PortDecl) → IsAt m.types t d → first_attribute m t p.name ≡ None → port_narrows_nearest m t p ≡ port_narrows m d p
  port_same t d p is_type none =
      let within = option_map_or (lies_within m p) (first_port m t p.name) true in
      nearest_told (λ e. e.ports) (λ q. q.name) (λ e. e.attributes) (λ a. a.name) either_port (lies_within m p) p.name (above m t) none
      ∙ ap (λ o. is_none o && within) (sym none) ∙ port_by t d p is_type

  -- a port that narrows what is inherited narrows the nearest
  pub port_back : (t : ℕ) (d : TypeDecl) (p : PortDecl) → IsAt m.types t d → port_narrows m d p ≡ true → port_narrows_nearest m t p ≡ true
  port_back t d p is_type narrows =
      let parts = and_parts (is_none (first_attribute m t p.name)) (option_map_or (lies_within m p) (first_port m t p.name) true) (port_by t d p is_type ∙ narrows) in
      port_same t d p is_type (is_nothing (first_attribute m t p.name) parts.0) ∙ narrows

  port_at : (t k : ℕ) (d : TypeDecl) (p : PortDecl) → NarrowsEach m → IsAt m.types t d → IsAt d.ports k p → port_narrows_nearest m t p ≡ true
  port_at t k d p each is_type has =
      ap (λ o. option_map_or (port_narrows_nearest m t) o true) (sym has) ∙ (each t d is_type).ports k (slice_get_within d.ports k p has)

  -- where all declarations narrow the nearest, a port narrows what is inherited
  pub port_on : (t k : ℕ) (d : TypeDecl) (p : PortDecl) → IsTrue (has_distinct_names m) → NarrowsEach m → IsAt m.types t d → IsAt d.ports k p → port_narrows m d p ≡ true
  port_on t k d p distinct each is_type has =
      let none : first_attribute m t p.name ≡ None =
      none_above (λ e. e.ports) (λ q. q.name) (λ e. e.attributes) (λ a. a.name) either_port m.types forest
      (λ u e name is_kind some. no_attribute m distinct u e name is_kind some)
      (λ u j e q is_kind has_q. has_of (λ e. e.ports) (λ q. q.name) (λ e. e.attributes) (λ a. a.name) either_port (lies_within m q) q.name (nearest m.types u q.name)
      (port_at u j e q each is_kind has_q))
      t k d p is_type has in
      sym (port_same t d p is_type none) ∙ port_at t k d p each is_type has
