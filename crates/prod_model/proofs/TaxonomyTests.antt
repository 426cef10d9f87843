-- What holds of each type of a taxonomy.
use Rattle.std.proofs.Common.{◌≡◌, ℕ, ◌<◌, true, false, not, ◌&&◌, IsTrue, length, sym, ap, ◌∙◌, Some, zero-add}
use Rattle.std.specs.Prelude.{slice_get}
use Rattle.std.specs.Option.{option_map_or}
use Rattle.std.specs.List.{list_all}
use Rattle.std.proofs.lemmas.Bool.{and_parts, ltb-true, not-true}
use Rattle.base_laws.proofs.Ranges.{list_all_below}
use Rattle.base_laws.proofs.Tests.{list_all_at}
use Rattle.prod_model.specs.declared.model.Model.{Model}
use Rattle.prod_model.specs.declared.model.TypeDecl.{TypeDecl}
use Rattle.prod_model.specs.declared.model.AttrDecl.{AttrDecl}
use Rattle.prod_model.specs.declared.model.PortDecl.{PortDecl}
use Rattle.prod_model.specs.Forest.{is_type, is_in_circle, is_forest}
use Rattle.prod_model.specs.Valid.{knows_types, has_known_parents_and_targets, attribute_narrows, port_narrows, has_narrowings, has_room_at, has_room, IsTaxonomy}

-- the parent of a type that knows the types it names is a type
pub parent_is_type : (m : Model) (d : TypeDecl) (p : ℕ) → d.parent ≡ Some p → IsTrue (knows_types m d) → p < length m.types
parent_is_type m d p is knows =
    ltb-true p (length m.types) (ap (λ o. option_map_or (is_type m) o true) (sym is)
    ∙ (and_parts (option_map_or (is_type m) d.parent true) (list_all (λ q. is_type m q.target) d.ports) knows).0)

module _ (m : Model) (taxonomy : IsTaxonomy m) where
  -- each type's parent and targets are types
  pub knows_each : (t : ℕ) (d : TypeDecl) → slice_get m.types t ≡ Some d → IsTrue (knows_types m d)
  unfolding has_known_parents_and_targets
  knows_each t d has = list_all_at (knows_types m) m.types taxonomy.known_parents t d has

  -- no type is its own ancestor
  pub free_each : (t : ℕ) → t < length m.types → is_in_circle m t ≡ false
  unfolding is_forest
  free_each t within =
      not-true (is_in_circle m t) (ap (λ k. not (is_in_circle m k)) (sym (zero-add t))
      ∙ list_all_below (λ u. not (is_in_circle m u)) 0 (length m.types) t taxonomy.forest within)

  narrows_each : (t : ℕ) (d : TypeDecl) → slice_get m.types t ≡ Some d
      → (list_all (attribute_narrows m d) d.attributes && list_all (port_narrows m d) d.ports) ≡ true
  unfolding has_narrowings
  narrows_each t d has =
      list_all_at (λ e. list_all (attribute_narrows m e) e.attributes && list_all (port_narrows m e) e.ports) m.types
      taxonomy.narrowings t d has

  -- each attribute narrows what its type inherits
  pub attribute_narrows_each : (t k : ℕ) (d : TypeDecl) (a : AttrDecl) → slice_get m.types t ≡ Some d
      → slice_get d.attributes k ≡ Some a → IsTrue (attribute_narrows m d a)
  attribute_narrows_each t k d a has has_a =
      list_all_at (attribute_narrows m d) d.attributes (and_parts _ _ (narrows_each t d has)).0 k a has_a

  -- and each port
  pub port_narrows_each : (t k : ℕ) (d : TypeDecl) (p : PortDecl) → slice_get m.types t ≡ Some d
      → slice_get d.ports k ≡ Some p → IsTrue (port_narrows m d p)
  port_narrows_each t k d p has has_p =
      list_all_at (port_narrows m d) d.ports (and_parts _ _ (narrows_each t d has)).1 k p has_p

  -- no type has too many attributes or ports
  pub room_each : (t : ℕ) → t < length m.types → IsTrue (has_room_at m t)
  unfolding has_room
  room_each t within =
      ap (has_room_at m) (sym (zero-add t)) ∙ list_all_below (has_room_at m) 0 (length m.types) t taxonomy.room within
