-- From tests of each type to what a taxonomy is, and back.
use Rattle.std.proofs.Common.{◌≡◌, ℕ, ◌<◌, Bool, true, not, IsTrue, IsFalse, List, length, sym, ap, ◌∙◌, slice_get, arith}
use Rattle.std.specs.Option.{option_map_or}
use Rattle.std.specs.List.{list_all, range_with_len}
use Rattle.std.proofs.lemmas.Bool.{and_from}
use Rattle.std.proofs.lemmas.Option.{slice_get_within}
use Rattle.base_laws.specs.Places.{IsAt}
use Rattle.base_laws.proofs.Ranges.{range_with_len_lt}
use Rattle.base_laws.proofs.Tests.{list_all_from}
use Rattle.prod_model.specs.declared.model.Model.{Model}
use Rattle.prod_model.specs.declared.model.TypeDecl.{TypeDecl}
use Rattle.prod_model.specs.Forest.{is_in_circle, is_forest}
use Rattle.prod_model.specs.Valid.{knows_types, has_known_parents_and_targets, attribute_narrows, port_narrows, has_narrowings, has_distinct_names, has_room_at, has_room, IsTaxonomy}
use Rattle.prod_model.proofs.ForestLines.{no_cycle}
use Rattle.prod_model.proofs.TaxonomyTests.{parent_is_type, knows_each, free_each, attribute_narrows_each, port_narrows_each, room_each}
use Rattle.type_taxonomy.specs.declared.fault.TaxFault.{TaxFault}
use Rattle.type_taxonomy.specs.steps.Built.{NarrowsAll}
use Rattle.type_taxonomy.specs.Faults.{HasTaxFault, unknown_parent, cycle, wider_attribute, wider_port, crowded}
use Rattle.type_taxonomy.specs.steps.TypeForest.{IsForest}
use Rattle.type_taxonomy.proofs.FirstFault.{KnowsBelow, HasNoCircleBelow, HasRoomBelow}
use Rattle.type_taxonomy.proofs.NearestCases.{attribute_passed, port_passed}
use Rattle.type_taxonomy.proofs.NarrowingLaws.{attribute_back, attribute_on, port_back, port_on}

-- ---- tests of each element

pub passes_each : {A : Type 0} (p : A → Bool) (xs : List A) → ((k : ℕ) → k < length xs → IsTrue (option_map_or p (slice_get xs k) true)) → list_all p xs ≡ true
passes_each p xs each = list_all_from p xs (λ k x at. ap (λ o. option_map_or p o true) (sym at) ∙ each k (slice_get_within xs k x at))

pub passes_below : (p : ℕ → Bool) (n : ℕ) → ((k : ℕ) → k < n → IsTrue (p k)) → list_all p (range_with_len 0 n) ≡ true
passes_below p n each = list_all_from p (range_with_len 0 n) (λ k x at. each x (omega (arith, range_with_len_lt 0 n k x at)))

-- ---- what a taxonomy is

known_parents : (m : Model) → KnowsBelow m (length m.types) → IsTrue (has_known_parents_and_targets m)
unfolding has_known_parents_and_targets
known_parents m known = passes_each (knows_types m) m.types known

no_circles : (m : Model) → HasNoCircleBelow m (length m.types) → IsTrue (is_forest m)
unfolding is_forest
no_circles m free = passes_below (λ t. not (is_in_circle m t)) (length m.types) free

narrowings : (m : Model) → IsForest m.types → IsTrue (has_distinct_names m) → ((t : ℕ) (d : TypeDecl) → IsAt m.types t d → NarrowsAll m t d) → IsTrue (has_narrowings m)
unfolding has_narrowings
narrowings m forest distinct narrow =
    list_all_from _ m.types
    (λ t d at. and_from _ _ (list_all_from (attribute_narrows m d) d.attributes (λ k a at_a. attribute_on m forest t k d a distinct narrow at at_a))
    (list_all_from (port_narrows m d) d.ports (λ k p at_p. port_on m forest t k d p distinct narrow at at_p)))

room : (m : Model) → HasRoomBelow m (length m.types) → IsTrue (has_room m)
unfolding has_room
room m fits = passes_below (has_room_at m) (length m.types) fits

pub forest_is : (m : Model) → KnowsBelow m (length m.types) → HasNoCircleBelow m (length m.types) → IsForest m.types
forest_is m known free = record {
  known = λ t p d at is. parent_is_type m d p is (ap (λ o. option_map_or (knows_types m) o true) (sym at) ∙ known t (slice_get_within m.types t d at));
  no_cycle = no_cycle m (no_circles m free);
}

pub taxonomy_is : (m : Model) → IsTrue (has_distinct_names m) → KnowsBelow m (length m.types) → HasNoCircleBelow m (length m.types)
    → ((t : ℕ) (d : TypeDecl) → IsAt m.types t d → NarrowsAll m t d) → HasRoomBelow m (length m.types) → IsTaxonomy m
taxonomy_is m distinct known free narrow fits =
    record { known_parents = known_parents m known; forest = no_circles m free; narrowings = narrowings m (forest_is m known free) distinct narrow; room = room m fits }

-- ---- no fault

fails_and_passes : (b : Bool) → IsFalse b → IsTrue b → ⊥
fails_and_passes b fails passes = cc

pub forest_of : (m : Model) → IsTaxonomy m → IsForest m.types
forest_of m taxonomy = record { known = λ t p d at is. parent_is_type m d p is (knows_each m taxonomy t d at); no_cycle = no_cycle m taxonomy.forest }

pub taxonomy_has_no_fault : (m : Model) (f : TaxFault) → IsTaxonomy m → HasTaxFault m f → ⊥
taxonomy_has_no_fault m f taxonomy (unknown_parent t d is at fails) = fails_and_passes (knows_types m d) fails (knows_each m taxonomy t d at)
taxonomy_has_no_fault m f taxonomy (cycle t is within circle) = fails_and_passes (is_in_circle m t) (free_each m taxonomy t within) circle
taxonomy_has_no_fault m f taxonomy (wider_attribute t k d a is at at_a fails) =
    fails (attribute_passed m t a (attribute_back m (forest_of m taxonomy) t d a at (attribute_narrows_each m taxonomy t k d a at at_a)))
taxonomy_has_no_fault m f taxonomy (wider_port t k d p is at at_p fails) =
    fails (port_passed m t p (port_back m (forest_of m taxonomy) t d p at (port_narrows_each m taxonomy t k d p at at_p)))
taxonomy_has_no_fault m f taxonomy (crowded t is within full) = fails_and_passes (has_room_at m t) full (room_each m taxonomy t within)
