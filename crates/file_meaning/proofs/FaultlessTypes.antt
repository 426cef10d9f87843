-- Types without faults are a taxonomy, and inverses without faults are right.
use Rattle.std.proofs.Common.{◌≡◌, ℕ, ◌<◌, Bool, true, false, IsTrue, List, length, not, ap, ◌∙◌, refl, Option, Some, None}
use Rattle.std.specs.Prelude.{slice_get}
use Rattle.std.specs.Option.{option_map_or}
use Rattle.std.proofs.lemmas.Bool.{not_from_false}
use Rattle.std.specs.List.{list_all}
use Rattle.base_laws.specs.Places.{IsAt}
use Rattle.base_laws.proofs.Tests.{list_all_at, list_all_from}
use Rattle.prod_model.specs.declared.model.Model.{Model}
use Rattle.prod_model.specs.declared.model.TypeDecl.{TypeDecl}
use Rattle.prod_model.specs.Forest.{is_in_circle, type_numbers}
use Rattle.prod_model.specs.Valid.{knows_types, has_known_parents_and_targets, has_distinct_names, has_room_at, IsTaxonomy, has_right_inverse, has_right_inverses, port_declarations}
use Rattle.type_taxonomy.specs.declared.fault.TaxFault.TheVariants.{Cycle, Widening, Crowded}
use Rattle.type_taxonomy.specs.declared.inverse_fault.InverseFault.TheVariants.{Bad}
use Rattle.type_taxonomy.specs.Faults.{HasTaxFault, cycle, wider_attribute, wider_port, crowded}
use Rattle.type_taxonomy.specs.Inverses.{HasInverseFault}
use Rattle.type_taxonomy.specs.steps.Built.{NarrowsAll}
use Rattle.type_taxonomy.specs.steps.NearestTests.{attribute_narrows_nearest, port_narrows_nearest}
use Rattle.type_taxonomy.proofs.NearestCases.{attribute_failed, port_failed}
use Rattle.type_taxonomy.proofs.TaxonomyFacts.{taxonomy_is}
use Rattle.file_meaning.proofs.NoneFails.{by_test}

-- what passes wherever something stands
passes_there : {A : Type 0} (p : A → Bool) (xs : List A) → ((k : ℕ) (x : A) → IsAt xs k x → IsTrue (p x)) → (k : ℕ) → IsTrue (option_map_or p (slice_get xs k) true)
passes_there {A} p xs each k = by (slice_get xs k) refl
  where
    by : (o : Option A) → slice_get xs k ≡ o → IsTrue (option_map_or p (slice_get xs k) true)
    by None is = ap (λ o. option_map_or p o true) is
    by (Some x) is = ap (λ o. option_map_or p o true) is ∙ each k x is

module _ (m : Model) where
  -- the types have no fault but unknown parents and targets
  pub record HasNoTaxFault : Type 0 where
    pub cycle : (t : ℕ) → ¬ HasTaxFault m (Cycle t)
    pub widening : (t : ℕ) (port : Bool) (k : ℕ) → ¬ HasTaxFault m (Widening t port k)
    pub crowded : (t : ℕ) → ¬ HasTaxFault m (Crowded t)

  module _ (none : HasNoTaxFault) where
    no_circle : (t : ℕ) → t < length m.types → IsTrue (not (is_in_circle m t))
    no_circle t within = not_from_false (is_in_circle m t) (by_test (is_in_circle m t) (λ circle. absurd (none.cycle t (cycle t refl within circle))) (λ free. free))

    room : (t : ℕ) → t < length m.types → IsTrue (has_room_at m t)
    room t within = by_test (has_room_at m t) (λ fits. fits) (λ full. absurd (none.crowded t (crowded t refl within full)))

    narrows : (t : ℕ) (d : TypeDecl) → IsAt m.types t d → NarrowsAll m t d
    narrows t d at = record {
      attributes = λ k within. passes_there (attribute_narrows_nearest m t) d.attributes (λ j a at_a.
          by_test (attribute_narrows_nearest m t a) (λ is. is) (λ fails. absurd (none.widening t false j (wider_attribute t j d a refl at at_a (attribute_failed m t a fails))))) k;
      ports = λ k within. passes_there (port_narrows_nearest m t) d.ports (λ j p at_p.
          by_test (port_narrows_nearest m t p) (λ is. is) (λ fails. absurd (none.widening t true j (wider_port t j d p refl at at_p (port_failed m t p fails))))) k;
    }

    pub faultless_is_taxonomy : IsTrue (has_distinct_names m) → IsTrue (has_known_parents_and_targets m) → IsTaxonomy m
    unfolding has_known_parents_and_targets
    faultless_is_taxonomy distinct parents =
        taxonomy_is m distinct (λ t within. passes_there (knows_types m) m.types (λ k d at. list_all_at (knows_types m) m.types parents k d at) t) no_circle narrows room

  -- where no inverse has a fault, all are right
  pub faultless_inverses : ((t k : ℕ) → ¬ HasInverseFault m (Bad t k)) → IsTrue (has_right_inverses m)
  unfolding has_right_inverses
  faultless_inverses none =
      list_all_from (λ t. list_all (has_right_inverse m t) (port_declarations m t)) (type_numbers m.types) (λ i t at_t.
      list_all_from (has_right_inverse m t) (port_declarations m t) (λ k d at.
      by_test (has_right_inverse m t d) (λ is. is) (λ wrong. absurd (none t k record { kind = t; place = k; is = refl; declaration = d; stands = at; wrong = wrong }))))
