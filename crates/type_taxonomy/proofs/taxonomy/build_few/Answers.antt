use Rattle.std.proofs.Common.{◌^◌, ℕ, length, Some, arith, ap, subst}
use Rattle.std.proofs.lemmas.Option.{MatchOption-at_some, MatchOption-at_none}
use Rattle.prod_model.specs.declared.model.TypeDecl.{TypeDecl}
use Rattle.prod_model.specs.Valid.{has_room_at}
use Rattle.type_taxonomy.specs.steps.Built.{NarrowsAll, IsFirstWidening}
use Rattle.base_laws.specs.Places.{IsAt}
use Rattle.type_taxonomy.specs.steps.FirstFailing.{IsFirstFailing}
use Rattle.type_taxonomy.proofs.FewDeclarations.{one_of_few}
use Rattle.type_taxonomy.proofs.FirstFault.{HasRoomBelow, unknown_first, cycle_first, widening_first, crowded_first}
use Rattle.type_taxonomy.proofs.TaxonomyFacts.{taxonomy_is, forest_is}
use Rattle.type_taxonomy.proofs.taxonomy.build_few.Goals as goal

pub first_unknown-requires : goal.first_unknown-requires
first_unknown-requires c = omega arith

pub returns-in-Some-clause-fault : goal.returns-in-Some-clause-fault
returns-in-Some-clause-fault c = unknown_first c.args.model.now c.in-Some.kind c.in-Some.ensures

pub all_lines-requires : goal.all_lines-requires
all_lines-requires c = omega (arith, ap length c.as_slice.ensures)

pub first_in_circle-requires-clause-few : goal.first_in_circle-requires-clause-few
first_in_circle-requires-clause-few c = omega arith

pub returns-in-Some-first_in_circle-clause-fault : goal.returns-in-Some-first_in_circle-clause-fault
returns-in-Some-first_in_circle-clause-fault c = cycle_first c.args.model.now c.in-Some-first_in_circle.kind c.in_default.ensures c.in-Some-first_in_circle.ensures

pub forest_of-requires-clause-few_attributes : goal.forest_of-requires-clause-few_attributes
forest_of-requires-clause-few_attributes c = omega arith

pub forest_of-requires-clause-few_ports : goal.forest_of-requires-clause-few_ports
forest_of-requires-clause-few_ports c = omega arith

pub forest_of-requires-clause-forest : goal.forest_of-requires-clause-forest
forest_of-requires-clause-forest c = forest_is c.args.model.now c.in_default.ensures c.in_default-first_in_circle.ensures

pub first_widening-requires-clause-few : goal.first_widening-requires-clause-few
first_widening-requires-clause-few c = omega (arith, ap (λ m. length m.types) c.in_ok-forest.ensures.model)

pub first_widening-requires-clause-few_attributes : goal.first_widening-requires-clause-few_attributes
first_widening-requires-clause-few_attributes c = λ t d has.
    one_of_few (λ e. length e.attributes) c.args.model.now c.in_ok-forest.forest.model.now t d (2 ^ 32) c.in_ok-forest.ensures.model c.requires.few_attributes has

pub first_widening-requires-clause-few_ports : goal.first_widening-requires-clause-few_ports
first_widening-requires-clause-few_ports c = λ t d has.
    one_of_few (λ e. length e.ports) c.args.model.now c.in_ok-forest.forest.model.now t d (2 ^ 32) c.in_ok-forest.ensures.model c.requires.few_ports has

pub returns-in-Some-2-clause-fault : goal.returns-in-Some-2-clause-fault
returns-in-Some-2-clause-fault c =
    let f = c.in-Some-2.fault in
    widening_first c.args.model.now f c.in_default.ensures c.in_default-first_in_circle.ensures
    (subst (λ m. IsFirstWidening m f) c.in_ok-forest.ensures.model
    (MatchOption-at_some _ (IsFirstWidening c.in_ok-forest.forest.model.now) f c.in-Some-2.is c.in_ok-fault.ensures))

pub first_crowded-requires-clause-few : goal.first_crowded-requires-clause-few
first_crowded-requires-clause-few c = omega (arith, ap (λ m. length m.types) c.in_ok-forest.ensures.model)

pub returns-in-Some-first_crowded-clause-fault : goal.returns-in-Some-first_crowded-clause-fault
returns-in-Some-first_crowded-clause-fault c =
    let same = c.in_ok-forest.ensures.model in
    let kind = c.in-Some-first_crowded.kind in
    let narrow = subst (λ m. (t : ℕ) (d : TypeDecl) → IsAt m.types t d → NarrowsAll m t d) same (MatchOption-at_none _ (IsFirstWidening c.in_ok-forest.forest.model.now) c.in_default-2.is c.in_ok-fault.ensures) in
    crowded_first c.args.model.now kind c.in_default.ensures c.in_default-first_in_circle.ensures (λ t d within has. narrow t d has)
    (subst (λ m. IsFirstFailing (has_room_at m) (length m.types) (Some kind)) same c.in-Some-first_crowded.ensures)

pub returns-clause-taxonomy : goal.returns-clause-taxonomy
returns-clause-taxonomy c =
    let same = c.in_ok-forest.ensures.model in
    λ distinct.
    taxonomy_is c.args.model.now distinct c.in_default.ensures c.in_default-first_in_circle.ensures
    (subst (λ m. (t : ℕ) (d : TypeDecl) → IsAt m.types t d → NarrowsAll m t d) same (MatchOption-at_none _ (IsFirstWidening c.in_ok-forest.forest.model.now) c.in_default-2.is c.in_ok-fault.ensures))
    (subst (λ m. HasRoomBelow m (length m.types)) same c.in_default-first_crowded.ensures)

pub returns-clause-forest : goal.returns-clause-forest
returns-clause-forest c = forest_is c.args.model.now c.in_default.ensures c.in_default-first_in_circle.ensures
