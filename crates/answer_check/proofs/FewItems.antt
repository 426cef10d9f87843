-- How long the lists are that the tests go over.
use Rattle.std.proofs.Common.{ℕ, ◌<◌, ◌≤◌, inl, inr, ◌∙◌, ap, List, length, Some, arith, leb-true, zero-add}
use Rattle.std.specs.Prelude.{IsTrue}
use Rattle.std.specs.List.{range_with_len}
use Rattle.std.proofs.lemmas.Bool.{and_parts, cases_lt}
use Rattle.std.proofs.lemmas.Bool.Decides.{nat_tests}
use Rattle.prod_model.specs.declared.model.Model.{Model}
use Rattle.prod_model.specs.Limits.{most_instances}
use Rattle.prod_model.specs.Taxonomy.{attributes_at, ports_at}
use Rattle.prod_model.specs.Valid.{IsValid, has_room, has_room_at, has_short_lists}
use Rattle.config_value.specs.declared.configuration.Instance.{Instance}
use Rattle.config_value.specs.Spelled.{is_spelled}
use Rattle.base_laws.proofs.Ranges.{slice_get_range_with_len}
use Rattle.base_laws.proofs.Tests.{list_all_at}
use Rattle.config_value.proofs.Places.{is_between_at}
use Rattle.config_value.specs.Shaped.{is_shaped}
use Rattle.config_value.proofs.SpelledLaws.{shaped_is_spelled}
use Rattle.prod_model.proofs.Inverses.{length_ports_at}
use Rattle.prod_model.proofs.TaxonomyLaws.{no_attributes, no_ports}

pub few_instances : (m : Model) (c : List Instance) → IsTrue (is_spelled m c) → length c ≤ 256
unfolding is_spelled
few_instances m c spelled = let most = (is_between_at 1 most_instances (length c) (and_parts _ _ (and_parts _ _ spelled).0).0).1 in omega (arith, most)

room_at : (m : Model) (t : ℕ) → IsValid m → t < length m.types → IsTrue (has_room_at m t)
unfolding has_room
room_at m t valid within =
    list_all_at (has_room_at m) (range_with_len 0 (length m.types)) valid.declared.taxonomy.room t t (slice_get_range_with_len 0 (length m.types) t within ∙ ap Some (zero-add t))

pub few_attributes : (m : Model) (t : ℕ) → IsValid m → length (attributes_at m t) ≤ 32
few_attributes m t valid = elim (cases_lt t (length m.types)) [
  | inl within ↦ leb-true _ _ (and_parts _ _ (room_at m t valid within)).0
  | inr outside ↦ rw (no_attributes m t outside) (omega arith)
]

pub few_ports : (m : Model) (t : ℕ) → IsValid m → length (ports_at m t) ≤ 16
few_ports m t valid = elim (cases_lt t (length m.types)) [
  | inl within ↦ rw (length_ports_at m t) (leb-true _ _ (and_parts _ _ (room_at m t valid within)).1)
  | inr outside ↦ rw (no_ports m t outside) (omega arith)
]

pub few_rules : (m : Model) → IsValid m → length m.rules ≤ 1000
unfolding has_short_lists
few_rules m valid = let short : IsTrue (has_short_lists m) = valid.declared.formed.short_lists in grind (arith, nat_tests)

pub few_bounds : (m : Model) → IsValid m → length m.bounds ≤ 128
unfolding has_short_lists
few_bounds m valid = let short : IsTrue (has_short_lists m) = valid.declared.formed.short_lists in grind (arith, nat_tests)

pub few_shaped : (m : Model) (c : List Instance) → IsValid m → IsTrue (is_shaped m c) → length c ≤ 256
few_shaped m c valid shaped = few_instances m c (shaped_is_spelled m c valid.declared shaped)
