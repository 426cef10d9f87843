-- A type has its parent's entries, extended, and the ids of new declarations are their places.
use Rattle.std.proofs.Common.{◌≡◌, ℕ, zero, suc, ◌<◌, ◌+◌, ◌-◌, List, [], ◌∷◌, ◌++◌, length, length-append, Some, refl, sym, ap, ◌∙◌, subst, inl, inr, zero-add, arith}
use Rattle.std.specs.Prelude.{slice_get}
use Rattle.std.specs.Option.{option_map_or, option_and_then}
use Rattle.std.specs.List.{flat_map, range_with_len}
use Rattle.std.proofs.lemmas.Grind.{flat_map-append}
use Rattle.std.proofs.lemmas.List.Concat.{length-flat_map}
use Rattle.std.proofs.lemmas.Option.{none-some, slice_get_cases}
use Rattle.base_laws.specs.Places.{IsAt}
use Rattle.base_laws.proofs.Places.{at_front, at_back, at_either}
use Rattle.base_laws.proofs.Ranges.{range_split}
use Rattle.prod_model.specs.declared.model.TypeDecl.{TypeDecl}
use Rattle.prod_model.specs.Taxonomy.{new_declarations, all_new_declarations, first_id, made_attribute, made_port, attributes_of, ports_of}
use Rattle.prod_model.specs.Laws.{extended_attributes, extended_ports, EntriesExtendTheParents, ArePlaces, IdsArePlaces}
use Rattle.prod_model.proofs.ForestLines.{no_cycle}
use Rattle.prod_model.proofs.EntryLaws.{entries_of_parent, all_new_split}

-- a type has what its parent has, extended
pub entries_extend_the_parents : EntriesExtendTheParents
unfolding attributes_of ports_of
entries_extend_the_parents m valid t within = elim (slice_get_cases m.types t).1 [
  | inl w ↦ (
      let is : slice_get m.types t ≡ Some w.0 = w.2 in
      let forest = no_cycle m valid.declared.taxonomy.forest in (
        entries_of_parent (λ d. d.attributes) (λ d. d.name) made_attribute (λ d a. made_attribute a.id d) m.types forest t w.0 is
            ∙ ap (λ o. extended_attributes m.types (option_map_or (attributes_of m.types) (option_and_then (λ d. d.parent) o) []) t) (sym is),
        entries_of_parent (λ d. d.ports) (λ d. d.name) made_port (λ d p. made_port p.id d) m.types forest t w.0 is
            ∙ ap (λ o. extended_ports m.types (option_map_or (ports_of m.types) (option_and_then (λ d. d.parent) o) []) t) (sym is),
      ))
  | inr w ↦ absurd (omega (arith, w.0))
]

-- ---- ids

module _ {D : Type 0} (declared : TypeDecl → List D) (name_of : D → List ℕ) (types : List TypeDecl) where
  abbrev news : ℕ → List D
  news = new_declarations declared name_of types

  -- the first id of a type is how many are new before it
  pub first_id_before : (t : ℕ) → first_id declared name_of types t ≡ length (flat_map news (range_with_len 0 t))
  first_id_before t = sym (length-flat_map news (range_with_len 0 t))

  -- and that of the next type is so many more
  pub first_id_next : (t : ℕ) → first_id declared name_of types (t + 1) ≡ first_id declared name_of types t + length (news t)
  first_id_next t =
      let split : flat_map news (range_with_len 0 (t + 1)) ≡ flat_map news (range_with_len 0 t) ++ (news (0 + t) ++ []) =
      ap (flat_map news) (range_split 0 t 0) ∙ flat_map-append news (range_with_len 0 t) ((0 + t) ∷ []) in
      let counts = ap length split in
      let both = length-append (flat_map news (range_with_len 0 t)) (news (0 + t) ++ []) in
      let one = length-append (news (0 + t)) [] in
      let here : length (news (0 + t)) ≡ length (news t) = ap (λ k. length (news k)) (zero-add t) in
      omega (arith, counts, both, one, here, first_id_before t, first_id_before (t + 1))

  -- the j-th new declaration of a type stands among all where its id says
  new_stands : (t j : ℕ) (d : D) → t < length types → IsAt (news t) j d
      → IsAt (all_new_declarations declared name_of types) (first_id declared name_of types t + j) d
  new_stands t j d within there =
      let before = flat_map news (range_with_len 0 t) in
      let after = flat_map news (range_with_len (0 + t + 1) (length types - t - 1)) in
      let front : IsAt (news t ++ after) j d = at_front (news t) after j d there in
      subst (λ l. IsAt l (first_id declared name_of types t + j) d) (sym (all_new_split declared name_of types t within))
      (subst (λ n. IsAt (before ++ (news t ++ after)) (n + j) d) (sym (first_id_before t)) (at_back before (news t ++ after) j d front))

  -- each of the new declarations of the types from a on is one of a type
  new_is_of : (n a k b : ℕ) (d : D) → first_id declared name_of types a ≡ b → IsAt (flat_map news (range_with_len a n)) k d
      → (t : ℕ) × (j : ℕ) × (b + k ≡ first_id declared name_of types t + j) × IsAt (news t) j d
  new_is_of zero a k b d first there = absurd (none-some d there)
  new_is_of (suc n) a k b d first there = elim (at_either (news a) (flat_map news (range_with_len (a + 1) n)) k d there) [
    | inl front ↦ (a, k, ap (λ i. i + k) (sym first), front)
    | inr back ↦ (
        let more = new_is_of n (a + 1) back.0 (b + length (news a)) d (first_id_next a ∙ ap (λ i. i + length (news a)) first) back.2 in
        (more.0, more.1, omega (arith, back.1, more.2), more.3))
  ]

  are_places : ArePlaces declared name_of types
  are_places = record {
    stands = new_stands;
    is_of = λ k d there.
        let found = new_is_of (length types) 0 k 0 d refl there in
        (found.0, found.1, sym (zero-add k) ∙ found.2, found.3);
  }

-- the id of a new declaration is its place among the new declarations of all types
pub ids_are_places : IdsArePlaces
ids_are_places types = (are_places (λ d. d.attributes) (λ d. d.name) types, are_places (λ d. d.ports) (λ d. d.name) types)
