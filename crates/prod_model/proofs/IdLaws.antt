-- The ids of a type's entries: each is that of the new declaration of its name, and none stands twice.
use Rattle.std.proofs.Common.{◌≡◌, ℕ, suc, ◌<◌, ◌+◌, ◌-◌, nat_eq, ◌==◌, Bool, true, false, not, List, [], ◌∷◌, ◌++◌, map, length, length-append, reverse, Option, Some, None, refl, sym, ap, ◌∙◌, subst, append_assoc, append-nil, eqb-true, arith}
use Rattle.std.specs.Prelude.{slice_get, IsTrue}
use Rattle.std.specs.Option.{option_map_or}
use Rattle.std.specs.List.{list_any, find, flat_map, fold, range_with_len}
use Rattle.std.proofs.lemmas.Bool.{false≢true, and_parts, and_from}
use Rattle.std.proofs.lemmas.List.{map-append}
use Rattle.std.proofs.lemmas.List.Concat.{length-flat_map}
use Rattle.std.proofs.lemmas.List.Sorted.{list_any-IsPermutation, IsPermutation-reverse}
use Rattle.std.proofs.lemmas.Option.{same_Some}
use Rattle.std.proofs.lemmas.Simd.{map-map}
use Rattle.std.proofs.lemmas.Bool.Decides.{nat_tests}
use Rattle.base_laws.specs.Places.{IsAt}
use Rattle.base_laws.proofs.Places.{slice_get_middle, map_at, at_map}
use Rattle.base_laws.proofs.Tests.{list_any_at, list_any_from}
use Rattle.prod_model.specs.declared.model.Model.{Model}
use Rattle.prod_model.specs.declared.model.TypeDecl.{TypeDecl}
use Rattle.prod_model.specs.declared.model.AttrAt.{AttrAt}
use Rattle.prod_model.specs.declared.model.PortAt.{PortAt}
use Rattle.prod_model.specs.Names.{same_text, is_distinct, is_distinct_number}
use Rattle.prod_model.specs.Forest.{line}
use Rattle.prod_model.specs.Taxonomy.{Named, declarations_of, new_declarations, all_new_declarations, first_id, new_entries, kept_entry, extended_entries, entries_of, made_attribute, made_port, attributes_of, ports_of, attributes_at, declared_ports_at, ports_at, with_inverse}
use Rattle.prod_model.specs.Valid.{IsDeclared}
use Rattle.prod_model.proofs.NameLaws.{same_text_refl}
use Rattle.prod_model.proofs.ForestLines.{HasNoCycle, no_cycle, line_within_types}
use Rattle.prod_model.proofs.EntryLaws.{all_new_split, names_entries_of}
use Rattle.prod_model.proofs.EntryNames.{names_distinct}
use Rattle.prod_model.proofs.NarrowingLaws.{distinct_declarations}

module _ {D A : Type 0} (declared : TypeDecl → List D) (name_of : D → List ℕ) (made : ℕ → D → A) (narrowed : D → A → A) (id_of : A → ℕ)
    (made_id : (id : ℕ) (d : D) → id_of (made id d) ≡ id) (narrowed_id : (d : D) (a : A) → id_of (narrowed d a) ≡ id_of a) where
  -- new entries have the places of their declarations
  places_new_entries : (id : ℕ) (before ds after : List D) → id ≡ length before
      → map (λ e. slice_get (before ++ (ds ++ after)) (id_of e.what)) (new_entries declared name_of made narrowed id ds) ≡ map (λ d. Some d) ds
  places_new_entries id before [] after place = refl
  places_new_entries id before (d ∷ ds) after place =
      let more = new_entries declared name_of made narrowed (id + 1) ds in
      let all = before ++ (d ∷ (ds ++ after)) in
      let next : id + 1 ≡ length (before ++ d ∷ []) = omega (arith, length-append {A = D}) in
      ap (λ o. o ∷ map (λ e. slice_get all (id_of e.what)) more) (ap (slice_get all) (made_id id d ∙ place) ∙ slice_get_middle before d (ds ++ after))
      ∙ ap (λ os. Some d ∷ os) (ap (λ ds'. map (λ e. slice_get ds' (id_of e.what)) more) (sym (append_assoc before (d ∷ []) (ds ++ after)))
      ∙ places_new_entries (id + 1) (before ++ d ∷ []) ds after next)

  place_narrowed : (e : Named A) (d : Option D) → id_of (option_map_or (λ d. record { name = e.name; what = narrowed d e.what }) d e).what ≡ id_of e.what
  place_narrowed e None = refl
  place_narrowed e (Some d) = narrowed_id d e.what

  places_kept : (all : List D) (ds : List D) (es : List (Named A)) → map (λ e. slice_get all (id_of e.what)) (map (kept_entry declared name_of made narrowed ds) es) ≡ map (λ e. slice_get all (id_of e.what)) es
  places_kept all ds [] = refl
  places_kept all ds (e ∷ es) =
      let here = place_narrowed e (find (λ d. same_text (name_of d) e.name) ds) in let rest = places_kept all ds es in cc

  -- the new entries of a type have the places of its new declarations
  pub places_of_type : (types : List TypeDecl) (u : ℕ) → u < length types
      → map (λ e. slice_get (all_new_declarations declared name_of types) (id_of e.what)) (new_entries declared name_of made narrowed (first_id declared name_of types u) (new_declarations declared name_of types u))
      ≡ map (λ d. Some d) (new_declarations declared name_of types u)
  places_of_type types u within =
      let new = new_declarations declared name_of types in
      let before = flat_map new (range_with_len 0 u) in
      let after = flat_map new (range_with_len (0 + u + 1) (length types - u - 1)) in
      ap (λ all. map (λ e. slice_get all (id_of e.what)) (new_entries declared name_of made narrowed (first_id declared name_of types u) (new u)))
      (all_new_split declared name_of types u within)
      ∙ places_new_entries (first_id declared name_of types u) before (new u) after (sym (length-flat_map new (range_with_len 0 u)))

  places_fold : (types : List TypeDecl) (us : List ℕ) (es : List (Named A)) (firsts : List D) → ((q : ℕ) → list_any (nat_eq q) us ≡ true → q < length types)
      → map (λ e. slice_get (all_new_declarations declared name_of types) (id_of e.what)) es ≡ map (λ d. Some d) firsts
      → map (λ e. slice_get (all_new_declarations declared name_of types) (id_of e.what)) (fold (extended_entries declared name_of made narrowed types) es us)
      ≡ map (λ d. Some d) (firsts ++ flat_map (new_declarations declared name_of types) us)
  places_fold types [] es firsts within same = same ∙ ap (map (λ d. Some d)) (sym (append-nil firsts))
  places_fold types (u ∷ us) es firsts within same =
      let new = new_declarations declared name_of types in
      let place = λ (e : Named A). slice_get (all_new_declarations declared name_of types) (id_of e.what) in
      let kept = map (kept_entry declared name_of made narrowed (declarations_of declared name_of types u)) es in
      let added = new_entries declared name_of made narrowed (first_id declared name_of types u) (new u) in
      let here : u < length types = within u (grind (arith, nat_tests)) in
      let step : map place (kept ++ added) ≡ map (λ d. Some d) (firsts ++ new u) =
      map-append place kept added
      ∙ ap (λ os. os ++ map place added) (places_kept (all_new_declarations declared name_of types) (declarations_of declared name_of types u) es ∙ same)
      ∙ ap (λ os. map (λ d. Some d) firsts ++ os) (places_of_type types u here)
      ∙ sym (map-append (λ d. Some d) firsts (new u)) in
      places_fold types us (kept ++ added) (firsts ++ new u) (λ q among. within q (grind (arith))) step
      ∙ ap (map (λ d. Some d)) (append_assoc firsts (new u) (flat_map new us))

  pub places_entries_of : (types : List TypeDecl) (t : ℕ)
      → map (λ e. slice_get (all_new_declarations declared name_of types) (id_of e.what)) (entries_of declared name_of made narrowed types t)
      ≡ map (λ d. Some d) (flat_map (new_declarations declared name_of types) (reverse (line types t)))
  places_entries_of types t =
      places_fold types (reverse (line types t)) [] [] (λ q among. line_within_types types (suc (length types)) t q
      (list_any-IsPermutation (nat_eq q) (line types t) (reverse (line types t)) (IsPermutation-reverse (line types t)) ∙ among)) refl

  -- each entry has the name of the new declaration that its id is of
  pub new_of_entry : (types : List TypeDecl) (t i : ℕ) (e : Named A) → IsAt (entries_of declared name_of made narrowed types t) i e
      → (d : D) × IsAt (all_new_declarations declared name_of types) (id_of e.what) d × (name_of d ≡ e.name)
  new_of_entry types t i e there =
      let es = entries_of declared name_of made narrowed types t in
      let firsts = flat_map (new_declarations declared name_of types) (reverse (line types t)) in
      let place = λ (e : Named A). slice_get (all_new_declarations declared name_of types) (id_of e.what) in
      let placed : IsAt (map (λ d. Some d) firsts) i (place e) = subst (λ l. IsAt l i (place e)) (places_entries_of types t) (at_map place es i e there) in
      let named : IsAt (map name_of firsts) i e.name = subst (λ l. IsAt l i e.name) (names_entries_of declared name_of made narrowed types t) (at_map (λ e. e.name) es i e there) in
      let first = map_at (λ d. Some d) firsts i (place e) placed in
      let other = map_at name_of firsts i e.name named in
      let same : first.0 ≡ other.0 = same_Some first.0 other.0 (sym first.1 ∙ other.1) in
      (first.0, sym first.2, ap name_of same ∙ other.2)

  -- entries under one id have one name
  pub one_name_of_id : (types : List TypeDecl) (t i j : ℕ) (e f : Named A)
      → IsAt (entries_of declared name_of made narrowed types t) i e → IsAt (entries_of declared name_of made narrowed types t) j f
      → id_of e.what ≡ id_of f.what → e.name ≡ f.name
  one_name_of_id types t i j e f at_i at_j same =
      let first = new_of_entry types t i e at_i in
      let second = new_of_entry types t j f at_j in
      let one : first.0 ≡ second.0 =
      same_Some first.0 second.0 (sym first.1 ∙ ap (slice_get (all_new_declarations declared name_of types)) same ∙ second.1) in
      sym first.2 ∙ ap name_of one ∙ second.2

  -- where no name stands twice and entries under one id have one name, no id stands twice
  distinct_ids : (es : List (Named A)) → IsTrue (is_distinct (map (λ e. e.name) es))
      → ((i j : ℕ) (e f : Named A) → IsAt es i e → IsAt es j f → id_of e.what ≡ id_of f.what → e.name ≡ f.name)
      → IsTrue (is_distinct_number (map (λ e. id_of e.what) es))
  distinct_ids [] distinct one = refl
  distinct_ids (e ∷ es) distinct one =
      and_from _ _ (by (list_any (λ k. id_of e.what == k) (map (λ e. id_of e.what) es)) refl)
      (distinct_ids es (and_parts _ _ distinct).1 (λ i j f g at_i at_j. one (suc i) (suc j) f g at_i at_j))
    where
      by : (b : Bool) → list_any (λ k. id_of e.what == k) (map (λ e. id_of e.what) es) ≡ b → not b ≡ true
      by false is = refl
      by true is =
          let found = list_any_at (λ k. id_of e.what == k) (map (λ e. id_of e.what) es) is in
          let other = map_at (λ e. id_of e.what) es found.0 found.1 found.2 in
          let same : id_of e.what ≡ id_of other.0.what = eqb-true (id_of e.what) found.1 found.3 ∙ sym other.2 in
          let names : e.name ≡ other.0.name = one 0 (suc found.0) e other.0 refl other.1 same in
          let twice : list_any (same_text e.name) (map (λ e. e.name) es) ≡ true =
          list_any_from (same_text e.name) (map (λ e. e.name) es) found.0 other.0.name (at_map (λ e. e.name) es found.0 other.0 other.1)
          (ap (same_text e.name) (sym names) ∙ same_text_refl e.name) in
          absurd (false≢true (sym (ap not twice) ∙ (and_parts _ _ distinct).0))

  -- no id stands twice among the entries of a type
  pub ids_distinct : (types : List TypeDecl) → HasNoCycle types
      → ((u : ℕ) → IsTrue (is_distinct (map name_of (declarations_of declared name_of types u)))) → (t : ℕ)
      → IsTrue (is_distinct_number (map (λ e. id_of e.what) (entries_of declared name_of made narrowed types t)))
  ids_distinct types forest own t =
      distinct_ids (entries_of declared name_of made narrowed types t) (names_distinct declared name_of made narrowed types forest own t)
      (one_name_of_id types t)

-- the ids of a type's attributes differ
pub attribute_ids_differ : (m : Model) → IsDeclared m → (t : ℕ) → IsTrue (is_distinct_number (map (λ a. a.id) (attributes_at m t)))
unfolding attributes_of
attribute_ids_differ m is t =
    ap is_distinct_number (map-map (λ (a : AttrAt). a.id) (λ (e : Named AttrAt). e.what) (attributes_of m.types t))
    ∙ ids_distinct (λ d. d.attributes) (λ d. d.name) made_attribute (λ d a. made_attribute a.id d) (λ a. a.id) (λ id d. refl) (λ d a. refl) m.types
    (no_cycle m is.taxonomy.forest) (λ u. (distinct_declarations m is u).0) t

-- the ids of a type's ports differ
pub port_ids_differ : (m : Model) → IsDeclared m → (t : ℕ) → IsTrue (is_distinct_number (map (λ p. p.id) (ports_at m t)))
unfolding ports_of
port_ids_differ m is t =
    ap is_distinct_number (map-map (λ (p : PortAt). p.id) (with_inverse m) (declared_ports_at m t))
    ∙ ap is_distinct_number (map-map (λ (p : PortAt). p.id) (λ (e : Named PortAt). e.what) (ports_of m.types t))
    ∙ ids_distinct (λ d. d.ports) (λ d. d.name) made_port (λ d p. made_port p.id d) (λ p. p.id) (λ id d. refl) (λ d p. refl) m.types
    (no_cycle m is.taxonomy.forest) (λ u. (distinct_declarations m is u).1) t
