-- In a model whose names have their form, an inverse that is right has the form of a name.
use Rattle.std.proofs.Common.{◌≡◌, ℕ, ◌+◌, Bool, true, false, IsTrue, List, [], ◌∷◌, map, length, refl, sym, ap, subst, ◌∙◌, Option, Some, None, zero-add}
use Rattle.std.specs.Prelude.{slice_get, not, ◌&&◌, reverse}
use Rattle.std.specs.Option.{option_map_or, option_map}
use Rattle.std.specs.List.{list_all, find, fold}
use Rattle.std.proofs.lemmas.Bool.{and_parts, and_from, false≢true}
use Rattle.std.proofs.lemmas.List.Folds.{list_all-append}
use Rattle.std.proofs.lemmas.Option.{none-some, slice_get_within}
use Rattle.base_laws.specs.Places.{IsAt}
use Rattle.base_laws.proofs.Places.{map_at, filter_at, find_at}
use Rattle.base_laws.proofs.Ranges.{list_all_below}
use Rattle.base_laws.proofs.Tests.{list_all_at, list_all_from}
use Rattle.prod_model.specs.declared.model.Model.{Model}
use Rattle.prod_model.specs.declared.model.TypeDecl.{TypeDecl}
use Rattle.prod_model.specs.declared.model.PortDecl.{PortDecl}
use Rattle.prod_model.specs.declared.model.PortAt.{PortAt}
use Rattle.prod_model.specs.Names.{is_name, same_text}
use Rattle.prod_model.specs.Forest.{line}
use Rattle.prod_model.specs.Taxonomy.{Named, declarations_of, new_declarations, new_entries, kept_entry, extended_entries, first_id, made_port, ports_of, port_named, is_declared_above}
use Rattle.prod_model.specs.Valid.{has_formed_names, has_formed_names_of, has_right_inverse, has_right_inverses, port_declarations, is_named_back, IsFormed}
use Rattle.prod_model.proofs.EntryNames.{same_text_same}
use Rattle.file_meaning.proofs.GoodParts.{HasNamedInverses}

-- ---- entries have names of declarations

abbrev is_named_well : {A : Type 0} → Named A → Bool
is_named_well e = is_name e.name

module _ {D A : Type 0} (declared : TypeDecl → List D) (name_of : D → List ℕ) (made : ℕ → D → A) (narrowed : D → A → A) (types : List TypeDecl)
    (formed : (t j : ℕ) (x : D) → IsAt (declarations_of declared name_of types t) j x → IsTrue (is_name (name_of x))) where
  kept_name : (ds : List D) (e : Named A) → (kept_entry declared name_of made narrowed ds e).name ≡ e.name
  kept_name ds e = by (find (λ d. same_text (name_of d) e.name) ds)
    where
      by : (o : Option D) → (option_map_or (λ (d : D). record { name = e.name; what = narrowed d e.what }) o e).name ≡ e.name
      by None = refl
      by (Some d) = refl

  kept_named : (ds : List D) (es : List (Named A)) → IsTrue (list_all is_named_well es) → IsTrue (list_all is_named_well (map (kept_entry declared name_of made narrowed ds) es))
  kept_named ds es well =
      list_all_from is_named_well (map (kept_entry declared name_of made narrowed ds) es) (λ k x at.
      let read = map_at (kept_entry declared name_of made narrowed ds) es k x at in
      subst (λ n. IsTrue (is_name n)) (sym (kept_name ds read.0) ∙ ap (λ (y : Named A). y.name) read.2) (list_all_at is_named_well es well k read.0 read.1))

  new_named : (id : ℕ) (ds : List D) → IsTrue (list_all (λ d. is_name (name_of d)) ds) → IsTrue (list_all is_named_well (new_entries declared name_of made narrowed id ds))
  new_named id [] well = refl
  new_named id (d ∷ ds) well = and_from _ _ (and_parts _ _ well).0 (new_named (id + 1) ds (and_parts _ _ well).1)

  new_formed : (t : ℕ) → IsTrue (list_all (λ d. is_name (name_of d)) (new_declarations declared name_of types t))
  new_formed t =
      list_all_from (λ d. is_name (name_of d)) (new_declarations declared name_of types t) (λ k x at.
      let found = filter_at _ (declarations_of declared name_of types t) k x at in formed t found.0 x found.1)

  abbrev extend : List (Named A) → ℕ → List (Named A)
  extend = extended_entries declared name_of made narrowed types

  extended_named : (es : List (Named A)) (t : ℕ) → IsTrue (list_all is_named_well es) → IsTrue (list_all is_named_well (extend es t))
  extended_named es t well =
      list_all-append is_named_well (map (kept_entry declared name_of made narrowed (declarations_of declared name_of types t)) es)
      (new_entries declared name_of made narrowed (first_id declared name_of types t) (new_declarations declared name_of types t))
      ∙ and_from _ _ (kept_named (declarations_of declared name_of types t) es well) (new_named (first_id declared name_of types t) (new_declarations declared name_of types t) (new_formed t))

  pub folded_named : (us : List ℕ) (es : List (Named A)) → IsTrue (list_all is_named_well es) → IsTrue (list_all is_named_well (fold extend es us))
  folded_named [] es well = well
  folded_named (u ∷ us) es well = folded_named us (extend es u) (extended_named es u well)

-- ---- ports

module _ (m : Model) (formed : IsFormed m) where
  port_formed : (t j : ℕ) (p : PortDecl) → IsAt (port_declarations m t) j p → IsTrue (is_name p.name)
  unfolding has_formed_names
  port_formed t j p at = by (slice_get m.types t) refl
    where
      by : (o : Option TypeDecl) → slice_get m.types t ≡ o → IsTrue (is_name p.name)
      by None is = absurd (none-some p (subst (λ o. IsAt (option_map_or (λ d. d.ports) o []) j p) is at))
      by (Some d) is =
          let of_type = list_all_at has_formed_names_of m.types (and_parts _ _ formed.formed_names).0 t d is in
          list_all_at (λ q. is_name q.name) d.ports (and_parts _ _ of_type).1 j p (subst (λ o. IsAt (option_map_or (λ d. d.ports) o []) j p) is at)

  entries_named : (t : ℕ) → IsTrue (list_all is_named_well (ports_of m.types t))
  unfolding ports_of
  entries_named t = folded_named (λ d. d.ports) (λ d. d.name) made_port (λ d p. made_port p.id d) m.types port_formed (reverse (line m.types t)) [] refl

  -- a port that a type has under a name gives the name its form
  named_port : (t : ℕ) (name : List ℕ) (q : PortAt) → port_named m t name ≡ Some q → IsTrue (is_name name)
  named_port t name q is = by (find (λ e. same_text e.name name) (ports_of m.types t)) refl is
    where
      by : (o : Option (Named PortAt)) → find (λ e. same_text e.name name) (ports_of m.types t) ≡ o → option_map (λ e. e.what) o ≡ Some q → IsTrue (is_name name)
      by None found is = absurd (none-some q is)
      by (Some e) found is =
          let at = find_at (λ e. same_text e.name name) (ports_of m.types t) e found in
          subst (λ n. IsTrue (is_name n)) (same_text_same e.name name at.2) (list_all_at is_named_well (ports_of m.types t) (entries_named t) at.0 e at.1)

  inverse_named : (t : ℕ) (p : PortDecl) → IsTrue (has_right_inverse m t p) → IsTrue (option_map_or is_name p.inverse true)
  inverse_named t p right = by (not (is_declared_above (λ d. d.ports) (λ d. d.name) m.types t p.name)) p.inverse right
    where
      found : (name : List ℕ) (o : Option PortAt) → port_named m p.target name ≡ o → IsTrue (option_map_or (is_named_back m t p) o false) → IsTrue (is_name name)
      found name None is back = absurd (false≢true back)
      found name (Some q) is back = named_port p.target name q is

      by : (new : Bool) (o : Option (List ℕ)) → IsTrue (option_map_or (λ name. new && option_map_or (is_named_back m t p) (port_named m p.target name) false) o true) → IsTrue (option_map_or is_name o true)
      by new None right = refl
      by new (Some name) right = found name (port_named m p.target name) refl (and_parts _ _ right).1

  pub named_inverses : IsTrue (has_right_inverses m) → HasNamedInverses m
  unfolding has_right_inverses
  named_inverses right t d at k p at_p =
      let of_type : IsTrue (list_all (has_right_inverse m t) (port_declarations m t)) =
      ap (λ u. list_all (has_right_inverse m u) (port_declarations m u)) (sym (zero-add t))
      ∙ list_all_below (λ u. list_all (has_right_inverse m u) (port_declarations m u)) 0 (length m.types) t right (slice_get_within m.types t d at) in
      inverse_named t p
      (list_all_at (has_right_inverse m t) (port_declarations m t) of_type k p (subst (λ o. IsAt (option_map_or (λ d. d.ports) o []) k p) (sym at) at_p))
