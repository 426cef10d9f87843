-- The domain of an attribute at any type lies within that of its first declaration.
use Rattle.std.proofs.Common.{◌≡◌, ℕ, zero, suc, ◌+◌, ◌<◌, List, [], ◌∷◌, ◌++◌, map, length, Option, Some, None, refl, sym, ap, ◌∙◌, subst, inl, inr, add-zero, arith}
use Rattle.std.specs.Prelude.{slice_get, IsTrue}
use Rattle.std.specs.Option.{option_map_or}
use Rattle.std.proofs.lemmas.List.{map-append}
use Rattle.std.proofs.lemmas.Option.{same_Some, none-some, slice_get_cases}
use Rattle.base_laws.specs.Places.{IsAt}
use Rattle.base_laws.proofs.Places.{map_at, at_map, at_either}
use Rattle.prod_model.specs.declared.model.Model.{Model}
use Rattle.prod_model.specs.declared.model.TypeDecl.{TypeDecl}
use Rattle.prod_model.specs.declared.model.AttrDecl.{AttrDecl}
use Rattle.prod_model.specs.declared.model.AttrAt.{AttrAt}
use Rattle.prod_model.specs.Taxonomy.{Named, declarations_of, new_declarations, all_new_declarations, first_id, new_entries, kept_entry, made_attribute, attributes_of, attributes_at}
use Rattle.prod_model.specs.Valid.{IsDeclared, narrows_domain}
use Rattle.prod_model.proofs.TaxonomyLaws.{no_attributes}
use Rattle.prod_model.proofs.ForestLines.{HasParent, no_cycle}
use Rattle.prod_model.proofs.LineLaws.{along_lines}
use Rattle.prod_model.proofs.EntryLaws.{entries_of_parent}
use Rattle.prod_model.proofs.EntryPlaces.{ids_are_places}
use Rattle.prod_model.proofs.NarrowingLaws.{attributes_kept, narrows_refl, narrows_trans}

-- the declarations of attributes that are new in a type
abbrev news : List TypeDecl → ℕ → List AttrDecl
news = new_declarations (λ d. d.attributes) (λ d. d.name)

-- the declarations of attributes that are new in any type
abbrev all_news : List TypeDecl → List AttrDecl
all_news = all_new_declarations (λ d. d.attributes) (λ d. d.name)

abbrev attribute_narrowed : AttrDecl → AttrAt → AttrAt
attribute_narrowed d a = made_attribute a.id d

-- the entries of new declarations
abbrev made_from : ℕ → List AttrDecl → List (Named AttrAt)
made_from = new_entries (λ d. d.attributes) (λ d. d.name) made_attribute attribute_narrowed

-- the j-th new entry is made of the j-th new declaration
made_at : (id : ℕ) (ds : List AttrDecl) (j : ℕ) (a : AttrAt) → IsAt (map (λ e. e.what) (made_from id ds)) j a
    → (d : AttrDecl) × IsAt ds j d × (made_attribute (id + j) d ≡ a)
made_at id [] j a there = absurd (none-some a there)
made_at id (d ∷ ds) zero a there =
    (d, refl, ap (λ k. made_attribute k d) (add-zero id) ∙ same_Some (made_attribute id d) a there)
made_at id (d ∷ ds) (suc j) a there =
    let later = made_at (id + 1) ds j a there in
    let same : id + suc j ≡ id + 1 + j = omega arith in
    (later.0, later.1, ap (λ k. made_attribute k later.0) same ∙ later.2)

module _ (m : Model) (is : IsDeclared m) where
  -- the first declaration of an attribute, within whose domain the attribute's lies
  abbrev LiesWithinFirst : AttrAt → Type 0
  LiesWithinFirst a = (d : AttrDecl) × IsAt (all_news m.types) a.id d × IsTrue (narrows_domain a.domain d.domain)

  -- an attribute that narrows one lies within the first declaration of that one
  within_inherited : (b a : AttrAt) → a.id ≡ b.id → IsTrue (narrows_domain a.domain b.domain) → LiesWithinFirst b → LiesWithinFirst a
  within_inherited b a same narrows first =
      (first.0, subst (λ id. IsAt (all_news m.types) id first.0) (sym same) first.1, narrows_trans first.0.domain b.domain a.domain first.2 narrows)

  -- a new attribute has the domain of its first declaration
  within_new : (t j : ℕ) (a : AttrAt) → t < length m.types → IsAt (map (λ e. e.what) (made_from (first_id (λ d. d.attributes) (λ d. d.name) m.types t) (news m.types t))) j a
      → LiesWithinFirst a
  within_new t j a within there =
      let first = first_id (λ d. d.attributes) (λ d. d.name) m.types t in
      let made = made_at first (news m.types t) j a there in
      let stands = (ids_are_places m.types).0.stands t j made.0 within made.1 in (
        made.0,
        subst (λ a. IsAt (all_news m.types) a.id made.0) made.2 stands,
        subst (λ a. IsTrue (narrows_domain a.domain made.0.domain)) made.2 (narrows_refl made.0.domain),
      )

  -- an attribute that stands among the narrowed ones of the parent, if there is one
  within_kept : (t k : ℕ) (a : AttrAt) (kind : TypeDecl) → slice_get m.types t ≡ Some kind
      → ((p : ℕ) → HasParent m.types t p → (k : ℕ) (a : AttrAt) → IsAt (attributes_at m p) k a → LiesWithinFirst a)
      → IsAt (attributes_at m t) k a
      → (o : Option ℕ) → kind.parent ≡ o
      → IsAt (map (λ e. e.what) (map (kept_entry (λ d. d.attributes) (λ d. d.name) made_attribute attribute_narrowed (declarations_of (λ d. d.attributes) (λ d. d.name) m.types t))
      (option_map_or (attributes_of m.types) o []))) k a
      → LiesWithinFirst a
  within_kept t k a kind stands each there None parent kept = absurd (none-some a kept)
  within_kept t k a kind stands each there (Some p) parent kept =
      let above : HasParent m.types t p = record { decl = kind; stands = stands; parent = parent } in
      let keeps = kept_entry (λ d. d.attributes) (λ d. d.name) made_attribute attribute_narrowed (declarations_of (λ d. d.attributes) (λ d. d.name) m.types t) in
      let outer = map_at (λ e. e.what) (map keeps (attributes_of m.types p)) k a kept in
      let inner = map_at keeps (attributes_of m.types p) k outer.0 outer.1 in
      let inherited : IsAt (attributes_at m p) k inner.0.what = at_what (attributes_of m.types p) k inner.0 inner.1 in
      let narrowed = attributes_kept m is t p above k inner.0.what inherited in
      let same : narrowed.0 ≡ a = same_Some narrowed.0 a (sym narrowed.1 ∙ there) in
      within_inherited inner.0.what a (sym (ap (λ a. a.id) same) ∙ narrowed.2.same_id)
      (subst (λ a. IsTrue (narrows_domain a.domain inner.0.what.domain)) same narrowed.2.narrows)
      (each p above k inner.0.what inherited)
    where
      at_what : (es : List (Named AttrAt)) (i : ℕ) (e : Named AttrAt) → IsAt es i e → IsAt (map (λ e. e.what) es) i e.what
      at_what es i e at = at_map (λ e. e.what) es i e at

  -- one step of a line
  within_step : (t : ℕ) → ((p : ℕ) → HasParent m.types t p → (k : ℕ) (a : AttrAt) → IsAt (attributes_at m p) k a → LiesWithinFirst a)
      → (k : ℕ) (a : AttrAt) → IsAt (attributes_at m t) k a → LiesWithinFirst a
  unfolding attributes_of
  within_step t each k a there = elim (slice_get_cases m.types t).1 [
    | inr w ↦ absurd (none-some a (subst (λ as'. IsAt as' k a) (no_attributes m t w.0) there))
    | inl w ↦ (
        let stands : slice_get m.types t ≡ Some w.0 = w.2 in
        let old = map (kept_entry (λ d. d.attributes) (λ d. d.name) made_attribute attribute_narrowed (declarations_of (λ d. d.attributes) (λ d. d.name) m.types t))
        (option_map_or (attributes_of m.types) w.0.parent []) in
        let new = made_from (first_id (λ d. d.attributes) (λ d. d.name) m.types t) (news m.types t) in
        let parts : attributes_at m t ≡ map (λ e. e.what) old ++ map (λ e. e.what) new =
        ap (map (λ e. e.what)) (entries_of_parent (λ d. d.attributes) (λ d. d.name) made_attribute attribute_narrowed m.types (no_cycle m is.taxonomy.forest) t w.0 stands)
        ∙ map-append (λ e. e.what) old new in
        elim (at_either (map (λ e. e.what) old) (map (λ e. e.what) new) k a (subst (λ as'. IsAt as' k a) parts there)) [
          | inl front ↦ within_kept t k a w.0 stands each there w.0.parent refl front
          | inr back ↦ within_new t back.0 a w.1 back.2
        ])
  ]

-- The domain of an attribute at any type lies within that of its first declaration, which stands at its id.
pub attribute_within_first : (m : Model) → IsDeclared m → (t k : ℕ) (a : AttrAt) → IsAt (attributes_at m t) k a
    → (d : AttrDecl) × IsAt (all_new_declarations (λ d. d.attributes) (λ d. d.name) m.types) a.id d
    × IsTrue (narrows_domain a.domain d.domain)
attribute_within_first m is t k a there =
    along_lines m.types (no_cycle m is.taxonomy.forest) (λ t. (k : ℕ) (a : AttrAt) → IsAt (attributes_at m t) k a → LiesWithinFirst m is a)
    (within_step m is) t k a there
