-- What a type has under a name is what the nearest type of its line that declares it says.
use Rattle.std.proofs.Common.{◌≡◌, ℕ, ◌+◌, Bool, true, false, cond, not, List, [], ◌∷◌, ◌++◌, map, fold, reverse, sym, ap, subst, ◌∙◌, refl, Option, Some, None}
use Rattle.std.specs.Prelude.{slice_get}
use Rattle.std.specs.Option.{option_map, option_map_or, option_and_then, option_or}
use Rattle.std.specs.List.{find, flat_map, list_any}
use Rattle.std.specs.Cmp.Lexicographic.{same_text as text_of_same}
use Rattle.std.proofs.lemmas.List.Folds.{find-append}
use Rattle.base_laws.proofs.Places.{find_at}
use Rattle.base_laws.proofs.Searches.{find_map, find_filter}
use Rattle.prod_model.specs.declared.model.TypeDecl.{TypeDecl}
use Rattle.prod_model.specs.Forest.{line, ancestors}
use Rattle.prod_model.specs.Names.{same_text}
use Rattle.prod_model.specs.Taxonomy.{Named, declarations_of, new_declarations, first_id, new_entries, kept_entry, extended_entries, entries_of}
use Rattle.prod_model.proofs.Ancestors.{ancestors_of_parent, line_none}
use Rattle.prod_model.proofs.EntryLaws.{entries_of_parent}
use Rattle.prod_model.proofs.ForestLines.{HasNoCycle}
use Rattle.prod_model.proofs.LineLaws.{along_lines}
use Rattle.prod_model.proofs.NamedDeclarations.{types_along, types_of_parent, of_name, first_named, undeclared_along}

-- entries of which each keeps the declaration that says what it is
module _ {D A : Type 0} (declared : TypeDecl → List D) (name_of : D → List ℕ) (made : ℕ → D → A) (narrowed : D → A → A) (says : A → D)
    (made_says : (id : ℕ) (d : D) → says (made id d) ≡ d) (narrowed_says : (d : D) (a : A) → says (narrowed d a) ≡ d) where
  -- the declaration of the entry of the name
  abbrev pub under_name : List ℕ → List (Named A) → Option D
  under_name name es = option_map (λ e. says e.what) (find (λ e. same_text e.name name) es)

  -- ---- narrowed entries

  kept_name : (e : Named A) (found : Option D) → (option_map_or (λ d. record { name = e.name; what = narrowed d e.what }) found e).name ≡ e.name
  kept_name e None = refl
  kept_name e (Some d) = refl

  -- a narrowing keeps the names, so a search finds the same entry, narrowed
  pub find_kept : (ds : List D) (name : List ℕ) (es : List (Named A))
      → find (λ e. same_text e.name name) (map (kept_entry declared name_of made narrowed ds) es)
      ≡ option_map (kept_entry declared name_of made narrowed ds) (find (λ e. same_text e.name name) es)
  find_kept ds name es =
      let keep = kept_entry declared name_of made narrowed ds in
      let same : (λ (e : Named A). same_text (keep e).name name) ≡ (λ (e : Named A). same_text e.name name) =
      λ j e. same_text (kept_name e (of_name name_of e.name ds) j) name in
      find_map (λ e. same_text e.name name) keep es ∙ ap (λ p. option_map keep (find p es)) same

  kept_says : (e : Named A) (found : Option D)
      → Some (says (option_map_or (λ d. record { name = e.name; what = narrowed d e.what }) found e).what) ≡ option_or found (Some (says e.what))
  kept_says e None = refl
  kept_says e (Some d) = ap Some (narrowed_says d e.what)

  -- ---- new entries

  new_cons : (b : Bool) (id : ℕ) (d : D) (rest : Option (Named A)) (later : Option D) → option_map (λ e. says e.what) rest ≡ later
      → option_map (λ e. says e.what) (cond b (Some (record { name = name_of d; what = made id d })) rest) ≡ cond b (Some d) later
  new_cons true id d rest later same = ap Some (made_says id d)
  new_cons false id d rest later same = same

  under_new : (name : List ℕ) (id : ℕ) (ds : List D) → under_name name (new_entries declared name_of made narrowed id ds) ≡ of_name name_of name ds
  under_new name id [] = refl
  under_new name id (d ∷ ds) =
      new_cons (same_text (name_of d) name) id d (find (λ e. same_text e.name name) (new_entries declared name_of made narrowed (id + 1) ds))
      (of_name name_of name ds) (under_new name (id + 1) ds)

  -- what is new in a type
  abbrev new_at : List TypeDecl → ℕ → List (Named A)
  new_at types t = new_entries declared name_of made narrowed (first_id declared name_of types t) (new_declarations declared name_of types t)

  -- what is new under the name, where no ancestor declares it
  new_under : (types : List TypeDecl) (t : ℕ) (d : TypeDecl) (name : List ℕ) → slice_get types t ≡ Some d
      → first_named declared name_of name (types_along types (ancestors types t)) ≡ None
      → under_name name (new_at types t) ≡ of_name name_of name (declared d)
  new_under types t d name is_type none =
      let is_new = λ (e : D). not (list_any (λ f. same_text (name_of e) (name_of f)) (flat_map (declarations_of declared name_of types) (ancestors types t))) in
      let fresh : (e : D) → same_text (name_of e) name ≡ true → is_new e ≡ true = λ e same.
      let equal : name ≡ name_of e = sym (text_of_same (name_of e) name (sym same)) in
      ap not (undeclared_along declared name_of types (name_of e) (ancestors types t)
      (subst (λ n. first_named declared name_of n (types_along types (ancestors types t)) ≡ None) equal none)) in
      under_new name (first_id declared name_of types t) (new_declarations declared name_of types t)
      ∙ find_filter is_new (λ e. same_text (name_of e) name) (declarations_of declared name_of types t) fresh
      ∙ ap (λ o. of_name name_of name (option_map_or declared o [])) is_type

  -- ---- the entries of a type

  or_with_none : (o : Option D) → option_or o None ≡ o
  or_with_none None = refl
  or_with_none (Some x) = refl

  -- the entries that a type inherits, narrowed, and then the new ones
  under_both : (ds : List D) (name : List ℕ) (inherited new : List (Named A)) (above : Option D) (found : Option (Named A))
      → find (λ e. same_text e.name name) inherited ≡ found → option_map (λ e. says e.what) found ≡ above
      → (above ≡ None → under_name name new ≡ of_name name_of name ds)
      → under_name name (map (kept_entry declared name_of made narrowed ds) inherited ++ new) ≡ option_or (of_name name_of name ds) above
  under_both ds name inherited new above None is is_above is_new =
      let keep = kept_entry declared name_of made narrowed ds in
      let none : above ≡ None = sym is_above in
      ap (option_map (λ e. says e.what)) (find-append (λ e. same_text e.name name) (map keep inherited) new
      ∙ ap (λ o. option_or o (find (λ e. same_text e.name name) new)) (find_kept ds name inherited ∙ ap (option_map keep) is))
      ∙ is_new none ∙ sym (or_with_none (of_name name_of name ds)) ∙ ap (option_or (of_name name_of name ds)) is_above
  under_both ds name inherited new above (Some e) is is_above is_new =
      let keep = kept_entry declared name_of made narrowed ds in
      let same : e.name ≡ name = text_of_same e.name name (sym (find_at (λ x. same_text x.name name) inherited e is).2) in
      ap (option_map (λ x. says x.what)) (find-append (λ x. same_text x.name name) (map keep inherited) new
      ∙ ap (λ o. option_or o (find (λ x. same_text x.name name) new)) (find_kept ds name inherited ∙ ap (option_map keep) is))
      ∙ kept_says e (of_name name_of e.name ds) ∙ ap (λ n. option_or (of_name name_of n ds) (Some (says e.what))) same
      ∙ ap (option_or (of_name name_of name ds)) is_above

  entries_none : (types : List TypeDecl) (t : ℕ) → slice_get types t ≡ None → entries_of declared name_of made narrowed types t ≡ []
  entries_none types t none =
      ap (λ l. fold (extended_entries declared name_of made narrowed types) [] (reverse l)) (line_none types t none)

  -- the name is found in the entries as it is along the line
  abbrev FindsNearest : List TypeDecl → List ℕ → ℕ → Type 0
  FindsNearest types name t =
      under_name name (entries_of declared name_of made narrowed types t) ≡ first_named declared name_of name (types_along types (line types t))

  under_parent : (types : List TypeDecl) (name : List ℕ) (parent : Option ℕ) → ((p : ℕ) → parent ≡ Some p → FindsNearest types name p)
      → under_name name (option_map_or (entries_of declared name_of made narrowed types) parent [])
      ≡ first_named declared name_of name (types_along types (option_map_or (line types) parent []))
  under_parent types name None each = refl
  under_parent types name (Some p) each = each p refl

  -- a type has what it declares under the name, or else what its parent has
  under_at : (types : List TypeDecl) (t : ℕ) (name : List ℕ) (kind : Option TypeDecl) → HasNoCycle types → slice_get types t ≡ kind
      → ((p : ℕ) (d : TypeDecl) → kind ≡ Some d → d.parent ≡ Some p → FindsNearest types name p) → FindsNearest types name t
  under_at types t name None forest is_type each =
      ap (under_name name) (entries_none types t is_type)
      ∙ sym (ap (λ l. first_named declared name_of name (types_along types l)) (line_none types t is_type))
  under_at types t name (Some d) forest is_type each =
      let inherited = option_map_or (entries_of declared name_of made narrowed types) d.parent [] in
      let above = first_named declared name_of name (types_along types (option_map_or (line types) d.parent [])) in
      let kept = λ (kind : Option TypeDecl). map (kept_entry declared name_of made narrowed (option_map_or declared kind [])) inherited in
      ap (under_name name) (entries_of_parent declared name_of made narrowed types forest t d is_type ∙ ap (λ kind. kept kind ++ new_at types t) is_type)
      ∙ under_both (declared d) name inherited (new_at types t) above (find (λ e. same_text e.name name) inherited) refl
      (under_parent types name d.parent (λ p is_parent. each p d refl is_parent))
      (λ none. new_under types t d name is_type
      (ap (λ l. first_named declared name_of name (types_along types l)) (ancestors_of_parent types forest t d is_type) ∙ none))
      ∙ sym (ap (first_named declared name_of name) (types_of_parent types forest t d is_type))

  -- what a type has under a name is what the nearest type of its line that declares it says
  pub nearest_entry : (types : List TypeDecl) → HasNoCycle types → (name : List ℕ) (t : ℕ) → FindsNearest types name t
  nearest_entry types forest name =
      along_lines types forest (FindsNearest types name)
      (λ t each. under_at types t name (slice_get types t) forest refl
      (λ p d is_type is_parent. each p (record { decl = d; stands = is_type; parent = is_parent })))

  -- and what its parent has is what the nearest of its ancestors says
  pub nearest_inherited : (types : List TypeDecl) → HasNoCycle types → (name : List ℕ) (t : ℕ) (d : TypeDecl) → slice_get types t ≡ Some d
      → option_map (λ e. says e.what)
      (option_and_then (λ p. find (λ e. same_text e.name name) (entries_of declared name_of made narrowed types p)) d.parent)
      ≡ first_named declared name_of name (types_along types (ancestors types t))
  nearest_inherited types forest name t d is_type =
      by d.parent ∙ ap (λ l. first_named declared name_of name (types_along types l)) (sym (ancestors_of_parent types forest t d is_type))
    where
      by : (parent : Option ℕ)
          → option_map (λ e. says e.what)
          (option_and_then (λ p. find (λ e. same_text e.name name) (entries_of declared name_of made narrowed types p)) parent)
          ≡ first_named declared name_of name (types_along types (option_map_or (line types) parent []))
      by None = refl
      by (Some p) = nearest_entry types forest name p
