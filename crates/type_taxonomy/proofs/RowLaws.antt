-- What a type has: its parent's entries narrowed, and then what is new.
use Rattle.std.proofs.Common.{◌≡◌, ℕ, ◌+◌, ◌<◌, List, [], ◌∷◌, ◌++◌, length, get_or, take, map, sym, ap, ◌∙◌, refl, Option, Some, None, append_assoc, slice_get}
use Rattle.std.specs.Option.{option_map, option_map_or}
use Rattle.std.specs.List.{find}
use Rattle.std.specs.Cmp.Lexicographic.{same_text as text_of_same}
use Rattle.std.proofs.lemmas.List.{map-append, take_more}
use Rattle.base_laws.proofs.Places.{find_at}
use Rattle.prod_model.specs.declared.model.TypeDecl.{TypeDecl}
use Rattle.prod_model.specs.Names.{same_text}
use Rattle.prod_model.specs.Taxonomy.{kept_entry}
use Rattle.prod_model.proofs.EntryLaws.{entries_of_parent}
use Rattle.type_taxonomy.specs.declared.entry.Entry.{Entry}
use Rattle.type_taxonomy.specs.steps.ByName.{found_at}
use Rattle.type_taxonomy.specs.steps.Entries.{named, placed, placed_again, narrowed_by, new_of, placed_of}
use Rattle.type_taxonomy.specs.steps.TypeForest.{IsForest}

module _ {D : Type 0} (declared : TypeDecl → List D) (name_of : D → List ℕ) where
  -- what a type has is what its parent has, narrowed, and then what is new
  pub placed_of_step : (types : List TypeDecl) (t : ℕ) (d : TypeDecl) → IsForest types → slice_get types t ≡ Some d
      → placed_of declared name_of types t
      ≡ narrowed_by declared name_of (declared d) (option_map_or (placed_of declared name_of types) d.parent []) ++ new_of declared name_of types t
  unfolding placed_of
  placed_of_step types t d forest is_type =
      entries_of_parent declared name_of (placed declared name_of) (placed_again declared name_of) types forest.no_cycle t d is_type
      ∙ ap (λ kind. narrowed_by declared name_of (option_map_or declared kind []) (option_map_or (placed_of declared name_of types) d.parent []) ++ new_of declared name_of types t) is_type

  narrowed_by_found : (ds : List D) (e after : Entry D) (found : Option D) → find (λ d. same_text (name_of d) (name_of e.declared.now)) ds ≡ found → after.id ≡ e.id
      → after.declared.now ≡ option_map_or (λ (f : ℕ × D). f.1) (option_map (λ d. (1, d)) found) e.declared.now
      → named name_of after ≡ option_map_or (λ d. record { name = name_of e.declared.now; what = (e.id, d) }) found (named name_of e)
  narrowed_by_found ds e after None found is_id is =
      ap (λ d. record { name = name_of d; what = (after.id, d) }) is ∙ ap (λ k. record { name = name_of e.declared.now; what = (k, e.declared.now) }) is_id
  narrowed_by_found ds e after (Some d) found is_id is =
      let same : name_of d ≡ name_of e.declared.now = text_of_same _ _ (sym (find_at (λ x. same_text (name_of x) (name_of e.declared.now)) ds d found).2) in
      ap (λ x. record { name = name_of x; what = (after.id, x) }) is ∙ ap (λ n. record { name = n; what = (after.id, d) }) same
      ∙ ap (λ k. record { name = name_of e.declared.now; what = (k, d) }) is_id

  -- an entry with the declaration that is found under its name, if there is one, is the entry narrowed
  pub named_narrowed : (ds : List D) (e after : Entry D) (found : Option (ℕ × D)) → after.id ≡ e.id → after.declared.now ≡ option_map_or (λ f. f.1) found e.declared.now
      → found ≡ found_at name_of 1 ds (name_of e.declared.now)
      → named name_of after ≡ kept_entry declared name_of (placed declared name_of) (placed_again declared name_of) ds (named name_of e)
  named_narrowed ds e after found is_id is is_found =
      narrowed_by_found ds e after (find (λ d. same_text (name_of d) (name_of e.declared.now)) ds) refl is_id
      (is ∙ ap (λ o. option_map_or (λ (f : ℕ × D). f.1) o e.declared.now) is_found)

  -- one inherited entry more
  pub narrowed_more : (ds : List D) (inherited : List (Entry D)) (i : ℕ) (row after : List (Entry D)) (e kept : Entry D) → i < length inherited
      → e ≡ get_or inherited i e → named name_of kept ≡ kept_entry declared name_of (placed declared name_of) (placed_again declared name_of) ds (named name_of e)
      → map (named name_of) row ≡ narrowed_by declared name_of ds (map (named name_of) (take i inherited)) → after ≡ row ++ kept ∷ []
      → map (named name_of) after ≡ narrowed_by declared name_of ds (map (named name_of) (take (i + 1) inherited))
  narrowed_more ds inherited i row after e kept within is is_kept so_far pushed =
      let narrow = kept_entry declared name_of (placed declared name_of) (placed_again declared name_of) ds in
      let before = take i inherited in
      let more : take (i + 1) inherited ≡ before ++ e ∷ [] = take_more inherited i e within ∙ ap (λ y. before ++ y ∷ []) (sym is) in
      let parts : map narrow (map (named name_of) (before ++ e ∷ [])) ≡ map narrow (map (named name_of) before) ++ narrow (named name_of e) ∷ [] =
      ap (map narrow) (map-append (named name_of) before (e ∷ [])) ∙ map-append narrow (map (named name_of) before) (named name_of e ∷ []) in
      ap (map (named name_of)) pushed ∙ map-append (named name_of) row (kept ∷ []) ∙ ap (λ l. l ++ named name_of kept ∷ []) so_far
      ∙ ap (λ y. map narrow (map (named name_of) before) ++ y ∷ []) is_kept ∙ sym parts ∙ ap (λ l. map narrow (map (named name_of) l)) (sym more)

-- what was there, the items so far, and one more
pub push_more : {X : Type 0} (before row after new : List X) (i : ℕ) (e : X) → i < length new → e ≡ get_or new i e → row ≡ before ++ take i new → after ≡ row ++ e ∷ []
    → after ≡ before ++ take (i + 1) new
push_more before row after new i e within is so_far pushed =
    pushed ∙ ap (λ l. l ++ e ∷ []) so_far ∙ append_assoc before (take i new) (e ∷ [])
    ∙ ap (λ l. before ++ l) (ap (λ y. take i new ++ y ∷ []) is ∙ sym (take_more new i e within))
