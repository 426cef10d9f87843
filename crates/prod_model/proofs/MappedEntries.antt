-- Entries of one sort, each seen through a function, are entries of another.
use Rattle.std.proofs.Common.{◌≡◌, ℕ, ◌+◌, List, [], ◌∷◌, ◌++◌, map, reverse, fold, ap, ◌∙◌, refl, Option, Some, None}
use Rattle.std.specs.Option.{option_map_or}
use Rattle.std.specs.List.{find}
use Rattle.std.proofs.lemmas.List.{map-append}
use Rattle.prod_model.specs.declared.model.TypeDecl.{TypeDecl}
use Rattle.prod_model.specs.Names.{same_text}
use Rattle.prod_model.specs.Forest.{line}
use Rattle.prod_model.specs.Taxonomy.{Named, declarations_of, new_declarations, first_id, new_entries, kept_entry, extended_entries, entries_of}

-- the same name, and something else
abbrev pub under : {A B : Type 0} → (A → B) → Named A → Named B
under h e = record { name = e.name; what = h e.what }

-- two ways to make and to narrow entries, where h leads from the one to the other
module _ {D A B : Type 0} (declared : TypeDecl → List D) (name_of : D → List ℕ)
    (made : ℕ → D → A) (narrowed : D → A → A) (made' : ℕ → D → B) (narrowed' : D → B → B) (h : A → B)
    (made_is : (id : ℕ) (d : D) → h (made id d) ≡ made' id d) (narrowed_is : (d : D) (a : A) → h (narrowed d a) ≡ narrowed' d (h a)) where
  new_mapped : (id : ℕ) (ds : List D)
      → map (under h) (new_entries declared name_of made narrowed id ds) ≡ new_entries declared name_of made' narrowed' id ds
  new_mapped id [] = refl
  new_mapped id (d ∷ ds) =
      ap (λ b. record { name = name_of d; what = b } ∷ map (under h) (new_entries declared name_of made narrowed (id + 1) ds)) (made_is id d)
      ∙ ap (λ l. record { name = name_of d; what = made' id d } ∷ l) (new_mapped (id + 1) ds)

  kept_found : (e : Named A) (found : Option D)
      → under h (option_map_or (λ d. record { name = e.name; what = narrowed d e.what }) found e)
      ≡ option_map_or (λ d. record { name = e.name; what = narrowed' d (h e.what) }) found (under h e)
  kept_found e None = refl
  kept_found e (Some d) = ap (λ b. record { name = e.name; what = b }) (narrowed_is d e.what)

  kept_mapped : (ds : List D) (es : List (Named A))
      → map (under h) (map (kept_entry declared name_of made narrowed ds) es)
      ≡ map (kept_entry declared name_of made' narrowed' ds) (map (under h) es)
  kept_mapped ds [] = refl
  kept_mapped ds (e ∷ es) =
      let found = find (λ d. same_text (name_of d) e.name) ds in
      ap (λ x. x ∷ map (under h) (map (kept_entry declared name_of made narrowed ds) es)) (kept_found e found)
      ∙ ap (λ l. kept_entry declared name_of made' narrowed' ds (under h e) ∷ l) (kept_mapped ds es)

  extended_mapped : (types : List TypeDecl) (es : List (Named A)) (t : ℕ)
      → map (under h) (extended_entries declared name_of made narrowed types es t)
      ≡ extended_entries declared name_of made' narrowed' types (map (under h) es) t
  extended_mapped types es t =
      let ds = declarations_of declared name_of types t in
      let fresh = new_entries declared name_of made narrowed (first_id declared name_of types t) (new_declarations declared name_of types t) in
      map-append (under h) (map (kept_entry declared name_of made narrowed ds) es) fresh
      ∙ ap (λ l. l ++ map (under h) fresh) (kept_mapped ds es)
      ∙ ap (λ l. map (kept_entry declared name_of made' narrowed' ds) (map (under h) es) ++ l)
      (new_mapped (first_id declared name_of types t) (new_declarations declared name_of types t))

  fold_mapped : (types : List TypeDecl) (ts : List ℕ) (es : List (Named A))
      → map (under h) (fold (extended_entries declared name_of made narrowed types) es ts)
      ≡ fold (extended_entries declared name_of made' narrowed' types) (map (under h) es) ts
  fold_mapped types [] es = refl
  fold_mapped types (t ∷ ts) es =
      fold_mapped types ts (extended_entries declared name_of made narrowed types es t)
      ∙ ap (λ l. fold (extended_entries declared name_of made' narrowed' types) l ts) (extended_mapped types es t)

  -- what a type has in the one way, seen through h, is what it has in the other
  pub entries_mapped : (types : List TypeDecl) (t : ℕ)
      → map (under h) (entries_of declared name_of made narrowed types t) ≡ entries_of declared name_of made' narrowed' types t
  entries_mapped types t = fold_mapped types (reverse (line types t)) []
