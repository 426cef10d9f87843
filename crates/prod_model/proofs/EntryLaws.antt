-- The entries of a type: from its parent's, their names, and the new declarations in file order.
use Rattle.std.proofs.Common.{append_assoc, append-nil, sym, ◌≡◌, ℕ, suc, ◌<◌, ◌+◌, ◌-◌, List, [], ◌∷◌, ◌++◌, map, reverse, length, Option, Some, None, refl, ap, ◌∙◌, zero-add, arith}
use Rattle.std.specs.Prelude.{slice_get}
use Rattle.std.specs.Option.{option_map_or}
use Rattle.std.specs.List.{find, flat_map, fold, range_with_len}
use Rattle.std.proofs.lemmas.Grind.{flat_map-append}
use Rattle.std.proofs.lemmas.List.{map-append, reverse-append}
use Rattle.std.proofs.lemmas.List.Sums.{fold-append}
use Rattle.prod_model.specs.declared.model.TypeDecl.{TypeDecl}
use Rattle.prod_model.specs.Names.{same_text}
use Rattle.prod_model.specs.Forest.{line}
use Rattle.prod_model.specs.Taxonomy.{Named, declarations_of, new_declarations, all_new_declarations, first_id, new_entries, kept_entry, extended_entries, entries_of}
use Rattle.prod_model.proofs.ForestLines.{HasNoCycle, line_of_parent}
use Rattle.base_laws.proofs.Ranges.{range_split}

module _ {D A : Type 0} (declared : TypeDecl → List D) (name_of : D → List ℕ)
    (made : ℕ → D → A) (narrowed : D → A → A) where
  -- ---- names

  -- new entries have the names of their declarations
  names_new_entries : (id : ℕ) (ds : List D)
      → map (λ e. e.name) (new_entries declared name_of made narrowed id ds) ≡ map name_of ds
  names_new_entries id [] = refl
  names_new_entries id (d ∷ ds) = ap (λ ns. name_of d ∷ ns) (names_new_entries (id + 1) ds)

  -- an entry keeps its name, narrowed or not
  name_narrowed : (e : Named A) (d : Option D)
      → (option_map_or (λ d. record { name = e.name; what = narrowed d e.what }) d e).name ≡ e.name
  name_narrowed e None = refl
  name_narrowed e (Some d) = refl

  -- inherited entries keep their names
  names_kept : (ds : List D) (es : List (Named A))
      → map (λ e. e.name) (map (kept_entry declared name_of made narrowed ds) es) ≡ map (λ e. e.name) es
  names_kept ds [] = refl
  names_kept ds (e ∷ es) =
      let here = name_narrowed e (find (λ d. same_text (name_of d) e.name) ds) in
      let rest = names_kept ds es in cc

  -- the names that are inherited, and then the new ones
  pub names_extended : (types : List TypeDecl) (es : List (Named A)) (u : ℕ)
      → map (λ e. e.name) (extended_entries declared name_of made narrowed types es u)
      ≡ map (λ e. e.name) es ++ map name_of (new_declarations declared name_of types u)
  names_extended types es u =
      let ds = declarations_of declared name_of types u in
      let new = new_declarations declared name_of types u in
      let id = first_id declared name_of types u in
      let added = new_entries declared name_of made narrowed id new in
      map-append (λ e. e.name) (map (kept_entry declared name_of made narrowed ds) es) added
      ∙ ap (λ ns. ns ++ map (λ e. e.name) added) (names_kept ds es)
      ∙ ap (λ ns. map (λ e. e.name) es ++ ns) (names_new_entries id new)

  -- ---- along a line

  -- what a line gives, from its last type to its first
  abbrev pub entries_along : List TypeDecl → List ℕ → List (Named A)
  entries_along types us = fold (extended_entries declared name_of made narrowed types) [] (reverse us)

  -- a type more in front extends them
  pub entries_along_cons : (types : List TypeDecl) (u : ℕ) (us : List ℕ)
      → entries_along types (u ∷ us)
      ≡ extended_entries declared name_of made narrowed types (entries_along types us) u
  entries_along_cons types u us =
      let extend = extended_entries declared name_of made narrowed types in
      ap (fold extend []) (reverse-append (u ∷ []) us) ∙ fold-append extend [] (reverse us) (u ∷ [])

  -- what a type has is what its parent has, if it has one, extended
  pub entries_of_parent : (types : List TypeDecl) → HasNoCycle types → (t : ℕ) (d : TypeDecl)
      → slice_get types t ≡ Some d
      → entries_of declared name_of made narrowed types t
      ≡ extended_entries declared name_of made narrowed types
      (option_map_or (entries_of declared name_of made narrowed types) d.parent []) t
  entries_of_parent types forest t d is =
      ap (entries_along types) (line_of_parent types forest t d is)
      ∙ entries_along_cons types t (option_map_or (line types) d.parent [])
      ∙ ap (λ es. extended_entries declared name_of made narrowed types es t) (by d.parent)
    where
      by : (o : Option ℕ) → entries_along types (option_map_or (line types) o [])
          ≡ option_map_or (entries_of declared name_of made narrowed types) o []
      by None = refl
      by (Some p) = refl

  -- the names along a line, after those of some entries
  names_fold : (types : List TypeDecl) (us : List ℕ) (es : List (Named A)) → map (λ e. e.name) (fold (extended_entries declared name_of made narrowed types) es us) ≡ map (λ e. e.name) es ++ map name_of (flat_map (new_declarations declared name_of types) us)
  names_fold types [] es = sym (append-nil (map (λ e. e.name) es))
  names_fold types (u ∷ us) es =
      let new = new_declarations declared name_of types in
      names_fold types us (extended_entries declared name_of made narrowed types es u)
      ∙ ap (λ ns. ns ++ map name_of (flat_map new us)) (names_extended types es u)
      ∙ append_assoc (map (λ e. e.name) es) (map name_of (new u)) (map name_of (flat_map new us))
      ∙ ap (λ ns. map (λ e. e.name) es ++ ns) (sym (map-append name_of (new u) (flat_map new us)))

  -- the names of a type's entries are those of the new declarations along its line
  pub names_entries_of : (types : List TypeDecl) (t : ℕ) → map (λ e. e.name) (entries_of declared name_of made narrowed types t) ≡ map name_of (flat_map (new_declarations declared name_of types) (reverse (line types t)))
  names_entries_of types t = names_fold types (reverse (line types t)) []

module _ {D : Type 0} (declared : TypeDecl → List D) (name_of : D → List ℕ) where
  -- the new declarations of a type stand in file order after those of the types before it
  pub all_new_split : (types : List TypeDecl) (t : ℕ) → t < length types
      → all_new_declarations declared name_of types
      ≡ flat_map (new_declarations declared name_of types) (range_with_len 0 t)
      ++ (new_declarations declared name_of types t
      ++ flat_map (new_declarations declared name_of types)
      (range_with_len (0 + t + 1) (length types - t - 1)))
  all_new_split types t within =
      let new = new_declarations declared name_of types in
      let more = length types - t - 1 in
      let sum : length types ≡ t + suc more = omega arith in
      ap (λ n. flat_map new (range_with_len 0 n)) sum ∙ ap (flat_map new) (range_split 0 t more)
      ∙ flat_map-append new (range_with_len 0 t) ((0 + t) ∷ range_with_len (0 + t + 1) more)
      ∙ ap (λ k. flat_map new (range_with_len 0 t) ++ (new k ++ flat_map new (range_with_len (0 + t + 1) more)))
      (zero-add t)
