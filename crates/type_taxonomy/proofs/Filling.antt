-- Rows are filled, parents before the types under them.
use Rattle.std.proofs.Common.{◌≡◌, ◌≢◌, ℕ, ◌+◌, ◌<◌, ◌≤◌, ◌⊎◌, List, [], ◌++◌, length, map, get_or, set, inl, inr, sym, ap, ◌∙◌, refl, Option, Some, None, IfSome, slice_get, arith, rules, zero-add}
use Rattle.std.specs.List.{All}
use Rattle.std.specs.Option.{option_map_or}
use Rattle.std.proofs.lemmas.Bool.{cases_eq}
use Rattle.std.proofs.lemmas.List.{length-map, get_or-map, get_or-set_same, get_or-set_other}
use Rattle.std.proofs.lemmas.List.FromFn.{fill_by_all, get_or-map-range_with_len}
use Rattle.std.proofs.Math.ListN.{length-set}
use Rattle.prod_model.specs.declared.model.TypeDecl.{TypeDecl}
use Rattle.prod_model.specs.Forest.{line, type_numbers}
use Rattle.prod_model.proofs.Ancestors.{length_line_parent}
use Rattle.type_taxonomy.specs.declared.entry.Entry.{Entry}
use Rattle.type_taxonomy.specs.steps.Entries.{named, narrowed_by, new_of, placed_of}
use Rattle.type_taxonomy.specs.steps.TypeForest.{IsForest, HasRows}
use Rattle.type_taxonomy.proofs.RowLaws.{placed_of_step}
use Rattle.type_taxonomy.proofs.Items.{length_table}

-- the types whose lines are shorter, and those of this length before this type
abbrev pub IsFilled : List TypeDecl → ℕ → ℕ → ℕ → Type 0
IsFilled types members t u = (length (line types u) < members) ⊎ ((length (line types u) ≡ members) × (u < t))

filled_before : (types : List TypeDecl) (members t u : ℕ) → length (line types t) ≢ members → IsFilled types members (t + 1) u → (u ≡ t) ⊎ (u ≡ t → ⊥) → IsFilled types members t u
filled_before types members t u other (inl shorter) which = inl shorter
filled_before types members t u other (inr same) (inl this) = absurd (other (ap (λ k. length (line types k)) (sym this) ∙ same.0))
filled_before types members t u other (inr same) (inr before) = inr (same.0, omega (arith, same.1, before))

module _ {D : Type 0} (declared : TypeDecl → List D) (name_of : D → List ℕ) where
  inherited_done : (types : List TypeDecl) (IsDone : ℕ → Type 0) (rows : List (List (Entry D))) (parent : Option ℕ) → HasRows declared name_of types IsDone rows
      → ((p : ℕ) → parent ≡ Some p → (p < length types) × IsDone p)
      → option_map_or (λ p. map (named name_of) (get_or rows p [])) parent [] ≡ option_map_or (placed_of declared name_of types) parent []
  inherited_done types IsDone rows None filled parent_done = refl
  inherited_done types IsDone rows (Some p) filled parent_done = filled.done p (parent_done p refl).0 (parent_done p refl).1

  -- the row that is made for a type is what the type has
  pub row_done : (types : List TypeDecl) (members t : ℕ) (d : TypeDecl) (rows : List (List (Entry D))) (row new : List (Entry D)) → IsForest types
      → HasRows declared name_of types (IsFilled types members t) rows → t < length types → slice_get types t ≡ Some d → length (line types t) ≡ members
      → map (named name_of) new ≡ new_of declared name_of types t
      → map (named name_of) row ≡ narrowed_by declared name_of (declared d) (option_map_or (λ p. map (named name_of) (get_or rows p [])) d.parent []) ++ map (named name_of) new
      → map (named name_of) row ≡ placed_of declared name_of types t
  row_done types members t d rows row new forest filled within is_type is_length is_new is_row =
      let parent_done : (p : ℕ) → d.parent ≡ Some p → (p < length types) × IsFilled types members t p =
      λ p is_parent. (forest.known t p d is_type is_parent, inl (omega (arith, length_line_parent types forest.no_cycle t p (record { decl = d; stands = is_type; parent = is_parent })))) in
      is_row
      ∙ ap (λ above. narrowed_by declared name_of (declared d) above ++ map (named name_of) new) (inherited_done types (IsFilled types members t) rows d.parent filled parent_done)
      ∙ ap (λ last. narrowed_by declared name_of (declared d) (option_map_or (placed_of declared name_of types) d.parent []) ++ last) is_new
      ∙ sym (placed_of_step declared name_of types t d forest is_type)

  done_after : (types : List TypeDecl) (members t u : ℕ) (rows : List (List (Entry D))) (row : List (Entry D)) → HasRows declared name_of types (IsFilled types members t) rows
      → t < length types → map (named name_of) row ≡ placed_of declared name_of types t → u < length types → IsFilled types members (t + 1) u → (u ≡ t) ⊎ (u ≡ t → ⊥)
      → map (named name_of) (get_or (set rows t row) u []) ≡ placed_of declared name_of types u
  done_after types members t u rows row filled within is_row below is_filled (inl same) =
      rw same (ap (map (named name_of)) (get_or-set_same rows t row [] (omega (arith, filled.each))) ∙ is_row)
  done_after types members t u rows row filled within is_row below is_filled (inr other) =
      let before : IsFilled types members t u = elim is_filled [ inl shorter ↦ inl shorter | inr same ↦ inr (same.0, omega (arith, same.1, other)) ] in
      ap (map (named name_of)) (get_or-set_other rows t u row [] other) ∙ filled.done u below before

  -- one row more is filled
  pub fill_more : (types : List TypeDecl) (members t : ℕ) (rows : List (List (Entry D))) (row : List (Entry D)) → HasRows declared name_of types (IsFilled types members t) rows
      → t < length types → map (named name_of) row ≡ placed_of declared name_of types t → HasRows declared name_of types (IsFilled types members (t + 1)) (set rows t row)
  fill_more types members t rows row filled within is_row = record {
    each = length-set rows t row ∙ filled.each;
    done = λ u below is_filled. done_after types members t u rows row filled within is_row below is_filled (cases_eq u t);
  }

  -- and a type whose line has another length is passed over
  pub fill_past : (types : List TypeDecl) (members t : ℕ) (rows : List (List (Entry D))) → HasRows declared name_of types (IsFilled types members t) rows
      → length (line types t) ≢ members → HasRows declared name_of types (IsFilled types members (t + 1)) rows
  fill_past types members t rows filled other = record {
    each = filled.each;
    done = λ u below is_filled. filled.done u below (filled_before types members t u other is_filled (cases_eq u t));
  }

-- A parent has a row.
pub parent_within : (types : List TypeDecl) (t n : ℕ) (d : TypeDecl) (parent : Option ℕ) → IsForest types → slice_get types t ≡ Some d → d.parent ≡ parent → n ≡ length types
    → IfSome parent (λ p. p < n)
parent_within types t n d None forest is_type is_parent size = search rules
parent_within types t n d (Some p) forest is_type is_parent size = omega (arith, forest.known t p d is_type is_parent)

-- No line is longer than the longest.
pub lines_within : (types : List TypeDecl) (lines : List (List ℕ)) (depth : ℕ) → lines ≡ map (line types) (type_numbers types) → All (λ l. length l ≤ depth) lines
    → (t : ℕ) → t < length types → length (line types t) ≤ depth
lines_within types lines depth are within t is_type =
    let size : length lines ≡ length types = length_table (line types) lines (length types) are in
    let same : get_or lines t [] ≡ line types t = ap (λ l. get_or l t []) are ∙ get_or-map-range_with_len (line types) 0 (length types) t t [] is_type (zero-add t) in
    omega (arith, ap length same, within t [] (omega arith))

-- Once the lines of every length are gone over, each type has its row.
pub all_filled : {D : Type 0} (declared : TypeDecl → List D) (name_of : D → List ℕ) (types : List TypeDecl) (rows : List (List (Entry D))) (depth : ℕ)
    → ((t : ℕ) → t < length types → length (line types t) ≤ depth) → HasRows declared name_of types (λ t. length (line types t) < depth + 1) rows
    → map (map (named name_of)) rows ≡ map (placed_of declared name_of types) (type_numbers types)
all_filled declared name_of types rows depth within filled =
    fill_by_all (placed_of declared name_of types) (map (map (named name_of)) rows) (length types) [] (length-map rows (map (named name_of)) ∙ filled.each)
    (λ t is_type. get_or-map (map (named name_of)) rows t [] [] (omega (arith, filled.each)) ∙ filled.done t is_type (omega (arith, within t is_type)))
