-- New declarations under their ids.
use Rattle.std.proofs.Common.{◌≡◌, ℕ, ◌+◌, ◌<◌, ◌≤◌, suc, Bool, true, false, cond, List, [], ◌∷◌, ◌++◌, length, get_or, take, map, sum_by, sym, ap, ◌∙◌, refl, arith, append-nil, add-zero, zero-add, slice_get, Some, drop}
use Rattle.std.specs.Option.{option_map_or}
use Rattle.std.specs.List.{filter}
use Rattle.std.proofs.lemmas.List.{map-append, length-map}
use Rattle.prod_model.specs.declared.model.TypeDecl.{TypeDecl}
use Rattle.prod_model.specs.Forest.{line}
use Rattle.prod_model.specs.Taxonomy.{first_id, new_declarations}
use Rattle.type_taxonomy.specs.declared.entry.Entry.{Entry}
use Rattle.type_taxonomy.specs.steps.Entries.{named, is_new_among, numbered}
use Rattle.type_taxonomy.proofs.Items.{filter_next, sum_by_range_more, length_filter_le, sum_by_next_lt}

module _ {D : Type 0} (declared : TypeDecl → List D) (name_of : D → List ℕ) where
  pub length_numbered : (id : ℕ) (ds : List D) → length (numbered declared name_of id ds) ≡ length ds
  length_numbered id [] = refl
  length_numbered id (d ∷ ds) = ap suc (length_numbered (id + 1) ds)

  -- the last of them has the last id
  pub numbered_push : (id : ℕ) (ds : List D) (d : D)
      → numbered declared name_of id (ds ++ d ∷ []) ≡ numbered declared name_of id ds ++ record { name = name_of d; what = (id + length ds, d) } ∷ []
  numbered_push id [] d = ap (λ k. record { name = name_of d; what = (k, d) } ∷ []) (sym (add-zero id))
  numbered_push id (e ∷ ds) d =
      let same : (id + 1) + length ds ≡ id + suc (length ds) = omega arith in
      ap (λ l. record { name = name_of e; what = (id, e) } ∷ l)
      (numbered_push (id + 1) ds d ∙ ap (λ k. numbered declared name_of (id + 1) ds ++ record { name = name_of d; what = (k, d) } ∷ []) same)

  -- a declaration that is new goes to the end of the row
  pub numbered_more : (first : ℕ) (p : D → Bool) (ds : List D) (i : ℕ) (row after : List (Entry D)) (e : Entry D) → i < length ds
      → e.declared.now ≡ get_or ds i e.declared.now → p e.declared.now ≡ true → e.id ≡ first + length row
      → map (named name_of) row ≡ numbered declared name_of first (filter p (take i ds)) → after ≡ row ++ e ∷ []
      → map (named name_of) after ≡ numbered declared name_of first (filter p (take (i + 1) ds))
  numbered_more first p ds i row after e within is passes is_id so_far pushed =
      let d = e.declared.now in
      let kept = filter p (take i ds) in
      let size : length row ≡ length kept = sym (length-map row (named name_of)) ∙ ap length so_far ∙ length_numbered first kept in
      let more : filter p (take (i + 1) ds) ≡ kept ++ d ∷ [] = filter_next p ds i d within is ∙ ap (λ b. kept ++ cond b (d ∷ []) []) passes in
      ap (map (named name_of)) pushed ∙ map-append (named name_of) row (e ∷ [])
      ∙ ap (λ l. l ++ named name_of e ∷ []) so_far
      ∙ ap (λ k. numbered declared name_of first kept ++ record { name = name_of d; what = (k, d) } ∷ []) (is_id ∙ ap (λ k. first + k) size)
      ∙ sym (numbered_push first kept d) ∙ ap (numbered declared name_of first) (sym more)

  -- and one that is not new is passed over
  pub numbered_same : (first : ℕ) (p : D → Bool) (ds : List D) (i : ℕ) (row : List (Entry D)) (d : D) → i < length ds → d ≡ get_or ds i d → p d ≡ false
      → map (named name_of) row ≡ numbered declared name_of first (filter p (take i ds))
      → map (named name_of) row ≡ numbered declared name_of first (filter p (take (i + 1) ds))
  numbered_same first p ds i row d within is fails so_far =
      let kept = filter p (take i ds) in
      let same : filter p (take (i + 1) ds) ≡ kept = filter_next p ds i d within is ∙ ap (λ b. kept ++ cond b (d ∷ []) []) fails ∙ append-nil kept in
      so_far ∙ ap (numbered declared name_of first) (sym same)

  -- what is new in a type, from the type and its line
  pub new_of_type : (types : List TypeDecl) (t : ℕ) (d : TypeDecl) (members : List ℕ) → slice_get types t ≡ Some d → members ≡ line types t
      → filter (is_new_among declared name_of types (drop 1 members)) (declared d) ≡ new_declarations declared name_of types t
  new_of_type types t d members is_type is_line =
      ap (λ l. filter (is_new_among declared name_of types (drop 1 l)) (declared d)) is_line
      ∙ ap (λ o. filter (is_new_among declared name_of types (drop 1 (line types t))) (option_map_or declared o [])) (sym is_type)

  -- a row of what is new has as many entries, and no more than there are declarations
  pub length_new : (first : ℕ) (ds : List D) (row : List (Entry D)) → map (named name_of) row ≡ numbered declared name_of first ds → length row ≡ length ds
  length_new first ds row is = sym (length-map row (named name_of)) ∙ ap length is ∙ length_numbered first ds

  pub length_new_le : (first : ℕ) (p : D → Bool) (ds : List D) (row : List (Entry D)) (size : ℕ) → size ≡ length row
      → map (named name_of) row ≡ numbered declared name_of first (filter p ds) → size ≤ length ds
  length_new_le first p ds row size is_size is = omega (arith, length_new first (filter p ds) row is, length_filter_le p ds)

  -- the first id of the next type is within a limit of the declarations
  pub next_id_lt : (types : List TypeDecl) (t next most : ℕ) (d : TypeDecl) (p : D → Bool) (row : List (Entry D)) (size : ℕ) → t < length types → d ≡ get_or types t d
      → next ≤ sum_by (λ e. length (declared e)) (take t types) → sum_by (λ e. length (declared e)) types < most → size ≡ length row
      → map (named name_of) row ≡ numbered declared name_of next (filter p (declared d)) → next + size < most
  next_id_lt types t next most d p row size within is so_far all is_size is_row =
      omega (arith, sum_by_next_lt (λ e. length (declared e)) types t next most d within is so_far all, length_new_le next p (declared d) row size is_size is_row)

  -- the ids of the next type begin after those of this one
  pub first_id_more : (types : List TypeDecl) (t next size : ℕ) → next ≡ first_id declared name_of types t → size ≡ length (new_declarations declared name_of types t)
      → next + size ≡ first_id declared name_of types (t + 1)
  first_id_more types t next size is_next is_size =
      let each = λ (u : ℕ). length (new_declarations declared name_of types u) in
      ap (λ k. k + size) is_next ∙ ap (λ k. first_id declared name_of types t + k) (is_size ∙ ap each (sym (zero-add t))) ∙ sym (sum_by_range_more each 0 t)
