-- Along a line of types, the first declarations of names are those that are new in their types.
use Rattle.std.proofs.Common.{◌≡◌, ℕ, zero, suc, Bool, true, false, not, ◌||◌, List, [], ◌∷◌, ◌++◌, map, reverse, refl, sym, ap, ◌∙◌, append_assoc, append-nil, subst, arith}
use Rattle.std.specs.Prelude.{IsTrue, if◌then◌else◌}
use Rattle.std.specs.List.{list_any, list_all, filter, flat_map, fold}
use Rattle.std.proofs.lemmas.Cmp.{nat_list_eq_equiv}
use Rattle.std.proofs.lemmas.List.{reverse-append, map-append}
use Rattle.std.proofs.lemmas.List.Folds.{list_any-append}
use Rattle.std.proofs.lemmas.Grind.{flat_map-append, fold-append}
use Rattle.base_laws.proofs.Lists.{filter_same, list_any_flat_map_reverse}
use Rattle.base_laws.proofs.Tests.{list_any_map}
use Rattle.prod_model.specs.declared.model.TypeDecl.{TypeDecl}
use Rattle.prod_model.specs.Names.{same_text, is_distinct}
use Rattle.prod_model.specs.Forest.{ancestors}
use Rattle.prod_model.specs.Taxonomy.{declarations_of, new_declarations}
use Rattle.prod_model.proofs.NameLaws.{same_text_symm}
use Rattle.prod_model.proofs.ForestLines.{IsLine}
use Rattle.file_meaning.specs.steps.FirstDeclared.{with_new as with_new_name, names_of}

module _ {D : Type 0} (name_of : D → List ℕ) where
  -- with one more declaration, unless there is one of its name
  abbrev pub with_new : List D → D → List D
  with_new firsts d = if list_any (λ e. same_text (name_of d) (name_of e)) firsts then firsts else firsts ++ d ∷ []

  -- those whose name none before has
  abbrev pub firsts_of : List D → List D
  firsts_of declarations = fold with_new [] declarations

  -- one of the declarations has the name of d
  abbrev pub is_named : List D → D → Bool
  is_named ds d = list_any (λ e. same_text (name_of d) (name_of e)) ds

  -- declarations of one name are in the same lists
  is_named_same : (ds : List D) (d e : D) → same_text (name_of d) (name_of e) ≡ true → is_named ds d ≡ is_named ds e
  is_named_same [] d e same = refl
  is_named_same (x ∷ xs) d e same =
      let rest = is_named_same xs d e same in let here = nat_list_eq_equiv.congr (name_of d) (name_of e) (name_of x) same in cc

  is_named_with_new : (firsts : List D) (a d : D) → is_named (with_new firsts a) d ≡ (is_named firsts d || same_text (name_of d) (name_of a))
  is_named_with_new firsts a d =
      let more = list_any-append (λ e. same_text (name_of d) (name_of e)) firsts (a ∷ []) in
      let same = is_named_same firsts d a in
      grind (arith)

  -- the first declarations have the names of all
  is_named_fold : (firsts ds : List D) (d : D) → is_named (fold with_new firsts ds) d ≡ (is_named firsts d || is_named ds d)
  is_named_fold firsts [] d = grind (arith)
  is_named_fold firsts (a ∷ ds) d = grind (arith, is_named_fold (with_new firsts a) ds d, is_named_with_new firsts a d)

  -- a declaration of another name tells nothing of these
  filter_other : (firsts : List D) (d : D) (ds : List D) → list_any (same_text (name_of d)) (map name_of ds) ≡ false
      → filter (λ x. not (is_named (firsts ++ d ∷ []) x)) ds ≡ filter (λ x. not (is_named firsts x)) ds
  filter_other firsts d [] other = refl
  filter_other firsts d (x ∷ xs) other =
      let more = list_any-append (λ e. same_text (name_of x) (name_of e)) firsts (d ∷ []) in
      let swap = same_text_symm (name_of d) (name_of x) in
      let rest = filter_other firsts d xs in
      grind (arith)

  -- of declarations of different names, those are kept whose names are new
  fold_distinct : (firsts ds : List D) → IsTrue (is_distinct (map name_of ds))
      → fold with_new firsts ds ≡ firsts ++ filter (λ d. not (is_named firsts d)) ds
  fold_distinct firsts [] distinct = sym (append-nil firsts)
  fold_distinct firsts (d ∷ ds) distinct =
      let kept = fold_distinct firsts ds in
      let added = fold_distinct (firsts ++ d ∷ []) ds in
      let other = filter_other firsts d ds in
      let assoc = append_assoc firsts (d ∷ []) (filter (λ x. not (is_named firsts x)) ds) in
      grind (arith)

  -- of declarations the names are kept as the declarations are
  name_kept : (firsts : List D) (d : D) (b : Bool) → map name_of (if b then firsts else firsts ++ d ∷ []) ≡ (if b then map name_of firsts else map name_of firsts ++ name_of d ∷ [])
  name_kept firsts d true = refl
  name_kept firsts d false = map-append name_of firsts (d ∷ [])

  names_with_new : (firsts : List D) (d : D) → map name_of (with_new firsts d) ≡ with_new_name (map name_of firsts) (name_of d)
  names_with_new firsts d =
      name_kept firsts d (list_any (λ e. same_text (name_of d) (name_of e)) firsts)
      ∙ ap (λ b. if b then map name_of firsts else map name_of firsts ++ name_of d ∷ []) (sym (list_any_map (same_text (name_of d)) name_of firsts))

  pub names_fold : (firsts ds : List D) → map name_of (fold with_new firsts ds) ≡ fold with_new_name (map name_of firsts) (map name_of ds)
  names_fold firsts [] = refl
  names_fold firsts (d ∷ ds) =
      names_fold (with_new firsts d) ds ∙ ap (λ names. fold with_new_name names (map name_of ds)) (names_with_new firsts d)

module _ {D : Type 0} (declared : TypeDecl → List D) (name_of : D → List ℕ) where
  -- no type declares a name twice
  abbrev pub HasDistinct : List TypeDecl → Type 0
  HasDistinct types = IsTrue (list_all (λ kind. is_distinct (map name_of (declared kind))) types)

  distinct_declarations : (types : List TypeDecl) (t : ℕ) → HasDistinct types → IsTrue (is_distinct (map name_of (declarations_of declared name_of types t)))
  distinct_declarations [] t distinct = refl
  distinct_declarations (d ∷ ds) zero distinct = grind (arith)
  distinct_declarations (d ∷ ds) (suc t) distinct = distinct_declarations ds t (grind (arith))

  -- of the declarations of a type, those are new that none of its ancestors declares
  new_of_line : (types : List TypeDecl) (t : ℕ) (us : List ℕ) → ancestors types t ≡ us
      → filter (λ d. not (is_named name_of (firsts_of name_of (flat_map (declarations_of declared name_of types) (reverse us))) d)) (declarations_of declared name_of types t)
      ≡ new_declarations declared name_of types t
  new_of_line types t us above =
      let decls = declarations_of declared name_of types in
      filter_same _ _ (λ d.
      ap not (is_named_fold name_of [] (flat_map decls (reverse us)) d
      ∙ list_any_flat_map_reverse (λ e. same_text (name_of d) (name_of e)) decls us
      ∙ ap (λ vs. is_named name_of (flat_map decls vs) d) (sym above))) (decls t)

  pub firsts_of_line : (types : List TypeDecl) (us : List ℕ) → HasDistinct types → IsLine types us
      → firsts_of name_of (flat_map (declarations_of declared name_of types) (reverse us)) ≡ flat_map (new_declarations declared name_of types) (reverse us)
  firsts_of_line types [] distinct line = refl
  firsts_of_line types (u ∷ us) distinct line =
      let decls = declarations_of declared name_of types in
      let news = new_declarations declared name_of types in
      let turned = reverse-append (u ∷ []) us in
      let before = flat_map decls (reverse us) in
      ap (λ vs. firsts_of name_of (flat_map decls vs)) turned
      ∙ ap (firsts_of name_of) (flat_map-append decls (reverse us) (u ∷ []) ∙ ap (λ ds. before ++ ds) (append-nil (decls u)))
      ∙ fold-append (with_new name_of) [] before (decls u)
      ∙ fold_distinct name_of (firsts_of name_of before) (decls u) (distinct_declarations types u distinct)
      ∙ ap (λ ds. firsts_of name_of before ++ ds) (new_of_line types u us line.0)
      ∙ ap (λ ds. ds ++ news u) (firsts_of_line types us distinct line.1)
      ∙ ap (λ ds. flat_map news (reverse us) ++ ds) (sym (append-nil (news u)))
      ∙ sym (flat_map-append news (reverse us) (u ∷ []))
      ∙ ap (flat_map news) (sym turned)

  -- the names of a list of types are those of their declarations
  names_of_all : (types : List TypeDecl) (us : List ℕ) → flat_map (names_of declared name_of types) us ≡ map name_of (flat_map (declarations_of declared name_of types) us)
  names_of_all types [] = refl
  names_of_all types (u ∷ us) =
      ap (λ names. names_of declared name_of types u ++ names) (names_of_all types us)
      ∙ sym (map-append name_of (declarations_of declared name_of types u) (flat_map (declarations_of declared name_of types) us))

  -- along a line of types, the first names are those of the declarations that are new in their types
  pub names_of_line : (types : List TypeDecl) (us : List ℕ) → HasDistinct types → IsLine types us
      → fold with_new_name [] (flat_map (names_of declared name_of types) (reverse us)) ≡ map name_of (flat_map (new_declarations declared name_of types) (reverse us))
  names_of_line types us distinct line =
      ap (fold with_new_name []) (names_of_all types (reverse us))
      ∙ sym (names_fold name_of [] (flat_map (declarations_of declared name_of types) (reverse us)))
      ∙ ap (map name_of) (firsts_of_line types us distinct line)

-- names of which none stands twice are kept as they are
same_of : (names : List (List ℕ)) → filter (λ n. not (is_named (λ x. x) [] n)) names ≡ names
same_of [] = refl
same_of (n ∷ ns) = ap (λ rest. n ∷ rest) (same_of ns)

same_names : (names : List (List ℕ)) → map (λ n. n) names ≡ names
same_names [] = refl
same_names (n ∷ ns) = ap (λ rest. n ∷ rest) (same_names ns)

pub distinct_names : (names : List (List ℕ)) → IsTrue (is_distinct names) → fold with_new_name [] names ≡ names
distinct_names names distinct =
    fold_distinct (λ n. n) [] names (subst (λ ns. IsTrue (is_distinct ns)) (sym (same_names names)) distinct) ∙ same_of names
