-- The entries of a type: from its parent's, and no name twice among them.
use Rattle.std.proofs.Common.{◌≡◌, ℕ, Bool, true, false, not, ◌||◌, List, [], ◌∷◌, ◌++◌, map, drop, refl, sym, ap, ◌∙◌, subst, arith}
use Rattle.std.specs.Prelude.{IsTrue}
use Rattle.std.specs.List.{list_any, list_all, filter, flat_map}
use Rattle.std.proofs.lemmas.Bool.{false≢true, and_parts, and_from, or_left}
use Rattle.std.proofs.lemmas.List.Folds.{list_any-append, list_all-append}
use lib.Pointwise.{bytes_decides}
use Rattle.prod_model.specs.declared.model.TypeDecl.{TypeDecl}
use Rattle.prod_model.specs.Names.{same_text, is_distinct}
use Rattle.prod_model.specs.Forest.{line}
use Rattle.prod_model.specs.Taxonomy.{Named, declarations_of, new_declarations, extended_entries, entries_of}
use Rattle.prod_model.proofs.NameLaws.{same_text_refl}
use Rattle.prod_model.proofs.ForestLines.{HasNoCycle, HasParent, line_parent}
use Rattle.prod_model.proofs.EntryLaws as Entries
use Rattle.prod_model.proofs.LineLaws.{no_type, alone, below, line_of, along_lines}

-- ---- names

-- texts that pass the test are equal
pub same_text_same : (n k : List ℕ) → IsTrue (same_text n k) → n ≡ k
same_text_same n k same = (bytes_decides n k).0 same

-- a name that passes a test is none of those that do not
apart_from : (p : List ℕ → Bool) (n : List ℕ) (ks : List (List ℕ)) → p n ≡ true → list_all (λ k. not (p k)) ks ≡ true → list_any (same_text n) ks ≡ false
apart_from p n [] is each = refl
apart_from p n (k ∷ ks) is each = by (same_text n k) refl (apart_from p n ks is (and_parts _ _ each).1)
  where
    by : (b : Bool) → same_text n k ≡ b → list_any (same_text n) ks ≡ false → (b || list_any (same_text n) ks) ≡ false
    by true same rest = absurd (false≢true (sym (ap not (ap p (sym (same_text_same n k same)) ∙ is)) ∙ (and_parts _ _ each).0))
    by false other rest = rest

-- names that pass a test, none twice, and names that do not, none twice: no name stands twice among them all
distinct_joined : (p : List ℕ → Bool) (ns ks : List (List ℕ)) → IsTrue (is_distinct ns) → IsTrue (is_distinct ks)
    → list_all p ns ≡ true → list_all (λ k. not (p k)) ks ≡ true → IsTrue (is_distinct (ns ++ ks))
distinct_joined p [] ks first second passes fails = second
distinct_joined p (n ∷ ns) ks first second passes fails =
    let own = and_parts (not (list_any (same_text n) ns)) (is_distinct ns) first in
    let each = and_parts (p n) (list_all p ns) passes in
    let rest = distinct_joined p ns ks own.1 second each.1 fails in
    let apart = apart_from p n ks each.0 fails in
    let both = list_any-append (same_text n) ns ks in
    grind (arith)

module _ {D : Type 0} (name_of : D → List ℕ) where
  -- a name that none of the declarations has, none of some of them has
  other_filter : (n : List ℕ) (p : D → Bool) (ds : List D) → list_any (same_text n) (map name_of ds) ≡ false → list_any (same_text n) (map name_of (filter p ds)) ≡ false
  other_filter n p [] other = refl
  other_filter n p (d ∷ ds) other = let rest = other_filter n p ds in grind (arith)

  -- some of the declarations of different names have different names
  distinct_filter : (p : D → Bool) (ds : List D) → IsTrue (is_distinct (map name_of ds)) → IsTrue (is_distinct (map name_of (filter p ds)))
  distinct_filter p [] distinct = refl
  distinct_filter p (d ∷ ds) distinct = let rest = distinct_filter p ds in let other = other_filter (name_of d) p ds in grind (arith)

  -- what is kept by a test of names passes it
  filter_passes : (p : List ℕ → Bool) (ds : List D) → list_all p (map name_of (filter (λ d. p (name_of d)) ds)) ≡ true
  filter_passes p [] = refl
  filter_passes p (d ∷ ds) = let rest = filter_passes p ds in grind (arith)

  -- each of some of the declarations has the name of one of them
  filter_named : (p : D → Bool) (ds all : List D) → list_all (λ n. list_any (λ e. same_text n (name_of e)) all) (map name_of ds) ≡ true
      → list_all (λ n. list_any (λ e. same_text n (name_of e)) all) (map name_of (filter p ds)) ≡ true
  filter_named p [] all each = refl
  filter_named p (d ∷ ds) all each = let rest = filter_named p ds all in grind (arith)

-- names of which each is the name of a declaration, after one declaration more
named_more : {D : Type 0} (name_of : D → List ℕ) (more all : List D) (ns : List (List ℕ)) → list_all (λ n. list_any (λ e. same_text n (name_of e)) all) ns ≡ true
    → list_all (λ n. list_any (λ e. same_text n (name_of e)) (more ++ all)) ns ≡ true
named_more name_of more all [] each = refl
named_more name_of more all (n ∷ ns) each =
    let rest = named_more name_of more all ns in
    let here = list_any-append (λ e. same_text n (name_of e)) more all in
    grind (arith)

-- and before declarations more
named_front : {D : Type 0} (name_of : D → List ℕ) (all more : List D) (ns : List (List ℕ)) → list_all (λ n. list_any (λ e. same_text n (name_of e)) all) ns ≡ true
    → list_all (λ n. list_any (λ e. same_text n (name_of e)) (all ++ more)) ns ≡ true
named_front name_of all more [] each = refl
named_front name_of all more (n ∷ ns) each =
    let rest = named_front name_of all more ns in
    let here = list_any-append (λ e. same_text n (name_of e)) all more in
    grind (arith)

-- ---- entries

-- the name is that of a declaration of one of the types
abbrev pub is_declared : {D : Type 0} → (TypeDecl → List D) → (D → List ℕ) → List TypeDecl → List ℕ → List ℕ → Bool
is_declared declared name_of types us n = list_any (λ e. same_text n (name_of e)) (flat_map (declarations_of declared name_of types) us)

-- the names are those of declarations of these types, and none stands twice
pub record AreNamed {D : Type 0} (declared : TypeDecl → List D) (name_of : D → List ℕ) (types : List TypeDecl) (us : List ℕ) (ns : List (List ℕ)) : Type 0 where
  pub named : IsTrue (list_all (is_declared declared name_of types us) ns)
  pub distinct : IsTrue (is_distinct ns)

module _ {D A : Type 0} (declared : TypeDecl → List D) (name_of : D → List ℕ) (made : ℕ → D → A) (narrowed : D → A → A) (types : List TypeDecl) where
  -- what a line gives, from its last type to its first
  abbrev entries_along : List ℕ → List (Named A)
  entries_along us = Entries.entries_along declared name_of made narrowed types us

  -- a type more in front extends them
  entries_cons : (u : ℕ) (us : List ℕ) → entries_along (u ∷ us) ≡ extended_entries declared name_of made narrowed types (entries_along us) u
  entries_cons u us = Entries.entries_along_cons declared name_of made narrowed types u us

  -- what a type has is what its parent has, extended
  pub entries_parent : HasNoCycle types → (t p : ℕ) → HasParent types t p
      → entries_of declared name_of made narrowed types t ≡ extended_entries declared name_of made narrowed types (entries_of declared name_of made narrowed types p) t
  entries_parent forest t p above = ap entries_along (line_parent types forest t p above) ∙ entries_cons t (line types p)

  -- each declaration of a type has the name of one
  declared_itself : (ds : List D) → list_all (λ n. list_any (λ e. same_text n (name_of e)) ds) (map name_of ds) ≡ true
  declared_itself [] = refl
  declared_itself (d ∷ ds) =
      let self = same_text_refl (name_of d) in
      let rest = named_more name_of (d ∷ []) ds (map name_of ds) (declared_itself ds) in
      and_from _ _ (or_left _ _ self) rest

  -- entries of different names along a line, and those that a type below it adds
  names_more : (u : ℕ) (us : List ℕ) → IsTrue (is_distinct (map name_of (declarations_of declared name_of types u))) → line types u ≡ u ∷ us
      → AreNamed declared name_of types us (map (λ e. e.name) (entries_along us)) → AreNamed declared name_of types (u ∷ us) (map (λ e. e.name) (entries_along (u ∷ us)))
  names_more u us own is before =
      let ds = declarations_of declared name_of types u in
      let p = is_declared declared name_of types us in
      let new = filter (λ d. not (p (name_of d))) ds in
      let is_new : new_declarations declared name_of types u ≡ new =
      ap (λ l. filter (λ d. not (is_declared declared name_of types (drop 1 l) (name_of d))) ds) is in
      let names : map (λ e. e.name) (entries_along (u ∷ us)) ≡ map (λ e. e.name) (entries_along us) ++ map name_of new =
      ap (map (λ e. e.name)) (entries_cons u us) ∙ Entries.names_extended declared name_of made narrowed types (entries_along us) u
      ∙ ap (λ l. map (λ e. e.name) (entries_along us) ++ map name_of l) is_new in
      let old = map (λ (e : Named A). e.name) (entries_along us) in
      let all = flat_map (declarations_of declared name_of types) us in
      let named : IsTrue (list_all (is_declared declared name_of types (u ∷ us)) (old ++ map name_of new)) =
      list_all-append (is_declared declared name_of types (u ∷ us)) old (map name_of new)
      ∙ and_from _ _ (named_more name_of ds all old before.named)
      (filter_named name_of (λ d. not (p (name_of d))) ds (ds ++ all) (named_front name_of ds all (map name_of ds) (declared_itself ds))) in
      let distinct : IsTrue (is_distinct (old ++ map name_of new)) =
      distinct_joined p old (map name_of new) before.distinct (distinct_filter name_of (λ d. not (p (name_of d))) ds own) before.named
      (filter_passes name_of (λ n. not (p n)) ds) in
      subst (AreNamed declared name_of types (u ∷ us)) (sym names) (record { named = named; distinct = distinct })

  -- In a forest where no type declares a name twice, no name stands twice among a type's entries.
  pub names_distinct : HasNoCycle types → ((u : ℕ) → IsTrue (is_distinct (map name_of (declarations_of declared name_of types u)))) → (t : ℕ)
      → IsTrue (is_distinct (map (λ e. e.name) (entries_of declared name_of made narrowed types t)))
  names_distinct forest own t = (along_lines types forest (λ t. Good (line types t)) (λ t each.
      elim (line_of types forest t) [
        | no_type is ↦ subst Good (sym is) nothing
        | alone is ↦ subst Good (sym is) (names_more t [] (own t) is nothing)
        | below p above is ↦ subst Good (sym is) (names_more t (line types p) (own t) is (each p above))
      ]) t).distinct
    where
      Good : List ℕ → Type 0
      Good us = AreNamed declared name_of types us (map (λ e. e.name) (entries_along us))

      nothing : Good []
      nothing = record { named = refl; distinct = refl }
