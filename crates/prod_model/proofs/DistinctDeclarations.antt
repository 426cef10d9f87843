-- Where a type has no name twice, none is both that of an attribute and that of a port.
use Rattle.std.proofs.Common.{◌≡◌, ℕ, Bool, true, false, cond, not, IsTrue, List, [], ◌∷◌, ◌++◌, map, sym, ap, ◌∙◌, refl, Option, Some, None, is_some}
use Rattle.std.specs.Prelude.{slice_get}
use Rattle.std.specs.List.{find, list_any}
use Rattle.std.specs.Cmp.Lexicographic.{same_text as text_of_same}
use Rattle.std.proofs.lemmas.Bool.{and_parts, or_parts, not-true}
use Rattle.std.proofs.lemmas.List.Folds.{list_any-append}
use Rattle.base_laws.proofs.Tests.{list_all_at}
use Rattle.prod_model.specs.declared.model.Model.{Model}
use Rattle.prod_model.specs.declared.model.TypeDecl.{TypeDecl}
use Rattle.prod_model.specs.Names.{same_text, is_distinct}
use Rattle.prod_model.specs.Valid.{has_distinct_names}
use Rattle.prod_model.proofs.NameLaws.{same_text_symm}

-- none of the declarations has the name
none_named : {E : Type 0} (name_of : E → List ℕ) (name : List ℕ) (es : List E)
    → list_any (same_text name) (map name_of es) ≡ false → find (λ e. same_text (name_of e) name) es ≡ None
none_named name_of name [] none = refl
none_named name_of name (e ∷ es) none =
    let parts = or_parts (same_text name (name_of e)) (list_any (same_text name) (map name_of es)) none in
    ap (λ b. cond b (Some e) (find (λ x. same_text (name_of x) name) es))
    (same_text_symm (name_of e) name ∙ parts.0) ∙ none_named name_of name es parts.1

module _ {D E : Type 0} (name_of : D → List ℕ) (other_name : E → List ℕ) where
  first_apart : (name : List ℕ) (d : D) (ds : List D) (es : List E) (b : Bool) → same_text (name_of d) name ≡ b
      → list_any (same_text (name_of d)) (map name_of ds ++ map other_name es) ≡ false
      → (is_some (find (λ x. same_text (name_of x) name) ds) ≡ true → find (λ e. same_text (other_name e) name) es ≡ None)
      → is_some (cond b (Some d) (find (λ x. same_text (name_of x) name) ds)) ≡ true
      → find (λ e. same_text (other_name e) name) es ≡ None
  first_apart name d ds es true same apart later some =
      let parts = or_parts (list_any (same_text (name_of d)) (map name_of ds))
      (list_any (same_text (name_of d)) (map other_name es))
      (sym (list_any-append (same_text (name_of d)) (map name_of ds) (map other_name es)) ∙ apart) in
      ap (λ n. find (λ e. same_text (other_name e) n) es) (sym (text_of_same (name_of d) name (sym same)))
      ∙ none_named other_name (name_of d) es parts.1
  first_apart name d ds es false same apart later some = later some

  -- a name of the first ones is none of the others
  apart : (name : List ℕ) (ds : List D) (es : List E) → is_distinct (map name_of ds ++ map other_name es) ≡ true
      → is_some (find (λ x. same_text (name_of x) name) ds) ≡ true
      → find (λ e. same_text (other_name e) name) es ≡ None
  apart name [] es distinct some = cc
  apart name (d ∷ ds) es distinct some =
      let others = map name_of ds ++ map other_name es in
      let parts = and_parts (not (list_any (same_text (name_of d)) others)) (is_distinct others) distinct in
      first_apart name d ds es (same_text (name_of d) name) refl
      (not-true (list_any (same_text (name_of d)) others) parts.0) (apart name ds es parts.1) some

-- and the other way round
turned : {D E : Type 0} (o : Option D) (p : Option E) → (is_some o ≡ true → p ≡ None) → is_some p ≡ true → o ≡ None
turned None p apart some = refl
turned (Some x) p apart some = let never = ap is_some (apart refl) in cc

module _ (m : Model) (distinct : IsTrue (has_distinct_names m)) where
  -- no name stands twice among the attributes and ports of one type
  pub distinct_each : (t : ℕ) (d : TypeDecl) → slice_get m.types t ≡ Some d
      → is_distinct (map (λ a. a.name) d.attributes ++ map (λ p. p.name) d.ports) ≡ true
  unfolding has_distinct_names
  distinct_each t d has = (and_parts _ _ (list_all_at _ m.types (and_parts _ _ distinct).1 t d has)).0

  -- the name of an attribute is no port's
  pub no_port : (t : ℕ) (d : TypeDecl) (name : List ℕ) → slice_get m.types t ≡ Some d
      → is_some (find (λ a. same_text a.name name) d.attributes) ≡ true
      → find (λ p. same_text p.name name) d.ports ≡ None
  no_port t d name has some =
      apart (λ a. a.name) (λ p. p.name) name d.attributes d.ports (distinct_each t d has) some

  -- the name of a port is no attribute's
  pub no_attribute : (t : ℕ) (d : TypeDecl) (name : List ℕ) → slice_get m.types t ≡ Some d
      → is_some (find (λ p. same_text p.name name) d.ports) ≡ true
      → find (λ a. same_text a.name name) d.attributes ≡ None
  no_attribute t d name has some =
      turned (find (λ a. same_text a.name name) d.attributes) (find (λ p. same_text p.name name) d.ports)
      (no_port t d name has) some
