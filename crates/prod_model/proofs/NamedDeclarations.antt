-- Declarations that are searched by name: of one type, and along a line of the forest.
use Rattle.std.proofs.Common.{◌≡◌, ℕ, Bool, true, false, cond, not, ◌||◌, List, [], ◌∷◌, sym, ap, ◌∙◌, refl, Option, Some, None, is_none}
use Rattle.std.specs.Prelude.{slice_get}
use Rattle.std.specs.Option.{option_map_or, option_or}
use Rattle.std.specs.List.{find, filter_map, cons_option, flat_map, list_any}
use Rattle.std.proofs.lemmas.Bool.{not-true, or_from}
use Rattle.std.proofs.lemmas.List.Folds.{list_any-append}
use Rattle.prod_model.specs.declared.model.TypeDecl.{TypeDecl}
use Rattle.prod_model.specs.Forest.{line}
use Rattle.prod_model.specs.Names.{same_text}
use Rattle.prod_model.specs.Taxonomy.{declarations_of}
use Rattle.prod_model.proofs.ForestLines.{HasNoCycle, line_of_parent}
use Rattle.prod_model.proofs.NameLaws.{same_text_symm}

-- ---- the types of a line

-- the types that have these numbers
abbrev pub types_along : List TypeDecl → List ℕ → List TypeDecl
types_along types line = filter_map (slice_get types) line

-- the types of a line are the type, and then those of its parent's line
pub types_of_parent : (types : List TypeDecl) → HasNoCycle types → (t : ℕ) (d : TypeDecl) → slice_get types t ≡ Some d
    → types_along types (line types t) ≡ d ∷ types_along types (option_map_or (line types) d.parent [])
types_of_parent types forest t d is_type =
    ap (types_along types) (line_of_parent types forest t d is_type)
    ∙ ap (λ o. cons_option o (types_along types (option_map_or (line types) d.parent []))) is_type

-- ---- what is found under a name

-- the first of these declarations that has the name
abbrev pub of_name : {D : Type 0} → (D → List ℕ) → List ℕ → List D → Option D
of_name name_of name ds = find (λ d. same_text (name_of d) name) ds

none_cons : {A : Type 0} (b any : Bool) (x : A) (rest : Option A) → is_none rest ≡ not any → is_none (cond b (Some x) rest) ≡ not (b || any)
none_cons true any x rest same = refl
none_cons false any x rest same = same

-- nothing is found exactly where none of the declarations has the name
pub none_found : {D : Type 0} (name_of : D → List ℕ) (ds : List D) (name : List ℕ)
    → is_none (of_name name_of name ds) ≡ not (list_any (λ d. same_text name (name_of d)) ds)
none_found name_of [] name = refl
none_found name_of (d ∷ ds) name =
    let rest = list_any (λ e. same_text name (name_of e)) ds in
    none_cons (same_text (name_of d) name) rest d (of_name name_of name ds) (none_found name_of ds name)
    ∙ ap (λ b. not (b || rest)) (same_text_symm (name_of d) name)

-- then none of them has it
pub undeclared : {D : Type 0} (name_of : D → List ℕ) (name : List ℕ) (ds : List D) → of_name name_of name ds ≡ None
    → list_any (λ d. same_text name (name_of d)) ds ≡ false
undeclared name_of name ds none = not-true _ (sym (none_found name_of ds name) ∙ ap is_none none)

-- of two of which the first found counts, none is found where neither is
pub or_none : {A : Type 0} (o p : Option A) → option_or o p ≡ None → (o ≡ None) × (p ≡ None)
or_none None p none = (refl, none)
or_none (Some x) p none = cc

module _ {D : Type 0} (declared : TypeDecl → List D) (name_of : D → List ℕ) where
  -- what the first of these types that has a declaration of the name declares
  abbrev pub first_named : List ℕ → List TypeDecl → Option D
  first_named name [] = None
  first_named name (d ∷ ds) = option_or (of_name name_of name (declared d)) (first_named name ds)

  undeclared_at : (name : List ℕ) (kind : Option TypeDecl) (above : List TypeDecl) → first_named name (cons_option kind above) ≡ None
      → (list_any (λ e. same_text name (name_of e)) (option_map_or declared kind []) ≡ false) × (first_named name above ≡ None)
  undeclared_at name None above none = (refl, none)
  undeclared_at name (Some d) above none =
      let parts = or_none (of_name name_of name (declared d)) (first_named name above) none in
      (undeclared name_of name (declared d) parts.0, parts.1)

  -- where none is found along a line, none of its types declares the name
  pub undeclared_along : (types : List TypeDecl) (name : List ℕ) (line : List ℕ) → first_named name (types_along types line) ≡ None
      → list_any (λ e. same_text name (name_of e)) (flat_map (declarations_of declared name_of types) line) ≡ false
  undeclared_along types name [] none = refl
  undeclared_along types name (t ∷ line) none =
      let parts = undeclared_at name (slice_get types t) (types_along types line) none in
      list_any-append (λ e. same_text name (name_of e)) (declarations_of declared name_of types t)
      (flat_map (declarations_of declared name_of types) line)
      ∙ or_from _ _ parts.0 (undeclared_along types name line parts.1)
