-- Where each declaration narrows the nearest of its name, a line declares no name both as an attribute and as a port.
use Rattle.std.proofs.Common.{◌≡◌, ℕ, Bool, true, false, cond, ◌||◌, List, [], ◌∷◌, sym, ap, subst, ◌∙◌, refl, Option, Some, None, is_some, slice_get}
use Rattle.std.specs.Option.{option_map_or, option_or}
use Rattle.std.specs.List.{find, list_any}
use Rattle.std.specs.Cmp.Lexicographic.{same_text as text_of_same}
use Rattle.base_laws.proofs.Searches.{any_found, some_found}
use Rattle.prod_model.specs.declared.model.TypeDecl.{TypeDecl}
use Rattle.prod_model.specs.Forest.{line, ancestors}
use Rattle.prod_model.specs.Names.{same_text}
use Rattle.prod_model.proofs.Ancestors.{ancestors_of_parent, line_none}
use Rattle.prod_model.proofs.LineLaws.{along_lines}
use Rattle.prod_model.proofs.NamedDeclarations.{types_along, types_of_parent, of_name, first_named, or_none}
use Rattle.type_taxonomy.specs.Nearest.{declares}
use Rattle.type_taxonomy.specs.steps.TypeForest.{IsForest}

-- ---- one sort of declarations, and the other

pub either_attribute : (name : List ℕ) (d : TypeDecl) → declares name d ≡ (list_any (λ a. same_text a.name name) d.attributes || list_any (λ p. same_text p.name name) d.ports)
either_attribute name d = refl

or_turned : (a b : Bool) → (a || b) ≡ (b || a)
or_turned true true = refl
or_turned true false = refl
or_turned false true = refl
or_turned false false = refl

pub either_port : (name : List ℕ) (d : TypeDecl) → declares name d ≡ (list_any (λ p. same_text p.name name) d.ports || list_any (λ a. same_text a.name name) d.attributes)
either_port name d = or_turned (list_any (λ a. same_text a.name name) d.attributes) (list_any (λ p. same_text p.name name) d.ports)

module _ {D E : Type 0} (declared : TypeDecl → List D) (name_of : D → List ℕ) (other : TypeDecl → List E) (other_name : E → List ℕ)
    (either : (name : List ℕ) (d : TypeDecl) → declares name d ≡ (list_any (λ e. same_text (name_of e) name) (declared d) || list_any (λ e. same_text (other_name e) name) (other d))) where
  -- the nearest of these types that declares the name, if one does, declares it in the one sort
  abbrev pub nearest_has : List ℕ → List TypeDecl → Bool
  nearest_has name ks = option_map_or (λ d. is_some (of_name name_of name (declared d))) (find (declares name) ks) true

  -- of each of these types that declares the name in the one sort, so does the nearest above it; and none declares it in both
  abbrev pub StaysIn : List ℕ → List TypeDecl → Type 0
  StaysIn name [] = Unit {0}
  StaysIn name (d ∷ ks) =
      (is_some (of_name name_of name (declared d)) ≡ true → (of_name other_name name (other d) ≡ None) × (nearest_has name ks ≡ true)) × StaysIn name ks

  pub declares_by : (name : List ℕ) (d : TypeDecl)
      → declares name d ≡ (is_some (of_name name_of name (declared d)) || is_some (of_name other_name name (other d)))
  declares_by name d =
      either name d ∙ ap (λ b. b || list_any (λ e. same_text (other_name e) name) (other d)) (any_found (λ e. same_text (name_of e) name) (declared d))
      ∙ ap (λ b. is_some (of_name name_of name (declared d)) || b) (any_found (λ e. same_text (other_name e) name) (other d))

  none_step : (has : TypeDecl → Bool) (d : TypeDecl) (found : Option D) (found' later : Option E) (rest : Option TypeDecl) → has d ≡ is_some found
      → (is_some found ≡ true → (found' ≡ None) × (option_map_or has rest true ≡ true)) → (option_map_or has rest true ≡ true → later ≡ None)
      → option_map_or has (cond (is_some found || is_some found') (Some d) rest) true ≡ true → option_or found' later ≡ None
  none_step has d (Some x) found' later rest is stays above nearest = ap (λ o. option_or o later) (stays refl).0 ∙ above (stays refl).1
  none_step has d None (Some y) later rest is stays above nearest = cc
  none_step has d None None later rest is stays above nearest = above nearest

  -- then none declares it in the other sort
  pub none_of_other : (name : List ℕ) (ks : List TypeDecl) → StaysIn name ks → nearest_has name ks ≡ true → first_named other other_name name ks ≡ None
  none_of_other name [] stays nearest = refl
  none_of_other name (d ∷ ks) stays nearest =
      let has = λ (e : TypeDecl). is_some (of_name name_of name (declared e)) in
      none_step has d (of_name name_of name (declared d)) (of_name other_name name (other d)) (first_named other other_name name ks) (find (declares name) ks) refl stays.0
      (none_of_other name ks stays.1) (ap (λ b. option_map_or has (cond b (Some d) (find (declares name) ks)) true) (sym (declares_by name d)) ∙ nearest)

  told_step : (test : D → Bool) (tells : TypeDecl → Bool) (d : TypeDecl) (found later : Option D) (found' : Option E) (rest : Option TypeDecl)
      → tells d ≡ option_map_or test found false → found' ≡ None → option_map_or tells rest true ≡ option_map_or test later true
      → option_map_or tells (cond (is_some found || is_some found') (Some d) rest) true ≡ option_map_or test (option_or found later) true
  told_step test tells d (Some x) later found' rest is none above = is
  told_step test tells d None later found' rest is none above = ap (λ o. option_map_or tells (cond (is_some o) (Some d) rest) true) none ∙ above

  -- where none declares the name in the other sort, the nearest that declares it is the first that has a declaration of it
  pub nearest_told : (test : D → Bool) (name : List ℕ) (ks : List TypeDecl) → first_named other other_name name ks ≡ None
      → option_map_or (λ d. option_map_or test (of_name name_of name (declared d)) false) (find (declares name) ks) true
      ≡ option_map_or test (first_named declared name_of name ks) true
  nearest_told test name [] none = refl
  nearest_told test name (d ∷ ks) none =
      let tells = λ (e : TypeDecl). option_map_or test (of_name name_of name (declared e)) false in
      let parts = or_none (of_name other_name name (other d)) (first_named other other_name name ks) none in
      ap (λ b. option_map_or tells (cond b (Some d) (find (declares name) ks)) true) (declares_by name d)
      ∙ told_step test tells d (of_name name_of name (declared d)) (first_named declared name_of name ks) (of_name other_name name (other d)) (find (declares name) ks) refl
      parts.0 (nearest_told test name ks parts.1)

  has_in : (test : D → Bool) (found : Option D) → option_map_or test found false ≡ true → is_some found ≡ true
  has_in test None passes = passes
  has_in test (Some x) passes = refl

  -- a declaration that narrows the nearest of its name has one of its own sort there
  pub has_of : (test : D → Bool) (name : List ℕ) (o : Option TypeDecl) → option_map_or (λ d. option_map_or test (of_name name_of name (declared d)) false) o true ≡ true
      → option_map_or (λ d. is_some (of_name name_of name (declared d))) o true ≡ true
  has_of test name None passes = refl
  has_of test name (Some d) passes = has_in test (of_name name_of name (declared d)) passes

  -- ---- the lines of a forest

  module _ (types : List TypeDecl) (forest : IsForest types)
      (one : (t : ℕ) (d : TypeDecl) (name : List ℕ) → slice_get types t ≡ Some d → is_some (of_name name_of name (declared d)) ≡ true → of_name other_name name (other d) ≡ None)
      (narrow : (t k : ℕ) (d : TypeDecl) (x : D) → slice_get types t ≡ Some d → slice_get (declared d) k ≡ Some x → nearest_has (name_of x) (types_along types (ancestors types t)) ≡ true) where
    steady : (t : ℕ) (d : TypeDecl) (name : List ℕ) → slice_get types t ≡ Some d → is_some (of_name name_of name (declared d)) ≡ true
        → nearest_has name (types_along types (option_map_or (line types) d.parent [])) ≡ true
    steady t d name is_type some =
        let found = some_found (λ e. same_text (name_of e) name) (declared d) some in
        let equal : name_of found.1 ≡ name = text_of_same (name_of found.1) name (sym found.3) in
        ap (λ l. nearest_has name (types_along types l)) (sym (ancestors_of_parent types forest.no_cycle t d is_type))
        ∙ ap (λ n. nearest_has n (types_along types (ancestors types t))) (sym equal) ∙ narrow t found.0 d found.1 is_type found.2

    stays_parent : (parent : Option ℕ) (name : List ℕ) → ((p : ℕ) → parent ≡ Some p → StaysIn name (types_along types (line types p)))
        → StaysIn name (types_along types (option_map_or (line types) parent []))
    stays_parent None name each = tt
    stays_parent (Some p) name each = each p refl

    stays_at : (t : ℕ) (name : List ℕ) (kind : Option TypeDecl) → slice_get types t ≡ kind
        → ((p : ℕ) (d : TypeDecl) → kind ≡ Some d → d.parent ≡ Some p → StaysIn name (types_along types (line types p))) → StaysIn name (types_along types (line types t))
    stays_at t name None is_type each = subst (λ l. StaysIn name (types_along types l)) (sym (line_none types t is_type)) tt
    stays_at t name (Some d) is_type each =
        subst (StaysIn name) (sym (types_of_parent types forest.no_cycle t d is_type))
        (λ some. (one t d name is_type some, steady t d name is_type some), stays_parent d.parent name (λ p is_parent. each p d refl is_parent))

    stays : (name : List ℕ) (t : ℕ) → StaysIn name (types_along types (line types t))
    stays name =
        along_lines types forest.no_cycle (λ t. StaysIn name (types_along types (line types t)))
        (λ t each. stays_at t name (slice_get types t) refl (λ p d is_type is_parent. each p (record { decl = d; stands = is_type; parent = is_parent })))

    -- no ancestor declares the name of a type's declaration in the other sort
    pub none_above : (t k : ℕ) (d : TypeDecl) (x : D) → slice_get types t ≡ Some d → slice_get (declared d) k ≡ Some x
        → first_named other other_name (name_of x) (types_along types (ancestors types t)) ≡ None
    none_above t k d x is_type has =
        let above : StaysIn (name_of x) (types_along types (ancestors types t)) =
        subst (λ l. StaysIn (name_of x) (types_along types l)) (sym (ancestors_of_parent types forest.no_cycle t d is_type))
        (stays_parent d.parent (name_of x) (λ p is_parent. stays (name_of x) p)) in
        none_of_other (name_of x) (types_along types (ancestors types t)) above (narrow t k d x is_type has)
