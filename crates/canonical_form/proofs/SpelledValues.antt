-- Each attribute of a valid model has a value that can be written: a narrowing keeps a range a range, and words words.
use Rattle.std.proofs.Common.{◌≡◌, ℕ, pos, zero, suc, ◌+◌, ◌<◌, Bool, true, false, cond, ◌&&◌, nat_eq, List, [], ◌∷◌, ◌++◌, map, length, drop, reverse, Option, Some, None, refl, sym, ap, subst, ◌∙◌, arith}
use Rattle.std.specs.Prelude.{IsTrue, slice_get}
use Rattle.std.specs.Option.{option_map_or, option_map, option_and_then}
use Rattle.std.specs.List.{list_all, list_any, find, fold, flat_map}
use Rattle.std.specs.Cmp.Lexicographic.{same_text as text_same, nat_list_eq_equiv}
use Rattle.std.proofs.lemmas.Bool.{false≢true, and_parts, and_from}
use Rattle.std.proofs.lemmas.Bool.Decides.{nat_tests}
use Rattle.std.proofs.lemmas.List.Folds.{list_all-append, list_all-map, list_any-append}
use Rattle.std.proofs.lemmas.Grind.{fold-append}
use Rattle.std.proofs.lemmas.List.{reverse-append, map-append}
use Rattle.prod_model.specs.declared.model.Model.{Model}
use Rattle.prod_model.specs.declared.model.TypeDecl.{TypeDecl}
use Rattle.prod_model.specs.declared.model.AttrAt.{AttrAt}
use Rattle.prod_model.specs.declared.model.AttrDecl.{AttrDecl}
use Rattle.prod_model.specs.declared.model.Domain.{Domain}
use Rattle.prod_model.specs.declared.model.Domain.TheVariants.{Range, Words}
use Rattle.prod_model.specs.Limits
use Rattle.prod_model.specs.Limits.{is_within}
use Rattle.prod_model.specs.Names.{same_text, is_distinct}
use Rattle.prod_model.specs.Forest.{line, line_within, ancestors}
use Rattle.prod_model.specs.Taxonomy.{Named, declarations_of, new_declarations, all_new_declarations, first_id, new_entries, kept_entry, extended_entries, attributes_of, made_attribute, words_of, first_words}
use Rattle.prod_model.specs.Valid.{IsValid, has_narrowings, attribute_narrows, port_narrows, narrows_domain, inherited, has_few_words}
use Rattle.config_value.specs.Spelled.{is_spelled_value, is_word_place}
use Rattle.canonical_form.specs.steps.FirstDeclared.{with_new, first_declarations}
use Rattle.base_laws.proofs.Tests.{list_all_at, list_all_from, list_any_map}
use Rattle.prod_model.proofs.NameLaws.{same_text_refl}
use Rattle.prod_model.proofs.ForestLines.{no_cycle, line_stays, IsLine, line_IsLine, line_within_types}
use Rattle.prod_model.proofs.IdLaws.{places_of_type}
use Rattle.canonical_form.proofs.TypeNames.{attribute_names}
use Rattle.canonical_form.proofs.LookUps.{same_item, named_at}
use Rattle.canonical_form.proofs.ModelTexts.{all_few}

-- each of the attributes has 0, or its first word, as a value that can be written
abbrev pub HaveLeast : Model → List (Named AttrAt) → Type 0
HaveLeast m [] = Unit {0}
HaveLeast m (e ∷ es) = IsTrue (is_spelled_value m e.what (pos 0)) × HaveLeast m es

-- ---- ranges and words

-- both are ranges, or both are words
abbrev same_form : Domain → Domain → Bool
same_form (Range low high) (Range low' high') = true
same_form (Range low high) (Words words) = false
same_form (Words words) (Range low high) = false
same_form (Words words) (Words words') = true

form_refl : (a : Domain) → same_form a a ≡ true
form_refl (Range low high) = refl
form_refl (Words words) = refl

form_narrows : (a b c : Domain) → same_form a b ≡ true → narrows_domain c b ≡ true → same_form a c ≡ true
form_narrows (Range l h) (Range l' h') (Range l'' h'') same narrows = refl
form_narrows (Range l h) (Range l' h') (Words w) same narrows = absurd (false≢true narrows)
form_narrows (Range l h) (Words w) c same narrows = absurd (false≢true same)
form_narrows (Words w) (Range l h) c same narrows = absurd (false≢true same)
form_narrows (Words w) (Words w') (Range l h) same narrows = absurd (false≢true narrows)
form_narrows (Words w) (Words w') (Words w'') same narrows = refl

-- an attribute is of the form of its first declaration
abbrev is_kept : List AttrDecl → Named AttrAt → Bool
is_kept all e = option_map_or (λ d. same_form d.domain e.what.domain) (slice_get all e.what.id) false

-- ---- lists

-- what was found passes, and what all pass it passes
found_passes : {X : Type 0} (p q : X → Bool) (xs : List X) (x : X) → list_all q xs ≡ true → find p xs ≡ Some x → (p x ≡ true) × (q x ≡ true)
found_passes p q [] x all found = absurd (cc)
found_passes {X = X} p q (y ∷ ys) x all found = by_test (p y) refl found (found_passes p q ys x (grind (arith)))
  where
    by_test : (b : Bool) → p y ≡ b → cond b (Some y) (find p ys) ≡ Some x → (find p ys ≡ Some x → (p x ≡ true) × (q x ≡ true)) → (p x ≡ true) × (q x ≡ true)
    by_test true is same later =
        let e : y ≡ x = same_item y x same in let here : q y ≡ true = grind (arith) in (ap p (sym e) ∙ is, ap q (sym e) ∙ here)
    by_test false is same later = later same

find_named : (es : List (Named AttrAt)) (k : ℕ) (e : Named AttrAt) → is_distinct (map (λ x. x.name) es) ≡ true → slice_get es k ≡ Some e → find (λ x. same_text x.name e.name) es ≡ Some e
find_named [] k e distinct at = absurd (cc)
find_named (y ∷ ys) zero e distinct at =
    let same = same_item y e at in
    let here : same_text y.name e.name ≡ true = ap (λ x. same_text y.name x.name) (sym same) ∙ same_text_refl y.name in
    ap (λ b. cond b (Some y) (find (λ x. same_text x.name e.name) ys)) here ∙ ap (λ x. Some x) same
find_named (y ∷ ys) (suc k) e distinct at =
    let other : same_text y.name e.name ≡ false = named_at (λ x. x.name) ys k e y.name at (grind (arith)) in
    ap (λ b. cond b (Some y) (find (λ x. same_text x.name e.name) ys)) other ∙ find_named ys k e (grind (arith)) at

-- ---- names of attributes are distinct

distinct_push : (names : List (List ℕ)) (name : List ℕ) → list_any (same_text name) names ≡ false → is_distinct names ≡ true → is_distinct (names ++ name ∷ []) ≡ true
distinct_push [] name new distinct = refl
distinct_push (n ∷ ns) name new distinct =
    let rest = distinct_push ns name (grind (arith)) (grind (arith)) in
    let both = list_any-append (same_text n) ns (name ∷ []) in
    let swap = nat_list_eq_equiv.symm n name in
    grind (arith)

with_new_distinct : {D : Type 0} (name_of : D → List ℕ) (firsts : List D) (d : D) (b : Bool) → list_any (λ e. same_text (name_of d) (name_of e)) firsts ≡ b
    → is_distinct (map name_of firsts) ≡ true → is_distinct (map name_of (cond b firsts (firsts ++ d ∷ []))) ≡ true
with_new_distinct name_of firsts d true is distinct = distinct
with_new_distinct name_of firsts d false is distinct =
    ap is_distinct (map-append name_of firsts (d ∷ [])) ∙ distinct_push (map name_of firsts) (name_of d) (list_any_map (same_text (name_of d)) name_of firsts ∙ is) distinct

firsts_distinct : {D : Type 0} (name_of : D → List ℕ) (ds firsts : List D) → is_distinct (map name_of firsts) ≡ true → is_distinct (map name_of (fold (with_new name_of) firsts ds)) ≡ true
firsts_distinct name_of [] firsts distinct = distinct
firsts_distinct name_of (d ∷ ds) firsts distinct =
    firsts_distinct name_of ds (with_new name_of firsts d) (with_new_distinct name_of firsts d (list_any (λ e. same_text (name_of d) (name_of e)) firsts) refl distinct)

names_distinct : (m : Model) (t : ℕ) → IsValid m → is_distinct (map (λ e. e.name) (attributes_of m.types t)) ≡ true
unfolding first_declarations
names_distinct m t valid =
    ap is_distinct (sym (attribute_names m t valid))
    ∙ firsts_distinct (λ (d : AttrDecl). d.name) (flat_map (declarations_of (λ d. d.attributes) (λ d. d.name) m.types) (reverse (line m.types t))) [] refl

-- ---- new attributes

new_kept : (all ds : List AttrDecl) (id : ℕ)
    → map (λ e. slice_get all e.what.id) (new_entries (λ d. d.attributes) (λ d. d.name) made_attribute (λ d a. made_attribute a.id d) id ds) ≡ map (λ d. Some d) ds
    → list_all (is_kept all) (new_entries (λ d. d.attributes) (λ d. d.name) made_attribute (λ d a. made_attribute a.id d) id ds) ≡ true
new_kept all [] id places = refl
new_kept all (d ∷ ds) id places =
    let first : slice_get all id ≡ Some d = cc in
    let here : option_map_or (λ x. same_form x.domain d.domain) (slice_get all id) false ≡ true = ap (λ o. option_map_or (λ x. same_form x.domain d.domain) o false) first ∙ form_refl d.domain in
    let rest = new_kept all ds (id + 1) (cc) in
    grind (arith)

-- ---- inherited attributes

kept_narrow : (o : Option AttrDecl) (b c : Domain) → option_map_or (λ d. same_form d.domain b) o false ≡ true → narrows_domain c b ≡ true → option_map_or (λ d. same_form d.domain c) o false ≡ true
kept_narrow None b c kept narrows = kept
kept_narrow (Some d) b c kept narrows = form_narrows d.domain b c kept narrows

some_type : (types : List TypeDecl) (u : ℕ) → u < length types → slice_get types u ≡ None → ⊥
some_type [] u within none = absurd (omega arith)
some_type (d ∷ types) zero within none = absurd (cc)
some_type (d ∷ types) (suc u) within none = some_type types u (omega arith) none

module _ (m : Model) (valid : IsValid m) where
  abbrev all_firsts : List AttrDecl
  all_firsts = all_new_declarations (λ d. d.attributes) (λ d. d.name) m.types

  abbrev kept_by : List AttrDecl → Named AttrAt → Named AttrAt
  kept_by = kept_entry (λ d. d.attributes) (λ d. d.name) made_attribute (λ d a. made_attribute a.id d)

  abbrev extended : List (Named AttrAt) → ℕ → List (Named AttrAt)
  extended = extended_entries (λ d. d.attributes) (λ d. d.name) made_attribute (λ d a. made_attribute a.id d) m.types

  -- what the type inherits under the name of a declaration is narrowed by it
  narrows_entry : (d : TypeDecl) (p : ℕ) (e : Named AttrAt) (a : AttrDecl) → d.parent ≡ Some p → find (λ x. same_text x.name e.name) (attributes_of m.types p) ≡ Some e
      → a.name ≡ e.name → attribute_narrows m d a ≡ true → narrows_domain a.domain e.what.domain ≡ true
  narrows_entry d p e a parent named name narrows =
      let has : inherited attributes_of m d a.name ≡ Some e.what =
      ap (λ o. option_map (λ x. x.what) (option_and_then (λ t. find (λ x. same_text x.name a.name) (attributes_of m.types t)) o)) parent
      ∙ ap (λ n. option_map (λ x. x.what) (find (λ x. same_text x.name n) (attributes_of m.types p))) name
      ∙ ap (option_map (λ x. x.what)) named in
      sym (ap (λ o. option_map_or (λ b. narrows_domain a.domain b.domain) o true) has) ∙ (and_parts _ (option_map_or (λ b. narrows_domain a.domain b.domain) (inherited attributes_of m d a.name) true) narrows).1

  -- an attribute that a declared type inherits, as the type has it
  one_kept : (d : TypeDecl) (p : ℕ) (e : Named AttrAt) (o : Option AttrDecl) → d.parent ≡ Some p → find (λ x. same_text x.name e.name) (attributes_of m.types p) ≡ Some e
      → find (λ a. same_text a.name e.name) d.attributes ≡ o → list_all (attribute_narrows m d) d.attributes ≡ true → is_kept all_firsts e ≡ true
      → is_kept all_firsts (option_map_or (λ a. record { name = e.name; what = made_attribute e.what.id a }) o e) ≡ true
  one_kept d p e None parent named found narrows kept = kept
  one_kept d p e (Some a) parent named found narrows kept =
      let passes = found_passes (λ (x : AttrDecl). same_text x.name e.name) (attribute_narrows m d) d.attributes a narrows found in
      let name : a.name ≡ e.name = text_same a.name e.name (sym passes.0) in
      kept_narrow (slice_get all_firsts e.what.id) e.what.domain a.domain kept (narrows_entry d p e a parent named name passes.1)

  inherited_kept : (d : TypeDecl) (p : ℕ) → d.parent ≡ Some p → list_all (attribute_narrows m d) d.attributes ≡ true → list_all (is_kept all_firsts) (attributes_of m.types p) ≡ true
      → list_all (is_kept all_firsts) (map (kept_by d.attributes) (attributes_of m.types p)) ≡ true
  inherited_kept d p parent narrows kept =
      let es = attributes_of m.types p in
      list_all-map (is_kept all_firsts) (kept_by d.attributes) es
      ∙ list_all_from (λ e. is_kept all_firsts (kept_by d.attributes e)) es
      (λ k e at. one_kept d p e (find (λ a. same_text a.name e.name) d.attributes) parent (find_named es k e (names_distinct m p valid) at) refl narrows (list_all_at (is_kept all_firsts) es kept k e at))

  narrows_at : (u : ℕ) (d : TypeDecl) → slice_get m.types u ≡ Some d → list_all (attribute_narrows m d) d.attributes ≡ true
  unfolding has_narrowings
  narrows_at u d at =
      (and_parts _ (list_all (port_narrows m d) d.ports)
      (list_all_at (λ t. list_all (attribute_narrows m t) t.attributes && list_all (port_narrows m t) t.ports) m.types valid.declared.taxonomy.narrowings u d at)).0

  new_of_type : (u : ℕ) → u < length m.types → list_all (is_kept all_firsts) (new_entries (λ d. d.attributes) (λ d. d.name) made_attribute (λ d a. made_attribute a.id d)
      (first_id (λ d. d.attributes) (λ d. d.name) m.types u) (new_declarations (λ d. d.attributes) (λ d. d.name) m.types u)) ≡ true
  new_of_type u within =
      new_kept all_firsts (new_declarations (λ d. d.attributes) (λ d. d.name) m.types u) (first_id (λ d. d.attributes) (λ d. d.name) m.types u)
      (places_of_type (λ d. d.attributes) (λ d. d.name) made_attribute (λ d a. made_attribute a.id d) (λ a. a.id) (λ id d. refl) (λ d a. refl) m.types u within)

  -- what a type has before its new attributes, where vs are its ancestors
  kept_part : (u : ℕ) (d : TypeDecl) (vs : List ℕ) (o : Option ℕ) → slice_get m.types u ≡ Some d → d.parent ≡ o → ancestors m.types u ≡ vs
      → list_all (is_kept all_firsts) (fold extended [] (reverse vs)) ≡ true → list_all (is_kept all_firsts) (map (kept_by d.attributes) (fold extended [] (reverse vs))) ≡ true
  unfolding attributes_of
  kept_part u d vs None at parent above kept =
      let none : ancestors m.types u ≡ [] = ap (λ k. drop 1 (option_map_or (λ x. u ∷ option_map_or (line_within (length m.types) m.types) x.parent []) k [])) at ∙ ap (λ k. option_map_or (line_within (length m.types) m.types) k []) parent in
      subst (λ us. list_all (is_kept all_firsts) (map (kept_by d.attributes) (fold extended [] (reverse us))) ≡ true) (sym none ∙ above) refl
  kept_part u d vs (Some p) at parent above kept =
      let forest = no_cycle m valid.declared.taxonomy.forest in
      let same : line m.types p ≡ vs =
      sym (line_stays m.types forest p)
      ∙ sym (ap (λ k. drop 1 (option_map_or (λ x. u ∷ option_map_or (line_within (length m.types) m.types) x.parent []) k [])) at ∙ ap (λ k. option_map_or (line_within (length m.types) m.types) k []) parent)
      ∙ above in
      let kept' = subst (λ us. list_all (is_kept all_firsts) (fold extended [] (reverse us)) ≡ true) (sym same) kept in
      subst (λ us. list_all (is_kept all_firsts) (map (kept_by d.attributes) (fold extended [] (reverse us))) ≡ true) same (inherited_kept d p parent (narrows_at u d at) kept')

  kept_type : (u : ℕ) (vs : List ℕ) (o : Option TypeDecl) → slice_get m.types u ≡ o → ancestors m.types u ≡ vs → u < length m.types
      → list_all (is_kept all_firsts) (fold extended [] (reverse vs)) ≡ true → list_all (is_kept all_firsts) (extended (fold extended [] (reverse vs)) u) ≡ true
  kept_type u vs None at above within kept = absurd (some_type m.types u within at)
  kept_type u vs (Some d) at above within kept =
      let es = fold extended [] (reverse vs) in
      let ds : declarations_of (λ d. d.attributes) (λ d. d.name) m.types u ≡ d.attributes = ap (λ o. option_map_or (λ t. t.attributes) o []) at in
      let first : list_all (is_kept all_firsts) (map (kept_by (declarations_of (λ d. d.attributes) (λ d. d.name) m.types u)) es) ≡ true =
      ap (λ as'. list_all (is_kept all_firsts) (map (kept_by as') es)) ds ∙ kept_part u d vs d.parent at refl above kept in
      let new = new_of_type u within in
      list_all-append (is_kept all_firsts) (map (kept_by (declarations_of (λ d. d.attributes) (λ d. d.name) m.types u)) es) _ ∙ and_from _ _ first new

  kept_line : (us : List ℕ) → IsLine m.types us → ((q : ℕ) → list_any (nat_eq q) us ≡ true → q < length m.types) → list_all (is_kept all_firsts) (fold extended [] (reverse us)) ≡ true
  kept_line [] is within = refl
  kept_line (u ∷ vs) is within =
      let turned : fold extended [] (reverse (u ∷ vs)) ≡ extended (fold extended [] (reverse vs)) u = ap (fold extended []) (reverse-append (u ∷ []) vs) ∙ fold-append extended [] (reverse vs) (u ∷ []) in
      let here : u < length m.types = within u (grind (arith, nat_tests)) in
      ap (list_all (is_kept all_firsts)) turned ∙ kept_type u vs (slice_get m.types u) refl is.0 here (kept_line vs is.1 (λ q among. within q (grind (arith))))

  kept_of : (t : ℕ) → list_all (is_kept all_firsts) (attributes_of m.types t) ≡ true
  unfolding attributes_of
  kept_of t = kept_line (line m.types t) (line_IsLine m.types (no_cycle m valid.declared.taxonomy.forest) t) (line_within_types m.types (suc (length m.types)) t)

-- ---- the least value

word_least : (m : Model) (a : AttrAt) (domain : Domain) (o : Option AttrDecl) → option_map_or (λ d. same_form d.domain domain) o false ≡ true
    → option_map_or (λ d. has_few_words d.domain) o true ≡ true → first_words m a.id ≡ option_map_or (λ d. words_of d.domain) o []
    → IsTrue (elim domain [ Range low high ↦ is_within Limits.farthest_end (pos 0) | Words words ↦ is_word_place (length (first_words m a.id)) (pos 0) ])
word_least m a (Range low high) o kept few words = refl
word_least m a (Words ws) None kept few words = absurd (false≢true kept)
word_least m a (Words ws) (Some d) kept few words = words_least (first_words m a.id) d.domain kept few words
  where
    words_least : (firsts : List (List ℕ)) (domain : Domain) → same_form domain (Words ws) ≡ true → has_few_words domain ≡ true → firsts ≡ words_of domain → IsTrue (is_word_place (length firsts) (pos 0))
    words_least firsts (Range low high) kept few words = absurd (false≢true kept)
    words_least firsts (Words own) kept few words = let long = ap length words in grind (arith, nat_tests)

few_option : (ds : List AttrDecl) (id : ℕ) → list_all (λ a. has_few_words a.domain) ds ≡ true → option_map_or (λ d. has_few_words d.domain) (slice_get ds id) true ≡ true
few_option [] id all = refl
few_option (d ∷ ds) zero all = grind (arith)
few_option (d ∷ ds) (suc id) all = few_option ds id (grind (arith))

one_least : (m : Model) (e : Named AttrAt) → IsValid m → is_kept (all_new_declarations (λ d. d.attributes) (λ d. d.name) m.types) e ≡ true → IsTrue (is_spelled_value m e.what (pos 0))
unfolding first_words
one_least m e valid kept =
    let all = all_new_declarations (λ d. d.attributes) (λ d. d.name) m.types in
    word_least m e.what e.what.domain (slice_get all e.what.id) kept (few_option all e.what.id (all_few m valid)) refl

all_least : (m : Model) (es : List (Named AttrAt)) → IsValid m → list_all (is_kept (all_new_declarations (λ d. d.attributes) (λ d. d.name) m.types)) es ≡ true → HaveLeast m es
all_least m [] valid kept = tt
all_least m (e ∷ es) valid kept = (one_least m e valid (grind (arith)), all_least m es valid (grind (arith)))

pub least_values : (m : Model) (t : ℕ) → IsValid m → HaveLeast m (attributes_of m.types t)
least_values m t valid = all_least m (attributes_of m.types t) valid (kept_of m valid t)
