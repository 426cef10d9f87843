-- A type that does not inherit an attribute has it as it was declared first.
use Rattle.std.proofs.Common.{◌≡◌, ℕ, ◌<◌, ◌+◌, ◌-◌, ◌==◌, Bool, true, false, cond, List, [], ◌∷◌, ◌++◌, map, length, length-append, Option, Some, None, refl, sym, ap, subst, ◌∙◌, append_assoc, inl, inr, arith}
use Rattle.std.specs.Prelude.{slice_get, IsTrue, IsSome}
use Rattle.std.specs.Option.{option_map_or, option_and_then, option_or}
use Rattle.std.specs.List.{find, flat_map, range_with_len}
use Rattle.std.proofs.lemmas.List.{map-append}
use Rattle.std.proofs.lemmas.List.Concat.{length-flat_map}
use Rattle.std.proofs.lemmas.List.Folds.{find-append}
use Rattle.std.proofs.lemmas.Option.{slice_get_within, slice_get_cases}
use Rattle.std.proofs.lemmas.Bool.Decides.{nat_tests}
use Rattle.prod_model.specs.declared.model.Model.{Model}
use Rattle.prod_model.specs.declared.model.TypeDecl.{TypeDecl}
use Rattle.prod_model.specs.declared.model.AttrDecl.{AttrDecl}
use Rattle.prod_model.specs.declared.model.AttrAt.{AttrAt}
use Rattle.prod_model.specs.Names.{same_text}
use Rattle.prod_model.specs.Forest.{line, is_forest, parent_of}
use Rattle.prod_model.specs.Taxonomy.{Named, declarations_of, new_declarations, all_new_declarations, first_id, new_entries, kept_entry, entries_of, made_attribute, attributes_of, attributes_at, attribute_of, words_of, first_words}
use Rattle.base_laws.proofs.Places.{slice_get_middle}
use Rattle.prod_model.proofs.ForestLines.{HasNoCycle, no_cycle, line_of_parent}
use Rattle.prod_model.proofs.EntryLaws.{entries_of_parent, all_new_split}

-- ---- entries

abbrev declared : TypeDecl → List AttrDecl
declared d = d.attributes

abbrev name_of : AttrDecl → List ℕ
name_of d = d.name

abbrev narrowed : AttrDecl → AttrAt → AttrAt
narrowed d a = made_attribute a.id d

abbrev has_id : ℕ → AttrAt → Bool
has_id id a = a.id == id

abbrev whats : List (Named AttrAt) → List AttrAt
whats es = map (λ e. e.what) es

abbrev new_of : List TypeDecl → ℕ → List AttrDecl
new_of types t = new_declarations declared name_of types t

abbrev new_from : ℕ → List AttrDecl → List (Named AttrAt)
new_from id ds = new_entries declared name_of made_attribute narrowed id ds

abbrev kept : List AttrDecl → Named AttrAt → Named AttrAt
kept ds e = kept_entry declared name_of made_attribute narrowed ds e

abbrev word_list : Option AttrDecl → List (List ℕ)
word_list d = option_map_or (λ d. words_of d.domain) d []

-- a narrowing keeps the id
narrowed_id : (e : Named AttrAt) (d : Option AttrDecl) → (option_map_or (λ d. record { name = e.name; what = narrowed d e.what }) d e).what.id ≡ e.what.id
narrowed_id e None = refl
narrowed_id e (Some d) = refl

kept_id : (ds : List AttrDecl) (e : Named AttrAt) → (kept ds e).what.id ≡ e.what.id
kept_id ds e = narrowed_id e (find (λ d. same_text (name_of d) e.name) ds)

-- what isn't inherited isn't among the entries that are kept
find_kept : (id : ℕ) (ds : List AttrDecl) (es : List (Named AttrAt)) → find (has_id id) (whats es) ≡ None → find (has_id id) (whats (map (kept ds) es)) ≡ None
find_kept id ds [] none = refl
find_kept id ds (e ∷ es) none = let here = kept_id ds e in let rest = find_kept id ds es in grind (arith, nat_tests)

-- a new entry has the words of its declaration, whose place is the id
find_new_step : (id k : ℕ) (b : Bool) (d : AttrDecl) (more : Option AttrAt) (a : AttrAt) (place : Option AttrDecl) → b ≡ (k == id)
    → (k ≡ id → place ≡ Some d) → (more ≡ Some a → word_list place ≡ words_of a.domain) → cond b (Some (made_attribute k d)) more ≡ Some a → word_list place ≡ words_of a.domain
find_new_step id k true d more a place test here later found = let at : place ≡ Some d = here (grind (arith, nat_tests)) in rw at (ap (λ o. option_map_or (λ (x : AttrAt). words_of x.domain) o []) found)
find_new_step id k false d more a place test here later found = later found

find_new : (id k : ℕ) (before ds after : List AttrDecl) (a : AttrAt) → k ≡ length before → find (has_id id) (whats (new_from k ds)) ≡ Some a
    → word_list (slice_get (before ++ (ds ++ after)) id) ≡ words_of a.domain
find_new id k before [] after a place found = cc
find_new id k before (d ∷ ds) after a place found =
    find_new_step id k (k == id) d (find (has_id id) (whats (new_from (k + 1) ds))) a (slice_get (before ++ ((d ∷ ds) ++ after)) id) refl
    (λ e. ap (slice_get (before ++ (d ∷ (ds ++ after)))) (sym e ∙ place) ∙ slice_get_middle before d (ds ++ after))
    (λ rest. ap (λ all. word_list (slice_get all id)) (sym (append_assoc before (d ∷ []) (ds ++ after)))
    ∙ find_new id (k + 1) (before ++ d ∷ []) ds after a (omega (arith, length-append {A = AttrDecl})) rest)
    found

abbrev entries : List TypeDecl → ℕ → List (Named AttrAt)
entries types t = entries_of declared name_of made_attribute narrowed types t

-- ---- of what a type has, what its parent hasn't is new

from_new : (inherited found : Option AttrAt) (a : AttrAt) → inherited ≡ None → option_or inherited found ≡ Some a → found ≡ Some a
from_new None found a none is = is
from_new (Some b) found a none is = cc

first_words_within : (types : List TypeDecl) → HasNoCycle types → (t : ℕ) (kind : TypeDecl) (id : ℕ) (a : AttrAt) → slice_get types t ≡ Some kind
    → find (has_id id) (whats (option_map_or (entries types) kind.parent [])) ≡ None → find (has_id id) (whats (entries types t)) ≡ Some a
    → word_list (slice_get (all_new_declarations declared name_of types) id) ≡ words_of a.domain
first_words_within types forest t kind id a is none found =
    let inherited = option_map_or (entries types) kind.parent [] in
    let old = map (kept (declarations_of declared name_of types t)) inherited in
    let added = new_from (first_id declared name_of types t) (new_of types t) in
    let parts : find (has_id id) (whats (entries types t)) ≡ option_or (find (has_id id) (whats old)) (find (has_id id) (whats added)) =
    ap (λ es. find (has_id id) (whats es)) (entries_of_parent declared name_of made_attribute narrowed types forest t kind is)
    ∙ ap (find (has_id id)) (map-append (λ e. e.what) old added)
    ∙ find-append (has_id id) (whats old) (whats added) in
    let new = from_new (find (has_id id) (whats old)) (find (has_id id) (whats added)) a
    (find_kept id (declarations_of declared name_of types t) inherited none) (sym parts ∙ found) in
    ap (λ all. word_list (slice_get all id)) (all_new_split declared name_of types t (slice_get_within types t kind is))
    ∙ find_new id (first_id declared name_of types t) (flat_map (new_of types) (range_with_len 0 t)) (new_of types t)
    (flat_map (new_of types) (range_with_len (0 + t + 1) (length types - t - 1))) a (sym (length-flat_map (new_of types) (range_with_len 0 t))) new

-- ---- of a model

parent_found : (m : Model) (kind : TypeDecl) (id : ℕ) → option_and_then (λ p. attribute_of m p id) kind.parent ≡ None
    → find (has_id id) (whats (option_map_or (entries m.types) kind.parent [])) ≡ None
unfolding attributes_of
parent_found m kind id none = elim kind.parent as (λ p. option_and_then (λ u. attribute_of m u id) p ≡ None → find (has_id id) (whats (option_map_or (entries m.types) p [])) ≡ None) [
  | None ↦ λ e. refl
  | Some p ↦ λ e. e
] none

first_words_of_type : (m : Model) → IsTrue (is_forest m) → (t : ℕ) (kind : TypeDecl) (id : ℕ) (a : AttrAt) → slice_get m.types t ≡ Some kind
    → option_and_then (λ p. attribute_of m p id) kind.parent ≡ None → attribute_of m t id ≡ Some a → first_words m id ≡ words_of a.domain
unfolding attributes_of first_words
first_words_of_type m forest t kind id a is none found = first_words_within m.types (no_cycle m forest) t kind id a is (parent_found m kind id none) found

no_attribute : (m : Model) (t id : ℕ) → slice_get m.types t ≡ None → attribute_of m t id ≡ None
unfolding attributes_of
no_attribute m t id none = rw none refl

-- a type whose parent hasn't the attribute has it with its first words
pub first_words_of_new : (m : Model) → IsTrue (is_forest m) → (t id : ℕ) (a : AttrAt)
    → option_and_then (λ p. attribute_of m p id) (parent_of m t) ≡ None → attribute_of m t id ≡ Some a → first_words m id ≡ words_of a.domain
first_words_of_new m forest t id a none found = elim (slice_get_cases m.types t).1 [
  | inl w ↦ (let is : slice_get m.types t ≡ Some w.0 = w.2 in first_words_of_type m forest t w.0 id a is (rw is at none) found)
  | inr w ↦ (let none' = no_attribute m t id w.1 in cc)
]

-- the line of a parent is shorter
pub line_of_parent_shorter : (m : Model) → IsTrue (is_forest m) → (t p : ℕ) → parent_of m t ≡ Some p → length (line m.types p) < length (line m.types t)
line_of_parent_shorter m forest t p is = elim (slice_get_cases m.types t).1 [
  | inl w ↦ (let kind : slice_get m.types t ≡ Some w.0 = w.2 in let parent : w.0.parent ≡ Some p = rw kind at is in
      let e = line_of_parent m.types (no_cycle m forest) t w.0 kind in let f = rw parent at e in omega (arith, ap length f))
  | inr w ↦ absurd (let none : slice_get m.types t ≡ None = w.1 in let e = rw none at is in cc)
]

-- what is found under an id has the id
pub find_id : (id : ℕ) (attributes : List AttrAt) (a : AttrAt) → find (has_id id) attributes ≡ Some a → a.id ≡ id
find_id id [] a found = cc
find_id id (b ∷ attributes) a found = let rest = find_id id attributes a in grind (arith, nat_tests)

pub attribute_of_same_id : (m : Model) (t id : ℕ) (a : AttrAt) → attribute_of m t id ≡ Some a → attribute_of m t a.id ≡ Some a
attribute_of_same_id m t id a found =
    let Has : ℕ → Type 0 = λ i. attribute_of m t i ≡ Some a in subst Has (sym (find_id id (attributes_at m t) a found)) found

-- so its words there are those of its first declaration
pub own_first_words : (m : Model) → IsTrue (is_forest m) → (t id : ℕ)
    → option_and_then (λ p. attribute_of m p id) (parent_of m t) ≡ None → IsSome (attribute_of m t id)
    → option_map_or (λ a. words_of a.domain) (attribute_of m t id) [] ≡ first_words m id
own_first_words m forest t id new known =
    by (attribute_of m t id) known (λ a found. first_words_of_new m forest t id a new found)
  where
    by : (o : Option AttrAt) → IsSome o
        → ((a : AttrAt) → o ≡ Some a → first_words m id ≡ words_of a.domain)
        → option_map_or (λ a. words_of a.domain) o [] ≡ first_words m id
    by None some words = absurd cc
    by (Some a) some words = sym (words a refl)
