-- In a valid model names and words have their bytes, and no two types have one name.
use Rattle.std.proofs.Common.{◌≡◌, ℕ, ℤ, pos, negsuc, zero, suc, ◌<◌, ◌≤◌, Bool, true, ◌&&◌, List, [], ◌∷◌, map, length, refl, sym, ap, subst, arith}
use Rattle.std.specs.Prelude.{IsTrue, nat_le, slice_get, slice_index_or, sum_by}
use Rattle.std.specs.Option.{option_map_or}
use Rattle.std.specs.List.{list_all, list_any, filter, flat_map}
use Rattle.std.proofs.lemmas.Bool.{false≢true, and_parts}
use Rattle.std.proofs.lemmas.Bool.Decides.{nat_tests}
use Rattle.std.proofs.lemmas.List.Folds.{list_all-append}
use Rattle.prod_model.specs.declared.model.Model.{Model}
use Rattle.prod_model.specs.declared.model.TypeDecl.{TypeDecl}
use Rattle.prod_model.specs.declared.model.AttrDecl.{AttrDecl}
use Rattle.prod_model.specs.declared.model.AttrAt.{AttrAt}
use Rattle.prod_model.specs.declared.model.Rule.{Rule}
use Rattle.prod_model.specs.declared.model.Domain.{Domain}
use Rattle.prod_model.specs.declared.model.Domain.TheVariants.{Range, Words}
use Rattle.prod_model.specs.Limits
use Rattle.prod_model.specs.Names.{is_name, is_word, is_name_byte, is_word_byte, same_text, is_distinct}
use Rattle.prod_model.specs.Forest.{is_leaf}
use Rattle.prod_model.specs.Taxonomy.{words_of, declarations_of, new_declarations, all_new_declarations, first_words}
use Rattle.prod_model.specs.Valid.{IsValid, has_formed_names, has_distinct_names, has_short_lists, has_few_words}
use Rattle.canonical_form.specs.AnswerText.{type_name, word_at}
use Rattle.prod_model.proofs.NameLaws.{same_text_refl}

pub leaf_is_type : (m : Model) (t : ℕ) → IsTrue (is_leaf m t) → t < length m.types
unfolding is_leaf
leaf_is_type m t leaf = grind (arith, nat_tests)

-- ---- names of types

name_bytes : (n : List ℕ) → is_name n ≡ true → list_all is_name_byte n ≡ true
unfolding is_name
name_bytes n formed = grind (arith)

type_name_bytes : (types : List TypeDecl) (more : TypeDecl → Bool) (t : ℕ) → list_all (λ d. is_name d.name && more d) types ≡ true
    → list_all is_name_byte (option_map_or (λ d. d.name) (slice_get types t) []) ≡ true
type_name_bytes [] more t formed = refl
type_name_bytes (d ∷ types) more zero formed = name_bytes d.name (grind (arith))
type_name_bytes (d ∷ types) more (suc t) formed = type_name_bytes types more t (grind (arith))

first_of_three : (a b c : Bool) → (a && b && c) ≡ true → a ≡ true
first_of_three a b c all = grind (arith)

types_formed : (types : List TypeDecl) (p q r : TypeDecl → Bool) → list_all (λ d. p d && q d && r d) types ≡ true → list_all (λ d. p d && (q d && r d)) types ≡ true
types_formed [] p q r all = refl
types_formed (d ∷ types) p q r all = let rest = types_formed types p q r (grind (arith)) in grind (arith)

formed_types : (m : Model) → IsValid m
    → list_all (λ d. is_name d.name && (list_all (λ a. is_name a.name && list_all is_word (words_of a.domain)) d.attributes && list_all (λ p. is_name p.name) d.ports)) m.types ≡ true
unfolding has_formed_names
formed_types m valid =
    types_formed m.types (λ d. is_name d.name) (λ d. list_all (λ a. is_name a.name && list_all is_word (words_of a.domain)) d.attributes) (λ d. list_all (λ p. is_name p.name) d.ports)
    (and_parts _ (list_all (λ (r : Rule). is_name r.name) m.rules) valid.declared.formed.formed_names).0

pub type_bytes : (m : Model) (t : ℕ) → IsValid m → list_all is_name_byte (type_name m t) ≡ true
type_bytes m t valid = type_name_bytes m.types _ t (formed_types m valid)

name_among : (types : List TypeDecl) (t : ℕ) → t < length types
    → list_any (same_text (option_map_or (λ d. d.name) (slice_get types t) [])) (map (λ d. d.name) types) ≡ true
name_among [] t within = absurd (omega arith)
name_among (d ∷ types) zero within = let here = same_text_refl d.name in grind (arith)
name_among (d ∷ types) (suc t) within = let rest = name_among types t (omega arith) in grind (arith)

one_of_name : (types : List TypeDecl) (t u : ℕ) → is_distinct (map (λ d. d.name) types) ≡ true → t < length types → u < length types
    → option_map_or (λ d. d.name) (slice_get types t) [] ≡ option_map_or (λ d. d.name) (slice_get types u) [] → t ≡ u
one_of_name [] t u distinct t_in u_in same = absurd (omega arith)
one_of_name (d ∷ types) zero zero distinct t_in u_in same = refl
one_of_name (d ∷ types) zero (suc u) distinct t_in u_in same =
    let there = subst (λ n. list_any (same_text n) (map (λ (e : TypeDecl). e.name) types) ≡ true) (sym same) (name_among types u (omega arith)) in absurd (false≢true (grind (arith)))
one_of_name (d ∷ types) (suc t) zero distinct t_in u_in same =
    let there = subst (λ n. list_any (same_text n) (map (λ (e : TypeDecl). e.name) types) ≡ true) same (name_among types t (omega arith)) in absurd (false≢true (grind (arith)))
one_of_name (d ∷ types) (suc t) (suc u) distinct t_in u_in same = ap suc (one_of_name types t u (grind (arith)) (omega arith) (omega arith) same)

pub type_names_distinct : (m : Model) → IsValid m → is_distinct (map (λ d. d.name) m.types) ≡ true
unfolding has_distinct_names
type_names_distinct m valid =
    first_of_three (is_distinct (map (λ (d : TypeDecl). d.name) m.types)) (is_distinct (map (λ (r : Rule). r.name) m.rules)) _ valid.declared.formed.distinct_names

pub type_of_name : (m : Model) (t u : ℕ) → IsValid m → t < length m.types → u < length m.types → type_name m t ≡ type_name m u → t ≡ u
type_of_name m t u valid t_in u_in same = one_of_name m.types t u (type_names_distinct m valid) t_in u_in same

-- ---- words

list_all_filter : {X : Type 0} (p q : X → Bool) (xs : List X) → list_all p xs ≡ true → list_all p (filter q xs) ≡ true
list_all_filter p q [] all = refl
list_all_filter p q (x ∷ xs) all = let rest = list_all_filter p q xs (grind (arith)) in grind (arith)

list_all_flat_map : {X Y : Type 0} (p : Y → Bool) (f : X → List Y) → ((x : X) → list_all p (f x) ≡ true) → (xs : List X) → list_all p (flat_map f xs) ≡ true
list_all_flat_map p f each [] = refl
list_all_flat_map p f each (x ∷ xs) = let here = each x in let rest = list_all_flat_map p f each xs in let both = list_all-append p (f x) (flat_map f xs) in grind (arith)

abbrev has_words : AttrDecl → Bool
has_words a = list_all is_word (words_of a.domain)

attributes_worded : (ds : List AttrDecl) (p : AttrDecl → Bool) → list_all (λ a. p a && has_words a) ds ≡ true → list_all has_words ds ≡ true
attributes_worded [] p all = refl
attributes_worded (d ∷ ds) p all = let rest = attributes_worded ds p (grind (arith)) in grind (arith)

declared_worded : (types : List TypeDecl) (p q : TypeDecl → Bool) (r : AttrDecl → Bool) (t : ℕ)
    → list_all (λ d. p d && (list_all (λ a. r a && has_words a) d.attributes && q d)) types ≡ true
    → list_all has_words (declarations_of (λ d. d.attributes) (λ d. d.name) types t) ≡ true
declared_worded [] p q r t all = refl
declared_worded (d ∷ types) p q r zero all = attributes_worded d.attributes r (grind (arith))
declared_worded (d ∷ types) p q r (suc t) all = declared_worded types p q r t (grind (arith))

all_worded : (m : Model) → IsValid m → list_all has_words (all_new_declarations (λ d. d.attributes) (λ d. d.name) m.types) ≡ true
all_worded m valid =
    list_all_flat_map has_words (new_declarations (λ d. d.attributes) (λ d. d.name) m.types)
    (λ t. list_all_filter has_words _ (declarations_of (λ d. d.attributes) (λ d. d.name) m.types t) (declared_worded m.types _ _ _ t (formed_types m valid))) _

words_at : (ds : List AttrDecl) (id : ℕ) → list_all has_words ds ≡ true → list_all is_word (option_map_or (λ d. words_of d.domain) (slice_get ds id) []) ≡ true
words_at [] id all = refl
words_at (d ∷ ds) zero all = grind (arith)
words_at (d ∷ ds) (suc id) all = words_at ds id (grind (arith))

word_bytes : (w : List ℕ) → is_word w ≡ true → list_all is_word_byte w ≡ true
unfolding is_word
word_bytes w formed = grind (arith)

pub word_bytes_at : (ws : List (List ℕ)) (n : ℕ) → list_all is_word ws ≡ true → list_all is_word_byte (slice_index_or ws n []) ≡ true
word_bytes_at [] n all = refl
word_bytes_at (w ∷ ws) zero all = word_bytes w (grind (arith))
word_bytes_at (w ∷ ws) (suc n) all = word_bytes_at ws n (grind (arith))

pub first_words_formed : (m : Model) (id : ℕ) → IsValid m → list_all is_word (first_words m id) ≡ true
unfolding first_words
first_words_formed m id valid = words_at _ id (all_worded m valid)

pub word_at_bytes : (m : Model) (a : AttrAt) (v : ℤ) → IsValid m → list_all is_word_byte (word_at m a v) ≡ true
word_at_bytes m a (pos n) valid = word_bytes_at (first_words m a.id) n (first_words_formed m a.id valid)
word_at_bytes m a (negsuc n) valid = refl

-- ---- how many words there are

attributes_few : (types : List TypeDecl) (t : ℕ) → list_all (λ d. list_all (λ a. has_few_words a.domain) d.attributes) types ≡ true
    → list_all (λ a. has_few_words a.domain) (declarations_of (λ d. d.attributes) (λ d. d.name) types t) ≡ true
attributes_few [] t all = refl
attributes_few (d ∷ types) zero all = grind (arith)
attributes_few (d ∷ types) (suc t) all = attributes_few types t (grind (arith))

last_of_six : (a b c d e f : Bool) → (a && b && c && d && e && f) ≡ true → f ≡ true
last_of_six a b c d e f all = grind (arith)

few_types_words : (m : Model) → IsValid m → list_all (λ d. list_all (λ a. has_few_words a.domain) d.attributes) m.types ≡ true
unfolding has_short_lists
few_types_words m valid =
    last_of_six (nat_le (length m.types) Limits.most_types) (nat_le (length m.rules) Limits.most_rules) (nat_le (length m.bounds) Limits.most_bounds)
    (nat_le (sum_by (λ (d : TypeDecl). length d.attributes) m.types) Limits.most_attribute_declarations)
    (nat_le (sum_by (λ (d : TypeDecl). length d.ports) m.types) Limits.most_port_declarations) _ valid.declared.formed.short_lists

pub all_few : (m : Model) → IsValid m → list_all (λ a. has_few_words a.domain) (all_new_declarations (λ d. d.attributes) (λ d. d.name) m.types) ≡ true
all_few m valid =
    list_all_flat_map (λ a. has_few_words a.domain) (new_declarations (λ d. d.attributes) (λ d. d.name) m.types)
    (λ t. list_all_filter (λ a. has_few_words a.domain) _ (declarations_of (λ d. d.attributes) (λ d. d.name) m.types t) (attributes_few m.types t (few_types_words m valid))) _

domain_few : (domain : Domain) → has_few_words domain ≡ true → length (words_of domain) ≤ 64
domain_few (Range low high) few = omega arith
domain_few (Words words) few = grind (arith, nat_tests)

few_at : (ds : List AttrDecl) (id : ℕ) → list_all (λ a. has_few_words a.domain) ds ≡ true → length (option_map_or (λ d. words_of d.domain) (slice_get ds id) []) ≤ 64
few_at [] id all = omega arith
few_at (d ∷ ds) zero all = domain_few d.domain (grind (arith))
few_at (d ∷ ds) (suc id) all = few_at ds id (grind (arith))

pub first_words_few : (m : Model) (id : ℕ) → IsValid m → length (first_words m id) ≤ 64
unfolding first_words
first_words_few m id valid = few_at _ id (all_few m valid)
