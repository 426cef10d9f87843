-- Models with a declaration that isn't right by itself, and models at their limits, computed.
use Rattle.std.specs.Prelude.{◌≡◌, ℕ, ℤ, pos, neg_ℤ, true, false, List, [], ◌∷◌, codes, map, replicate, refl}
use Rattle.prod_model.specs.declared.model.Model.{Model}
use Rattle.prod_model.specs.declared.model.AttrDecl.{AttrDecl}
use Rattle.prod_model.specs.declared.model.PortDecl.{PortDecl}
use Rattle.prod_model.specs.declared.model.Rule.{Rule}
use Rattle.prod_model.specs.Valid.{has_short_lists}
use Rattle.prod_model.proofs.ExprBoundsLaws.{bounds_at_Kind, nesting_Kind}
use Rattle.prod_model.proofs.Forms.{range, words, part, shared, root_type, kind}
use Rattle.prod_model.proofs.ValidExamples.{broken, of_types, box, card, base}

-- the one type Box, with these attributes and ports
abbrev boxed : List AttrDecl → List PortDecl → Model
boxed attributes ports = of_types (root_type (codes "Box") attributes ports ∷ [])

-- an attribute alone
abbrev with_attribute : AttrDecl → Model
with_attribute a = boxed (a ∷ []) []

abbrev with_port : PortDecl → Model
with_port p = boxed [] (p ∷ [])

abbrev of_range : ℤ → ℤ → Model
of_range low high = with_attribute (range (codes "width") low high)

abbrev of_pair : ℕ → ℕ → Model
of_pair low high = with_port (part (codes "slot") 0 low high)

-- a rule on type 0
abbrev rule : List ℕ → Rule
rule name = record { name = name; kind = 0; holds = kind 0 }

-- the name, if only that demand is broken
abbrev only : List ℕ → List (List ℕ)
only name = name ∷ []

-- ---- lengths of lists

-- One list is as long as it may be, and then one longer.
many_types : map (λ n. has_short_lists (of_types (replicate n card))) (0 ∷ 128 ∷ 129 ∷ []) ≡ true ∷ true ∷ false ∷ []
unfolding has_short_lists
many_types = refl

many_rules : map (λ n. has_short_lists (record base { rules = replicate n (rule (codes "r")) })) (1000 ∷ 1001 ∷ []) ≡ true ∷ false ∷ []
unfolding has_short_lists
many_rules = refl

many_bounds : map (λ n. has_short_lists (record base { bounds = replicate n (record { kind = 0; low = 0; high = 1 }) })) (128 ∷ 129 ∷ []) ≡ true ∷ false ∷ []
unfolding has_short_lists
many_bounds = refl

-- Attributes are counted over all types, narrowings too: 8 types with 32 each, and one more.
abbrev with_32_attributes : Model → Model
with_32_attributes m = record m { types = root_type (codes "A") (replicate 32 (range (codes "a") (pos 0) (pos 1))) [] ∷ m.types }

abbrev eight_times : (Model → Model) → Model → Model
eight_times f m = f (f (f (f (f (f (f (f m)))))))

many_attributes : map has_short_lists (eight_times with_32_attributes (of_types []) ∷ eight_times with_32_attributes (with_attribute (range (codes "a") (pos 0) (pos 1))) ∷ []) ≡ true ∷ false ∷ []
unfolding has_short_lists
many_attributes = refl

-- Ports are counted so too.
abbrev with_32_ports : Model → Model
with_32_ports m = record m { types = root_type (codes "A") [] (replicate 32 (part (codes "p") 0 0 1)) ∷ m.types }

many_ports : map has_short_lists (eight_times with_32_ports (of_types []) ∷ eight_times with_32_ports (of_pair 0 1) ∷ []) ≡ true ∷ false ∷ []
unfolding has_short_lists
many_ports = refl

-- Attributes and ports aren't counted together.
many_of_both : has_short_lists (eight_times with_32_ports (eight_times with_32_attributes (of_types []))) ≡ true
unfolding has_short_lists
many_of_both = refl

-- An attribute has 1 to 64 words, in any of the types.
many_words : map (λ n. has_short_lists (with_attribute (words (codes "colour") (replicate n (codes "red"))))) (0 ∷ 1 ∷ 64 ∷ 65 ∷ []) ≡ false ∷ true ∷ true ∷ false ∷ []
unfolding has_short_lists
many_words = refl

no_words : broken (boxed (range (codes "width") (pos 0) (pos 1) ∷ words (codes "colour") [] ∷ []) []) ≡ only (codes "short lists")
unfolding broken
no_words = refl

no_words_further_on : broken (of_types (card ∷ root_type (codes "Box") (words (codes "colour") [] ∷ []) [] ∷ [])) ≡ only (codes "short lists")
unfolding broken
no_words_further_on = refl

-- ---- names

-- The name of a type, an attribute, a port or a rule isn't of its form.
bad_names : map broken (
    of_types (root_type (codes "1Box") [] [] ∷ [])
    ∷ of_types (card ∷ root_type [] [] [] ∷ [])
    ∷ boxed (range (codes "a") (pos 0) (pos 1) ∷ range (replicate 33 97) (pos 0) (pos 1) ∷ []) []
    ∷ boxed [] (part (codes "slot") 0 0 1 ∷ part (codes "a.b") 0 0 1 ∷ [])
    ∷ record base { rules = rule (codes "a b") ∷ [] }
    ∷ []) ≡ replicate 5 (only (codes "formed names"))
unfolding broken
bad_names = simp (bounds_at_Kind, nesting_Kind)

-- A word isn't of its form, in a first declaration or in any other.
bad_words : map broken (
    with_attribute (words (codes "colour") (codes "red" ∷ codes "dark blue" ∷ []))
    ∷ with_attribute (words (codes "colour") ([] ∷ codes "red" ∷ []))
    ∷ boxed (words (codes "size") (codes "m" ∷ []) ∷ words (codes "colour") (replicate 33 97 ∷ []) ∷ []) []
    ∷ []) ≡ replicate 3 (only (codes "formed names"))
unfolding broken
bad_words = refl

-- What is no name may be a word.
good_words : broken (with_attribute (words (codes "colour") (codes "1" ∷ codes ".red" ∷ codes "_" ∷ []))) ≡ []
unfolding broken
good_words = refl

-- A name stands twice: among types, among attributes, among ports, as an attribute and as a port, and as a word of one list.
names_twice : map broken (
    of_types (card ∷ box ∷ card ∷ [])
    ∷ boxed (range (codes "width") (pos 0) (pos 1) ∷ words (codes "width") (codes "red" ∷ []) ∷ []) []
    ∷ boxed [] (part (codes "slot") 0 0 1 ∷ shared (codes "slot") 0 0 1 ∷ [])
    ∷ boxed (range (codes "width") (pos 0) (pos 1) ∷ []) (part (codes "width") 0 0 1 ∷ [])
    ∷ with_attribute (words (codes "colour") (codes "red" ∷ codes "blue" ∷ codes "red" ∷ []))
    ∷ []) ≡ replicate 5 (only (codes "distinct names"))
unfolding broken
names_twice = refl

rules_of_one_name : broken (record base { rules = rule (codes "a") ∷ rule (codes "b") ∷ rule (codes "a") ∷ [] }) ≡ only (codes "distinct names")
unfolding broken
rules_of_one_name = simp (bounds_at_Kind, nesting_Kind)

-- A name may stand in two types, in two lists of words, and as names of different sorts.
names_apart : broken (of_types (
    root_type (codes "Box") (words (codes "a") (codes "a" ∷ codes "Box" ∷ []) ∷ words (codes "b") (codes "a" ∷ []) ∷ []) (part (codes "Box") 0 0 1 ∷ [])
    ∷ root_type (codes "a") (range (codes "a") (pos 0) (pos 1) ∷ []) (part (codes "b") 0 0 1 ∷ []) ∷ [])) ≡ []
unfolding broken
names_apart = refl

-- A rule may have the name of a type.
rule_named_as_type : broken (record base { rules = rule (codes "Box") ∷ rule (codes "box") ∷ [] }) ≡ []
unfolding broken
rule_named_as_type = simp (bounds_at_Kind, nesting_Kind)

-- ---- numbers

-- The model allows 1 to 256 instances.
instances : map (λ n. broken (record base { instances = n })) (0 ∷ 1 ∷ 256 ∷ 257 ∷ []) ≡ only (codes "numbers in limits") ∷ [] ∷ [] ∷ only (codes "numbers in limits") ∷ []
unfolding broken
instances = refl

-- The ends of a range lie within a million of 0, and are in order.
ranges : map broken (
    of_range (neg_ℤ (pos 1000000)) (pos 1000000) ∷ of_range (neg_ℤ (pos 1000000)) (neg_ℤ (pos 1000000)) ∷ of_range (pos 1000000) (pos 1000000) ∷ of_range (pos 3) (pos 3) ∷ [])
    ≡ [] ∷ [] ∷ [] ∷ [] ∷ []
unfolding broken
ranges = refl

bad_ranges : map broken (
    of_range (neg_ℤ (pos 1000001)) (pos 0) ∷ of_range (pos 0) (pos 1000001) ∷ of_range (pos 4) (pos 3) ∷ of_range (pos 0) (neg_ℤ (pos 1)) ∷ [])
    ≡ replicate 4 (only (codes "numbers in limits"))
unfolding broken
bad_ranges = refl

-- A port has 0 to 256 links, with its least number first.
pairs : map broken (of_pair 0 0 ∷ of_pair 0 256 ∷ of_pair 256 256 ∷ []) ≡ [] ∷ [] ∷ [] ∷ []
unfolding broken
pairs = refl

bad_pairs : map broken (of_pair 2 1 ∷ of_pair 0 257 ∷ of_pair 257 257 ∷ []) ≡ replicate 3 (only (codes "numbers in limits"))
unfolding broken
bad_pairs = refl

-- So has an entry of `bounds`.
counted : map (λ b. broken (record base { bounds = b ∷ [] })) (
    record { kind = 1; low = 0; high = 0 } ∷ record { kind = 1; low = 256; high = 256 } ∷ record { kind = 1; low = 2; high = 1 } ∷ record { kind = 1; low = 0; high = 257 } ∷ [])
    ≡ [] ∷ [] ∷ only (codes "numbers in limits") ∷ only (codes "numbers in limits") ∷ []
unfolding broken
counted = refl
