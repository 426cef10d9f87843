-- Models whose types don't go together, one demand broken in each, computed.
use Rattle.std.specs.Prelude.{◌≡◌, ℕ, ◌+◌, ◌/◌, ◌%◌, pos, List, [], ◌∷◌, codes, map, replicate, refl}
use Rattle.std.specs.List.{range_with_len}
use Rattle.prod_model.specs.declared.model.Model.{Model}
use Rattle.prod_model.specs.declared.model.TypeDecl.{TypeDecl}
use Rattle.prod_model.specs.declared.model.AttrDecl.{AttrDecl}
use Rattle.prod_model.specs.declared.model.PortDecl.{PortDecl}
use Rattle.prod_model.specs.declared.model.CountBound.{CountBound}
use Rattle.prod_model.specs.declared.model.Rule.{Rule}
use Rattle.prod_model.specs.declared.expr.Expr.{Expr}
use Rattle.prod_model.proofs.ExprBoundsLaws.{bounds_laws, nesting_laws, bounds_at_Kind, nesting_Kind, nesting_Not, nesting_Cmp, nesting_Num}
use Rattle.prod_model.proofs.Forms.{range, words, part, shared, root_type, subtype, kind, num, attr, at_most, less, negated}
use Rattle.prod_model.proofs.ValidExamples.{broken, of_types, narrowed, box, card, base}

-- the name, if only that demand is broken
abbrev only : List ℕ → List (List ℕ)
only name = name ∷ []

abbrev attribute_narrowed : AttrDecl → Model
attribute_narrowed a = narrowed (a ∷ []) []

abbrev port_narrowed : PortDecl → Model
port_narrowed p = narrowed [] (p ∷ [])

-- ---- numbers of types

abbrev counted : ℕ → ℕ → CountBound
counted kind low = record { kind = kind; low = low; high = 3 }

abbrev rule : ℕ → Expr → Rule
rule kind holds = record { name = codes "rule"; kind = kind; holds = holds }

-- The root type is none, or an entry of `bounds` has none. The root type may have children.
unknown_types : map broken (record base { root = 4 } ∷ record base { bounds = counted 4 0 ∷ [] } ∷ record base { bounds = counted 0 0 ∷ counted 9 0 ∷ [] } ∷ record base { root = 1 } ∷ [])
    ≡ only (codes "known types") ∷ only (codes "known types") ∷ only (codes "known types") ∷ [] ∷ []
unfolding broken
unknown_types = refl

-- A rule has none.
rule_of_no_type : broken (record base { rules = rule 4 (kind 0) ∷ [] }) ≡ only (codes "known types")
unfolding broken
rule_of_no_type = simp (bounds_at_Kind, nesting_Kind)

-- Two entries of `bounds` are of one type. They may be of a type and of one under it.
bounds_of_one_type : map broken (record base { bounds = counted 1 0 ∷ counted 0 0 ∷ counted 1 1 ∷ [] } ∷ record base { bounds = counted 1 0 ∷ counted 2 0 ∷ [] } ∷ [])
    ≡ only (codes "one bound each") ∷ [] ∷ []
unfolding broken
bounds_of_one_type = refl

-- A parent is no type, and a port's target is none.
unknown_parents : map broken (of_types (card ∷ subtype (codes "Small") 2 [] [] ∷ []) ∷ of_types (card ∷ root_type (codes "Box") [] (part (codes "slot") 2 0 1 ∷ []) ∷ []) ∷ [])
    ≡ only (codes "known parents") ∷ only (codes "known parents") ∷ []
unfolding broken
unknown_parents = refl

-- Types are their own parents, or each other's.
circles : map broken (
    of_types (subtype (codes "Card") 0 [] [] ∷ [])
    ∷ of_types (box ∷ card ∷ subtype (codes "A") 3 [] [] ∷ subtype (codes "B") 2 [] [] ∷ [])
    ∷ of_types (subtype (codes "A") 1 [] [] ∷ subtype (codes "B") 2 [] [] ∷ subtype (codes "C") 0 [] [] ∷ card ∷ [])
    ∷ []) ≡ replicate 3 (only (codes "forest"))
unfolding broken
circles = refl

-- ---- narrowings

-- Box has a width from 2 to 9. Equal, within, and of a single number are narrowings.
narrowed_ranges : map (λ d. broken (attribute_narrowed d)) (
    range (codes "width") (pos 2) (pos 9) ∷ range (codes "width") (pos 3) (pos 8) ∷ range (codes "width") (pos 9) (pos 9) ∷ range (codes "height") (pos 0) (pos 99) ∷ [])
    ≡ [] ∷ [] ∷ [] ∷ [] ∷ []
unfolding broken
narrowed_ranges = refl

-- Lower, higher, and words are none.
widened_ranges : map (λ d. broken (attribute_narrowed d)) (
    range (codes "width") (pos 1) (pos 9) ∷ range (codes "width") (pos 2) (pos 10) ∷ words (codes "width") (codes "red" ∷ []) ∷ [])
    ≡ replicate 3 (only (codes "narrowings"))
unfolding broken
widened_ranges = refl

-- Box has the colours red and blue. Fewer or as many of them, in any order, are a narrowing.
narrowed_words : map (λ d. broken (attribute_narrowed d)) (
    words (codes "colour") (codes "blue" ∷ []) ∷ words (codes "colour") (codes "blue" ∷ codes "red" ∷ []) ∷ words (codes "colours") (codes "green" ∷ []) ∷ [])
    ≡ [] ∷ [] ∷ [] ∷ []
unfolding broken
narrowed_words = refl

-- Another word, beside inherited ones or alone, and a range are none.
widened_words : map (λ d. broken (attribute_narrowed d)) (
    words (codes "colour") (codes "blue" ∷ codes "green" ∷ []) ∷ words (codes "colour") (codes "Red" ∷ []) ∷ range (codes "colour") (pos 0) (pos 0) ∷ [])
    ≡ replicate 3 (only (codes "narrowings"))
unfolding broken
widened_words = refl

-- Box has 1 to 3 parts in a slot, which are Cards. The same pair, one within it, and a target under Card are narrowings.
narrowed_ports : map (λ d. broken (port_narrowed d)) (
    part (codes "slot") 1 1 3 ∷ part (codes "slot") 1 2 2 ∷ part (codes "slot") 2 1 3 ∷ shared (codes "cable") 2 0 2 ∷ part (codes "other") 0 0 9 ∷ [])
    ≡ [] ∷ [] ∷ [] ∷ [] ∷ [] ∷ []
unfolding broken
narrowed_ports = refl

-- A lower least number, a higher greatest one, a target that isn't under Card, and the other kind, either way round, are none.
widened_ports : map (λ d. broken (port_narrowed d)) (
    part (codes "slot") 1 0 3 ∷ part (codes "slot") 1 1 4 ∷ part (codes "slot") 0 1 3 ∷ shared (codes "slot") 1 1 3 ∷ part (codes "cable") 1 0 2 ∷ [])
    ≡ replicate 5 (only (codes "narrowings"))
unfolding broken
widened_ports = refl

-- An attribute has the name of an inherited port, and a port that of an inherited attribute.
crossed : map broken (attribute_narrowed (range (codes "slot") (pos 1) (pos 1)) ∷ port_narrowed (part (codes "width") 1 1 1) ∷ []) ≡ replicate 2 (only (codes "narrowings"))
unfolding broken
crossed = refl

-- A target is the inherited one, or one above it, beside it or elsewhere.
abbrev below_small : List TypeDecl → Model
below_small types = of_types (card ∷ subtype (codes "Small") 0 [] [] ∷ subtype (codes "Big") 0 [] [] ∷ root_type (codes "Box") [] (part (codes "slot") 1 0 1 ∷ []) ∷ types)

targets : map (λ t. broken (below_small (subtype (codes "Blue") 3 [] (part (codes "slot") t 0 1 ∷ []) ∷ []))) (0 ∷ 1 ∷ 2 ∷ 3 ∷ [])
    ≡ only (codes "narrowings") ∷ [] ∷ only (codes "narrowings") ∷ only (codes "narrowings") ∷ []
unfolding broken
targets = refl

-- What counts is the nearest ancestor that declares the name: Blue narrows the width of Box, and Navy that of Blue.
grandchildren : map (λ d. broken (of_types (subtype (codes "Navy") 1 (d ∷ []) [] ∷ subtype (codes "Blue") 2 (range (codes "width") (pos 3) (pos 5) ∷ []) [] ∷ root_type (codes "Box") (range (codes "width") (pos 2) (pos 9) ∷ []) [] ∷ []))) (
    range (codes "width") (pos 4) (pos 5) ∷ range (codes "width") (pos 3) (pos 6) ∷ range (codes "width") (pos 2) (pos 5) ∷ [])
    ≡ [] ∷ only (codes "narrowings") ∷ only (codes "narrowings") ∷ []
unfolding broken
grandchildren = refl

-- A grandparent's declaration counts where the parent has none of the name.
over_a_parent : map (λ d. broken (of_types (root_type (codes "Box") (range (codes "width") (pos 2) (pos 9) ∷ []) [] ∷ subtype (codes "Blue") 0 [] [] ∷ subtype (codes "Navy") 1 (d ∷ []) [] ∷ []))) (
    range (codes "width") (pos 2) (pos 9) ∷ range (codes "width") (pos 2) (pos 10) ∷ [])
    ≡ [] ∷ only (codes "narrowings") ∷ []
unfolding broken
over_a_parent = refl

-- Siblings may declare a name each as they like, and so may types of two trees.
siblings : broken (of_types (card ∷ subtype (codes "Small") 0 (range (codes "a") (pos 0) (pos 1) ∷ []) [] ∷ subtype (codes "Big") 0 [] (part (codes "a") 0 0 1 ∷ []) ∷ root_type (codes "Box") (words (codes "a") (codes "b" ∷ []) ∷ []) [] ∷ [])) ≡ []
unfolding broken
siblings = refl

-- ---- room

-- attributes a.. of so many names, from the one of a number
abbrev attributes_from : ℕ → ℕ → List AttrDecl
attributes_from first n = map (λ k. range (97 ∷ (97 + k / 26) ∷ (97 + k % 26) ∷ []) (pos 0) (pos 1)) (range_with_len first n)

abbrev ports_from : ℕ → ℕ → List PortDecl
ports_from first n = map (λ k. part (112 ∷ (97 + k / 26) ∷ (97 + k % 26) ∷ []) 0 0 1) (range_with_len first n)

abbrev inherits : List AttrDecl → List PortDecl → List AttrDecl → List PortDecl → Model
inherits attributes ports more_attributes more_ports = of_types (root_type (codes "Box") attributes ports ∷ subtype (codes "Blue") 0 more_attributes more_ports ∷ [])

-- Of 20 attributes and 12 more a type has 32, which is allowed, and of 13 more it has 33. Narrowings aren't counted again.
crowded_attributes : map broken (
    inherits (attributes_from 0 20) [] (attributes_from 20 12) []
    ∷ inherits (attributes_from 0 20) [] (attributes_from 20 13) []
    ∷ inherits (attributes_from 0 20) [] (attributes_from 10 22) []
    ∷ [])
    ≡ [] ∷ only (codes "room") ∷ [] ∷ []
unfolding broken
crowded_attributes = refl

-- Of ports it may have 16.
crowded_ports : map broken (
    inherits [] (ports_from 0 10) [] (ports_from 10 6)
    ∷ inherits [] (ports_from 0 10) [] (ports_from 10 7)
    ∷ inherits [] (ports_from 0 10) [] (ports_from 5 11)
    ∷ [])
    ≡ [] ∷ only (codes "room") ∷ [] ∷ []
unfolding broken
crowded_ports = refl

-- ---- rules

-- A rule is a number, has an attribute that its type lacks, or one of no type's.
bad_rules : map (λ r. broken (record base { rules = r ∷ [] })) (rule 0 (attr 0) ∷ rule 1 (less (attr 0) (num (pos 1))) ∷ rule 0 (kind 9) ∷ []) ≡ replicate 3 (only (codes "faultless rules"))
unfolding broken
bad_rules = simp (bounds_laws, nesting_laws)

-- At a type that has the attribute, and at one that inherits it, it has no fault.
good_rules : map (λ r. broken (record base { rules = r ∷ [] })) (rule 0 (less (attr 0) (num (pos 1))) ∷ rule 3 (less (attr 0) (num (pos 1))) ∷ []) ≡ [] ∷ [] ∷ []
unfolding broken
good_rules = simp (bounds_laws, nesting_laws)

-- It is right, but nests too deep.
deep_rule : broken (record base { rules = rule 0 (negated (negated (negated (negated (negated (negated (negated (negated (negated (negated (negated (negated (negated (negated (negated (at_most (num (pos 1)) (num (pos 1)))))))))))))))))) ∷ [] })
    ≡ only (codes "faultless rules")
unfolding broken
deep_rule = simp (nesting_Not, nesting_Cmp, nesting_Num)
