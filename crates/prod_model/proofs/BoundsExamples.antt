-- What expressions are at the types of a small model, computed.
use Rattle.std.specs.Prelude.{◌≡◌, ℕ, ℤ, pos, neg_ℤ, List, [], ◌∷◌, codes, map, replicate, Some, None}
use Rattle.std.specs.declared.option.Option.{Option}
use Rattle.prod_model.specs.declared.model.Model.{Model}
use Rattle.prod_model.specs.declared.expr.Expr.{Expr}
use Rattle.prod_model.specs.declared.expr_bounds.Bounds.{Bounds}
use Rattle.prod_model.specs.declared.expr_bounds.Bounds.TheVariants.{Number as number, Truth as truth}
use Rattle.prod_model.specs.Taxonomy.{attributes_of, ports_of, first_words}
use Rattle.prod_model.specs.ExprBounds.{bounds_at}
use Rattle.prod_model.proofs.ExprBoundsLaws.{bounds_laws}
use Rattle.prod_model.proofs.Forms.{range, words, part, root_type, subtype, num, attr, count, count_of, sum, total, number_of, add, sub, times, less, at_most, equal, differs, at_least, greater, is_word, kind, and_of, or_of, negated, implied, all_linked, any_linked}

-- Types 0 Box, 1 Card, 2 Blue under Box, 3 Small under Card, 4 Crate. Attributes 0 width and 1 colour of Box, 2 power,
-- 3 gain, 4 loss and 5 bus of Card, 6 weight of Small. Ports 0 slot of Box, 1 open of Crate.
abbrev pub m : Model
m = record {
  root = 0;
  instances = 5;
  types =
      root_type (codes "Box")
      (range (codes "width") (neg_ℤ (pos 4)) (pos 1000000) ∷ words (codes "colour") (codes "red" ∷ codes "green" ∷ codes "blue" ∷ []) ∷ [])
      (part (codes "slot") 1 2 3 ∷ [])
      ∷ root_type (codes "Card")
      (range (codes "power") (neg_ℤ (pos 5)) (pos 7) ∷ range (codes "gain") (pos 3) (pos 9)
      ∷ range (codes "loss") (neg_ℤ (pos 9)) (neg_ℤ (pos 3)) ∷ words (codes "bus") (codes "sata" ∷ []) ∷ [])
      []
      ∷ subtype (codes "Blue") 0 (words (codes "colour") (codes "blue" ∷ []) ∷ range (codes "width") (pos 0) (pos 5) ∷ []) (part (codes "slot") 3 2 2 ∷ [])
      ∷ subtype (codes "Small") 1 (range (codes "power") (pos 1) (pos 2) ∷ range (codes "weight") (pos 0) (pos 8) ∷ []) []
      ∷ root_type (codes "Crate") [] (part (codes "open") 1 0 4 ∷ [])
      ∷ [];
  bounds = [];
  rules = [];
}

abbrev pub at : ℕ → List Expr → List (Option Bounds)
at t es = map (λ e. bounds_at m e t) es

abbrev pub between : ℤ → ℤ → Option Bounds
between low high = Some (number low high)

abbrev pub a_truth : Option Bounds
a_truth = Some truth

abbrev far : ℤ
far = pos 1000000000000000

abbrev too_far : ℤ
too_far = pos 1000000000000001

-- ---- forms without arguments

-- A number lies between itself and itself, up to 10^15 on either side.
numbers : at 0 (num (pos 7) ∷ num far ∷ num (neg_ℤ far) ∷ num too_far ∷ num (neg_ℤ too_far) ∷ [])
    ≡ between (pos 7) (pos 7) ∷ between far far ∷ between (neg_ℤ far) (neg_ℤ far) ∷ None ∷ None ∷ []
numbers = simp bounds_laws

-- An attribute has the ends of its range, as it is narrowed at the type.
attributes : map (bounds_at m (attr 0)) (0 ∷ 2 ∷ []) ≡ between (neg_ℤ (pos 4)) (pos 1000000) ∷ between (pos 0) (pos 5) ∷ []
unfolding attributes_of
attributes = simp bounds_laws

-- Nothing: at a type that lacks the attribute or is none; for words; for an id of no attribute.
no_attributes : map (bounds_at m (attr 0)) (1 ∷ 4 ∷ 9 ∷ []) ≡ None ∷ None ∷ None ∷ []
unfolding attributes_of
no_attributes = simp bounds_laws

no_number_of_words : at 0 (attr 1 ∷ attr 9 ∷ []) ≡ None ∷ None ∷ []
unfolding attributes_of
no_number_of_words = simp bounds_laws

-- The links of a port are as many as its pair allows, as it is narrowed at the type.
counts : map (bounds_at m (count 0)) (0 ∷ 2 ∷ 1 ∷ 9 ∷ []) ≡ between (pos 2) (pos 3) ∷ between (pos 2) (pos 2) ∷ None ∷ None ∷ []
unfolding ports_of
counts = simp bounds_laws

-- Those to instances under a type may be none. The type may be any, under the target or not.
counts_of : at 0 (count_of 0 3 ∷ count_of 0 4 ∷ count_of 0 9 ∷ count_of 1 3 ∷ []) ≡ between (pos 0) (pos 3) ∷ between (pos 0) (pos 3) ∷ None ∷ None ∷ []
unfolding ports_of
counts_of = simp bounds_laws

narrowed_count_of : bounds_at m (count_of 0 3) 2 ≡ between (pos 0) (pos 2)
unfolding ports_of
narrowed_count_of = simp bounds_laws

-- From two to three numbers: 3 to 9 each, -9 to -3 each, -5 to 7 each.
sums : at 0 (sum 0 3 ∷ sum 0 4 ∷ sum 0 2 ∷ [])
    ≡ between (pos 6) (pos 27) ∷ between (neg_ℤ (pos 27)) (neg_ℤ (pos 6)) ∷ between (neg_ℤ (pos 15)) (pos 21) ∷ []
unfolding attributes_of ports_of
sums = simp bounds_laws

-- From none to four of them.
sums_of_none : at 4 (sum 1 3 ∷ sum 1 4 ∷ sum 1 2 ∷ [])
    ≡ between (pos 0) (pos 36) ∷ between (neg_ℤ (pos 36)) (pos 0) ∷ between (neg_ℤ (pos 20)) (pos 28) ∷ []
unfolding attributes_of ports_of
sums_of_none = simp bounds_laws

-- The pair, the target and its attribute are those at the type: Blue has two links to Small, of power 1 to 2 and weight 0 to 8.
narrowed_sums : at 2 (sum 0 2 ∷ sum 0 6 ∷ []) ≡ between (pos 2) (pos 4) ∷ between (pos 0) (pos 16) ∷ []
unfolding attributes_of ports_of
narrowed_sums = simp bounds_laws

-- Nothing: an attribute that the target lacks, one of words, no attribute; a port that the type lacks.
no_sums : at 0 (sum 0 6 ∷ sum 0 0 ∷ sum 0 5 ∷ sum 0 9 ∷ sum 1 2 ∷ []) ≡ None ∷ None ∷ None ∷ None ∷ None ∷ []
unfolding attributes_of ports_of
no_sums = simp bounds_laws

-- From none to five instances, at whatever type the expression stands.
totals : at 4 (total 1 3 ∷ total 1 4 ∷ total 1 2 ∷ total 3 2 ∷ [])
    ≡ between (pos 0) (pos 45) ∷ between (neg_ℤ (pos 45)) (pos 0) ∷ between (neg_ℤ (pos 25)) (pos 35) ∷ between (pos 0) (pos 10) ∷ []
unfolding attributes_of
totals = simp bounds_laws

-- Nothing: an attribute of words, one that the type lacks, and no type.
no_totals : at 0 (total 0 1 ∷ total 1 0 ∷ total 1 6 ∷ total 9 2 ∷ []) ≡ None ∷ None ∷ None ∷ None ∷ []
unfolding attributes_of
no_totals = simp bounds_laws

-- There are at most as many instances as the model allows, whatever the type.
numbers_of : at 4 (number_of 0 ∷ number_of 3 ∷ number_of 4 ∷ number_of 5 ∷ []) ≡ between (pos 0) (pos 5) ∷ between (pos 0) (pos 5) ∷ between (pos 0) (pos 5) ∷ None ∷ []
numbers_of = simp bounds_laws

-- A word of the first declaration is asked for, also where the type narrows it away.
words_asked : map (bounds_at m (is_word 1 0)) (0 ∷ 2 ∷ []) ≡ a_truth ∷ a_truth ∷ []
unfolding attributes_of first_words
words_asked = simp bounds_laws

-- The last of three words, and one past it.
last_words : at 2 (is_word 1 2 ∷ is_word 1 3 ∷ []) ≡ a_truth ∷ None ∷ []
unfolding attributes_of first_words
last_words = simp bounds_laws

-- Nothing: a range, no attribute, an attribute that the type lacks.
no_words : at 0 (is_word 0 0 ∷ is_word 9 0 ∷ is_word 5 0 ∷ []) ≡ None ∷ None ∷ None ∷ []
unfolding attributes_of first_words
no_words = simp bounds_laws

-- Any type may be asked for, and nothing else.
kinds : at 0 (kind 0 ∷ kind 4 ∷ kind 5 ∷ []) ≡ a_truth ∷ a_truth ∷ None ∷ []
kinds = simp bounds_laws

-- ---- numbers of numbers

-- Low ends are added, and high ends.
additions : at 0 (add (count 0 ∷ []) ∷ add (num (pos 1) ∷ count 0 ∷ attr 0 ∷ []) ∷ []) ≡ between (pos 2) (pos 3) ∷ between (neg_ℤ (pos 1)) (pos 1000004) ∷ []
unfolding attributes_of ports_of
additions = simp bounds_laws

-- One argument at least, and 64 at most.
no_arguments : at 0 (add [] ∷ and_of [] ∷ or_of [] ∷ []) ≡ None ∷ None ∷ None ∷ []
no_arguments = simp bounds_laws

many_arguments : at 0 (add (replicate 64 (num (pos 1))) ∷ and_of (replicate 64 (kind 0)) ∷ or_of (replicate 64 (kind 0)) ∷ [])
    ≡ between (pos 64) (pos 64) ∷ a_truth ∷ a_truth ∷ []
many_arguments = simp bounds_laws

too_many_arguments : at 0 (add (replicate 65 (num (pos 1))) ∷ and_of (replicate 65 (kind 0)) ∷ or_of (replicate 65 (kind 0)) ∷ []) ≡ None ∷ None ∷ None ∷ []
too_many_arguments = simp bounds_laws

-- A sum past the limits is nothing, on either side. Only the whole sum counts.
far_additions : at 0 (add (num far ∷ num (pos 1) ∷ []) ∷ add (num (neg_ℤ far) ∷ num (neg_ℤ (pos 1)) ∷ []) ∷ add (num far ∷ num (pos 1) ∷ num (neg_ℤ (pos 1)) ∷ []) ∷ [])
    ≡ None ∷ None ∷ between far far ∷ []
far_additions = simp bounds_laws

-- A truth is no argument of a sum, whatever its place, and neither is an expression with a fault.
additions_of_truths : at 0 (add (kind 0 ∷ num (pos 1) ∷ []) ∷ add (num (pos 1) ∷ kind 0 ∷ []) ∷ add (num (pos 1) ∷ num too_far ∷ num (pos 1) ∷ []) ∷ []) ≡ None ∷ None ∷ None ∷ []
additions_of_truths = simp bounds_laws

-- 2 to 3, less -4 to 1000000
differences : at 0 (sub (count 0) (attr 0) ∷ sub (num (pos 1)) (num (pos 4)) ∷ []) ≡ between (neg_ℤ (pos 999998)) (pos 7) ∷ between (neg_ℤ (pos 3)) (neg_ℤ (pos 3)) ∷ []
unfolding attributes_of ports_of
differences = simp bounds_laws

no_differences : at 0 (sub (kind 0) (num (pos 1)) ∷ sub (num (pos 1)) (kind 0) ∷ sub (attr 9) (num (pos 1)) ∷ sub (num far) (num (neg_ℤ (pos 1))) ∷ sub (num (neg_ℤ far)) (num (pos 1)) ∷ [])
    ≡ None ∷ None ∷ None ∷ None ∷ None ∷ []
unfolding attributes_of
no_differences = simp bounds_laws

-- A negative factor changes the ends.
multiples : at 0 (times (pos 2) (count 0) ∷ times (neg_ℤ (pos 2)) (count 0) ∷ times (pos 0) (attr 0) ∷ [])
    ≡ between (pos 4) (pos 6) ∷ between (neg_ℤ (pos 6)) (neg_ℤ (pos 4)) ∷ between (pos 0) (pos 0) ∷ []
unfolding attributes_of ports_of
multiples = simp bounds_laws

-- 10^9 times a million is the greatest number, and -10^9 times it the least.
far_multiples : at 0 (times (pos 1000000000) (attr 0) ∷ times (neg_ℤ (pos 1000000000)) (attr 0) ∷ [])
    ≡ between (neg_ℤ (pos 4000000000)) far ∷ between (neg_ℤ far) (pos 4000000000) ∷ []
unfolding attributes_of
far_multiples = simp bounds_laws

too_far_multiples : at 0 (times (pos 1000000001) (attr 0) ∷ times (neg_ℤ (pos 1000000001)) (attr 0) ∷ times (pos 2) (kind 0) ∷ times (pos 0) (num too_far) ∷ [])
    ≡ None ∷ None ∷ None ∷ None ∷ []
unfolding attributes_of
too_far_multiples = simp bounds_laws

-- ---- truths

-- Each comparison of two numbers is a truth.
comparisons : at 0 (map (λ f. f (num (pos 1)) (count 0)) (less ∷ at_most ∷ equal ∷ differs ∷ at_least ∷ greater ∷ [])) ≡ replicate 6 a_truth
unfolding ports_of
comparisons = simp bounds_laws

-- Truths aren't compared, on either side.
no_comparisons : at 0 (equal (kind 0) (kind 0) ∷ less (kind 0) (num (pos 1)) ∷ less (num (pos 1)) (kind 0) ∷ less (attr 1) (num (pos 1)) ∷ less (num (pos 1)) (num too_far) ∷ [])
    ≡ None ∷ None ∷ None ∷ None ∷ None ∷ []
unfolding attributes_of
no_comparisons = simp bounds_laws

-- Truths are joined, and numbers aren't, whatever their place.
joined : at 0 (and_of (kind 0 ∷ []) ∷ or_of (kind 0 ∷ kind 1 ∷ []) ∷ []) ≡ a_truth ∷ a_truth ∷ []
joined = simp bounds_laws

not_joined : at 0 (and_of (num (pos 1) ∷ kind 0 ∷ []) ∷ and_of (kind 0 ∷ num (pos 1) ∷ []) ∷ or_of (kind 0 ∷ kind 9 ∷ []) ∷ or_of (kind 0 ∷ num (pos 1) ∷ []) ∷ [])
    ≡ None ∷ None ∷ None ∷ None ∷ []
not_joined = simp bounds_laws

negations : at 0 (negated (kind 0) ∷ negated (num (pos 1)) ∷ negated (kind 9) ∷ []) ≡ a_truth ∷ None ∷ None ∷ []
negations = simp bounds_laws

conditions : at 0 (implied (kind 0) (kind 1) ∷ implied (num (pos 1)) (kind 0) ∷ implied (kind 0) (num (pos 1)) ∷ implied (kind 9) (kind 0) ∷ []) ≡ a_truth ∷ None ∷ None ∷ None ∷ []
conditions = simp bounds_laws

-- What is asked of linked instances stands at the port's target: Card has power, and only Small has weight.
linked : at 0 (all_linked 0 (less (attr 2) (num (pos 1))) ∷ any_linked 0 (less (attr 2) (num (pos 1))) ∷ all_linked 0 (less (attr 6) (num (pos 1))) ∷ any_linked 0 (less (attr 0) (num (pos 1))) ∷ [])
    ≡ a_truth ∷ a_truth ∷ None ∷ None ∷ []
unfolding attributes_of ports_of
linked = simp bounds_laws

narrowed_linked : at 2 (all_linked 0 (less (attr 6) (num (pos 1))) ∷ any_linked 0 (less (attr 6) (num (pos 1))) ∷ []) ≡ a_truth ∷ a_truth ∷ []
unfolding attributes_of ports_of
narrowed_linked = simp bounds_laws

-- Nothing: a number of the linked instances, and a port that the type lacks.
not_linked : at 0 (all_linked 0 (attr 2) ∷ any_linked 0 (attr 2) ∷ all_linked 1 (kind 0) ∷ any_linked 1 (kind 0) ∷ []) ≡ None ∷ None ∷ None ∷ None ∷ []
unfolding attributes_of ports_of
not_linked = simp bounds_laws

-- A fault is one at any depth.
deep_fault : at 0 (negated (and_of (kind 0 ∷ any_linked 0 (less (num (pos 0)) (add (num too_far ∷ num (neg_ℤ (pos 1)) ∷ []))) ∷ [])) ∷ []) ≡ None ∷ []
unfolding ports_of
deep_fault = simp bounds_laws
