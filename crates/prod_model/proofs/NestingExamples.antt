-- How deep expressions nest, and which are truths and numbers without fault, computed.
use Rattle.std.specs.Prelude.{◌≡◌, ℕ, zero, suc, pos, true, false, [], ◌∷◌, map, replicate, Some}
use Rattle.std.proofs.Common.{ap, ◌∙◌}
use Rattle.prod_model.specs.declared.expr.Expr.{Expr}
use Rattle.prod_model.specs.Taxonomy.{attributes_of}
use Rattle.prod_model.specs.Nesting.{nesting}
use Rattle.prod_model.specs.ExprBounds.{bounds_at, multiple, is_truth_at, is_number_at}
use Rattle.prod_model.specs.declared.expr_bounds.Bounds.TheVariants.{Number as number}
use Rattle.prod_model.proofs.ExprBoundsLaws.{bounds_laws, nesting_laws, bounds_at_Num, bounds_at_Times, nesting_Num, nesting_Times}
use Rattle.prod_model.proofs.Forms.{num, attr, count, count_of, sum, total, number_of, add, sub, times, at_most, is_word, kind, and_of, or_of, negated, implied, all_linked, any_linked}
use Rattle.prod_model.proofs.BoundsExamples.{m}

-- a comparison of two numbers
abbrev compared : Expr
compared = at_most (num (pos 1)) (num (pos 2))

abbrev negated_times : ℕ → Expr → Expr
negated_times zero e = e
negated_times (suc n) e = negated (negated_times n e)

abbrev once_times : ℕ → Expr → Expr
once_times zero e = e
once_times (suc n) e = times (pos 1) (once_times n e)

-- Forms without argument expressions nest 1.
flat : map nesting (num (pos 7) ∷ attr 0 ∷ count 0 ∷ count_of 0 1 ∷ sum 0 1 ∷ total 0 1 ∷ number_of 0 ∷ is_word 0 1 ∷ kind 0 ∷ []) ≡ replicate 9 1
flat = simp nesting_laws

-- Others nest one more than the deepest of their arguments, whatever its place.
deeper : map nesting (sub (num (pos 1)) compared ∷ sub compared (num (pos 1)) ∷ times (pos 2) compared ∷ at_most compared (num (pos 1)) ∷ at_most (num (pos 1)) compared
    ∷ negated compared ∷ implied (kind 0) compared ∷ implied compared (kind 0) ∷ all_linked 0 compared ∷ any_linked 0 compared ∷ []) ≡ replicate 10 3
deeper = simp nesting_laws

deeper_lists : map nesting (add (compared ∷ kind 0 ∷ []) ∷ and_of (kind 0 ∷ compared ∷ kind 0 ∷ []) ∷ or_of (kind 0 ∷ compared ∷ []) ∷ []) ≡ replicate 3 3
deeper_lists = simp nesting_laws

-- A list without arguments nests 1, and a comparison of two numbers nests 2.
shallow : map nesting (add [] ∷ and_of [] ∷ or_of [] ∷ compared ∷ []) ≡ 1 ∷ 1 ∷ 1 ∷ 2 ∷ []
shallow = simp nesting_laws

-- Around a comparison 14 negations nest 16 and are allowed, and 15 nest 17 and aren't.
deepest : map nesting (negated_times 14 compared ∷ negated_times 15 compared ∷ []) ≡ 16 ∷ 17 ∷ []
deepest = simp nesting_laws

deepest_truths : map (is_truth_at m 0) (negated_times 14 compared ∷ negated_times 15 compared ∷ []) ≡ true ∷ false ∷ []
deepest_truths = simp (bounds_laws, nesting_laws)

-- For numbers it is the same: around a number 15 products nest 16, and 16 nest 17.
deepest_numbers : map nesting (once_times 15 (num (pos 1)) ∷ once_times 16 (num (pos 1)) ∷ []) ≡ 16 ∷ 17 ∷ []
deepest_numbers = simp nesting_laws

once_is_one : (n : ℕ) → bounds_at m (once_times n (num (pos 1))) 0 ≡ Some (number (pos 1) (pos 1))
once_is_one zero = bounds_at_Num m 0 (pos 1)
once_is_one (suc n) = bounds_at_Times m 0 (pos 1) (once_times n (num (pos 1))) ∙ ap (multiple (pos 1)) (once_is_one n)

number_nests_16 : is_number_at m 0 (once_times 15 (num (pos 1))) ≡ true
number_nests_16 = rw (once_is_one 15) (simp (nesting_Times, nesting_Num))

number_nests_17 : is_number_at m 0 (once_times 16 (num (pos 1))) ≡ false
number_nests_17 = rw (once_is_one 16) (simp (nesting_Times, nesting_Num))

-- A number is no truth, a truth no number, and what has a fault is neither.
truths : map (is_truth_at m 0) (compared ∷ num (pos 1) ∷ kind 9 ∷ attr 9 ∷ []) ≡ true ∷ false ∷ false ∷ false ∷ []
unfolding attributes_of
truths = simp (bounds_laws, nesting_laws)

numbers : map (is_number_at m 0) (num (pos 1) ∷ compared ∷ number_of 9 ∷ attr 9 ∷ []) ≡ true ∷ false ∷ false ∷ false ∷ []
unfolding attributes_of
numbers = simp (bounds_laws, nesting_laws)

-- An expression is without fault at some types and not at others: only Box and Blue have a width.
at_types : map (λ t. is_number_at m t (attr 0)) (0 ∷ 1 ∷ 2 ∷ 3 ∷ 9 ∷ []) ≡ true ∷ false ∷ true ∷ false ∷ false ∷ []
unfolding attributes_of
at_types = simp (bounds_laws, nesting_laws)
