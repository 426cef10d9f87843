-- Which parts of expressions over the small model are wide, computed.
use Rattle.std.specs.Prelude.{◌≡◌, ℤ, pos, neg_ℤ, Bool, true, false, List, [], ◌∷◌, map, replicate, Some}
use Rattle.std.specs.declared.option.Option.{Option}
use Rattle.prod_model.specs.declared.expr.Expr.{Expr}
use Rattle.prod_model.specs.declared.expr.Expr.TheViews.{out-Expr, out-roll-Expr}
use Rattle.prod_model.specs.Taxonomy.{attributes_of, ports_of}
use Rattle.prod_model.proofs.ExprBoundsLaws.{bounds_laws}
use Rattle.prod_model.proofs.Forms.{num, attr, count, sum, total, number_of, add, sub, times, less, is_word, kind, and_of, negated}
use Rattle.expr_bounds.specs.Ends.{ends_of, is_wide}
use Rattle.expr_bounds.specs.steps.Sample.{sample}

abbrev ends : List Expr → List (Option (ℤ × ℤ))
ends es = map (λ e. ends_of sample (out-Expr e) 0) es

abbrev wide : List Expr → List Bool
wide es = map (λ e. is_wide sample (out-Expr e) 0) es

abbrev far : ℤ
far = pos 1000000000000000

abbrev too_far : ℤ
too_far = pos 1000000000000001

-- A number is wide past 10^15 on either side.
numbers : wide (num far ∷ num (neg_ℤ far) ∷ num too_far ∷ num (neg_ℤ too_far) ∷ []) ≡ false ∷ false ∷ true ∷ true ∷ []
numbers = simp out-roll-Expr

-- The ends of a sum, of a difference, of multiples and of sums over links and instances.
ends_found : ends (add (attr 0 ∷ count 0 ∷ []) ∷ sub (count 0) (attr 0) ∷ times (neg_ℤ (pos 2)) (attr 0) ∷ sum 0 3 ∷ total 1 3 ∷ [])
    ≡ Some (neg_ℤ (pos 2), pos 1000003) ∷ Some (neg_ℤ (pos 999998), pos 7) ∷ Some (neg_ℤ (pos 2000000), pos 8)
    ∷ Some (neg_ℤ (pos 27), neg_ℤ (pos 6)) ∷ Some (neg_ℤ (pos 45), pos 0) ∷ []
unfolding attributes_of ports_of
ends_found = simp (out-roll-Expr, bounds_laws)

-- One end beyond the limits is enough: the width is -4 to 10^6.
one_end : wide (times (pos 1000000000) (attr 0) ∷ times (pos 1000000001) (attr 0) ∷ times (neg_ℤ (pos 1000000001)) (attr 0) ∷ [])
    ≡ false ∷ true ∷ true ∷ []
unfolding attributes_of
one_end = simp (out-roll-Expr, bounds_laws)

-- Arguments at the limits can make a wide sum or difference.
sums : wide (add (num far ∷ num (pos 1) ∷ []) ∷ sub (num (neg_ℤ far)) (num (pos 1)) ∷ sub (num far) (num far) ∷ []) ≡ true ∷ true ∷ false ∷ []
sums = simp (out-roll-Expr, bounds_laws)

-- What is around a wide part isn't wide.
around : wide (add (num too_far ∷ num (pos 1) ∷ []) ∷ sub (num far) (num too_far) ∷ times (pos 2) (num too_far) ∷ times (pos 2) (times (pos 2) (num too_far))
    ∷ less (num too_far) (num (pos 1)) ∷ and_of (less (num too_far) (num (pos 1)) ∷ []) ∷ []) ≡ replicate 6 false
around = simp (out-roll-Expr, bounds_laws)

-- What uses an unknown name isn't wide, nor what is around it.
unknown : wide (attr 9 ∷ count 9 ∷ sum 9 2 ∷ sum 0 9 ∷ total 9 2 ∷ number_of 9 ∷ is_word 1 9 ∷ kind 9 ∷ add (attr 9 ∷ num far ∷ []) ∷ []) ≡ replicate 9 false
unfolding attributes_of ports_of
unknown = simp (out-roll-Expr, bounds_laws)

-- Nor is what has words or a truth for a number, or a number for a truth.
wrong : wide (attr 1 ∷ total 0 1 ∷ add (num far ∷ kind 0 ∷ []) ∷ times (pos 2) (kind 0) ∷ negated (num far) ∷ []) ≡ replicate 5 false
unfolding attributes_of ports_of
wrong = simp (out-roll-Expr, bounds_laws)
