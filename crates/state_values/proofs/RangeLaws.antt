-- Ranges of numbers, and comparisons of them, fit.
use Rattle.std.proofs.Common.{◌≡◌, ℕ, zero, suc, ℤ, pos, negsuc, ◌+ℤ◌, ◌-ℤ◌, ◌*ℤ◌, ◌≤ℤ◌, Bool, true, false, not, ◌&&◌, cond, List, [], ◌∷◌, ◌++◌, map, Option, Some, None, refl, sym, ◌∙◌, subst, arith}
use Rattle.std.specs.Prelude.{IsTrue, int_le, int_lt}
use Rattle.std.specs.Int.{int_min, int_max}
use Rattle.std.specs.Ordering.{int_eq}
use Rattle.std.specs.List.{fold}
use Rattle.std.proofs.Math.IntN.{suc_ℤ-*ℤ, pred_ℤ-*ℤ, zero-*ℤ}
use Rattle.std.proofs.lemmas.Int.{ints, clamps}
use Rattle.prod_model.specs.declared.expr.Relation.{Relation}
use Rattle.prod_model.specs.declared.expr.Relation.TheVariants.{Less, AtMost, Equal, Differs, AtLeast, Greater}
use Rattle.prod_model.specs.declared.expr_bounds.Bounds.{Bounds}
use Rattle.prod_model.specs.declared.expr_bounds.Bounds.TheVariants as bounds
use Rattle.prod_model.specs.ExprBounds.{sum_of}
use Rattle.config_value.specs.Value.{holds}
use Rattle.base_laws.specs.Places.{IsAt}
use Rattle.config_value.specs.declared.literal.Literal.{Literal}
use Rattle.state_values.specs.Kleene.{True, False, Open}
use Rattle.state_values.specs.Ranges.{Range, exactly, range_sum, ranges_sum, range_difference, range_multiple, clamped, is_before, is_not_after, is_equal, compared}
use Rattle.state_values.specs.Fits.{FitsLow, FitsHigh, FitsRange, FitsTruth}
use Rattle.state_values.proofs.KleeneLaws.{front, back, fits_negated, fits_both}

-- multiples of greater numbers are as great, by a factor from 0 on
times_more : (k : ℕ) (a b : ℤ) → a ≤ℤ b → (pos k *ℤ a) ≤ℤ (pos k *ℤ b)
times_more zero a b less = omega (arith, ints, zero-*ℤ a, zero-*ℤ b)
times_more (suc k) a b less = let rest = times_more k a b less in omega (arith, ints, rest, less, suc_ℤ-*ℤ (pos k) a, suc_ℤ-*ℤ (pos k) b)

-- and as small, by a factor below 0
times_less : (k : ℕ) (a b : ℤ) → a ≤ℤ b → (negsuc k *ℤ b) ≤ℤ (negsuc k *ℤ a)
times_less zero a b less = omega (arith, ints, less, pred_ℤ-*ℤ (pos 0) a, pred_ℤ-*ℤ (pos 0) b, zero-*ℤ a, zero-*ℤ b)
times_less (suc k) a b less = let rest = times_less k a b less in omega (arith, ints, rest, less, pred_ℤ-*ℤ (negsuc k) a, pred_ℤ-*ℤ (negsuc k) b)

-- the sum of a list begins with its first
pub sum_cons : (n : ℤ) (ns : List ℤ) → sum_of (n ∷ ns) ≡ (n +ℤ sum_of ns)
sum_cons n ns = from (pos 0 +ℤ n) ns ∙ omega (arith, ints)
  where
    from : (s : ℤ) (ns : List ℤ) → fold ◌+ℤ◌ s ns ≡ (s +ℤ fold ◌+ℤ◌ (pos 0) ns)
    from s [] = omega (arith, ints)
    from s (k ∷ ks) = let first = from (s +ℤ k) ks in let second = from (pos 0 +ℤ k) ks in omega (arith, ints, first, second)

-- two tests that pass alike are the same
pub same_test : (b d : Bool) → (IsTrue b → IsTrue d) → (IsTrue d → IsTrue b) → b ≡ d
same_test true true to from = refl
same_test true false to from = sym (to refl)
same_test false true to from = from refl
same_test false false to from = refl

not_less : (n k : ℤ) → not (int_lt k n) ≡ int_le n k
not_less n k = by (int_lt k n) refl (int_le n k) refl
  where
    by : (b : Bool) → int_lt k n ≡ b → (d : Bool) → int_le n k ≡ d → not b ≡ d
    by true is true other = absurd (grind (arith, ints))
    by true is false other = refl
    by false is true other = refl
    by false is false other = absurd (grind (arith, ints))

equal_by_order : (n k : ℤ) → (int_le n k && int_le k n) ≡ int_eq n k
equal_by_order n k = by (int_le n k) refl (int_le k n) refl (int_eq n k) refl
  where
    by : (b : Bool) → int_le n k ≡ b → (d : Bool) → int_le k n ≡ d → (e : Bool) → int_eq n k ≡ e → (b && d) ≡ e
    by true x true y true z = refl
    by true x true y false z = absurd (grind (arith, ints))
    by true x false y true z = absurd (grind (arith, ints))
    by true x false y false z = refl
    by false x true y true z = absurd (grind (arith, ints))
    by false x true y false z = refl
    by false x false y true z = absurd (grind (arith, ints))
    by false x false y false z = refl

module _ (H : Literal → Type 0) where
  pub fits_exactly : (n : ℤ) → FitsRange H (exactly n) n
  fits_exactly n = (λ all. omega (arith, ints), λ all. omega (arith, ints))

  pub fits_range_sum : (r s : Range) (n k : ℤ) → FitsRange H r n → FitsRange H s k → FitsRange H (range_sum r s) (n +ℤ k)
  fits_range_sum r s n k first second = (
    λ all. let a = first.0 (front H r.low.by s.low.by all) in let b = second.0 (back H r.low.by s.low.by all) in omega (arith, ints, a, b),
    λ all. let a = first.1 (front H r.high.by s.high.by all) in let b = second.1 (back H r.high.by s.high.by all) in omega (arith, ints, a, b),
  )

  pub fits_ranges_sum : {X : Type 0} (f : X → Range) (g : X → ℤ) (xs : List X) → ((k : ℕ) (x : X) → IsAt xs k x → FitsRange H (f x) (g x))
      → FitsRange H (ranges_sum (map f xs)) (sum_of (map g xs))
  fits_ranges_sum f g [] each = fits_exactly (pos 0)
  fits_ranges_sum f g (x ∷ xs) each = subst (FitsRange H (ranges_sum (map f (x ∷ xs)))) (sym (sum_cons (g x) (map g xs)))
      (fits_range_sum (f x) (ranges_sum (map f xs)) (g x) (sum_of (map g xs)) (each 0 x refl) (fits_ranges_sum f g xs (λ k. each (suc k))))

  pub fits_range_difference : (r s : Range) (n k : ℤ) → FitsRange H r n → FitsRange H s k → FitsRange H (range_difference r s) (n -ℤ k)
  fits_range_difference r s n k first second = (
    λ all. let a = first.0 (front H r.low.by s.high.by all) in let b = second.1 (back H r.low.by s.high.by all) in omega (arith, ints, a, b),
    λ all. let a = first.1 (front H r.high.by s.low.by all) in let b = second.0 (back H r.high.by s.low.by all) in omega (arith, ints, a, b),
  )

  pub fits_range_multiple : (k : ℤ) (r : Range) (n : ℤ) → FitsRange H r n → FitsRange H (range_multiple k r) (k *ℤ n)
  fits_range_multiple (pos k) r n fits = (λ all. times_more k r.low.number n (fits.0 all), λ all. times_more k n r.high.number (fits.1 all))
  fits_range_multiple (negsuc k) r n fits = (λ all. times_less k n r.high.number (fits.1 all), λ all. times_less k r.low.number n (fits.0 all))

  -- bounds that hold
  abbrev pub IsBounded : Option Bounds → ℤ → Type 0
  IsBounded o n = (a b : ℤ) → o ≡ Some (bounds.Number a b) → (a ≤ℤ n) × (n ≤ℤ b)

  pub fits_clamped : (o : Option Bounds) (r : Range) (n : ℤ) → IsBounded o n → FitsRange H r n → FitsRange H (clamped o r) n
  fits_clamped None r n bounded fits = fits
  fits_clamped (Some bounds.Truth) r n bounded fits = fits
  fits_clamped (Some (bounds.Number a b)) r n bounded fits = (low (int_le r.low.number a) refl, high (int_le b r.high.number) refl)
    where
      is : (a ≤ℤ n) × (n ≤ℤ b)
      is = bounded a b refl

      low : (t : Bool) → int_le r.low.number a ≡ t → FitsLow H (record { number = int_max a (int_min b r.low.number); by = cond t [] r.low.by }) n
      low true below = λ all. let less : r.low.number ≤ℤ a = grind (arith, ints) in omega (arith, ints, clamps, less, is.0)
      low false below = λ all. let l = fits.0 all in omega (arith, ints, clamps, l, is.0)

      high : (t : Bool) → int_le b r.high.number ≡ t → FitsHigh H (record { number = int_min b (int_max a r.high.number); by = cond t [] r.high.by }) n
      high true above = λ all. let more : b ≤ℤ r.high.number = grind (arith, ints) in omega (arith, ints, clamps, more, is.1)
      high false above = λ all. let h = fits.1 all in omega (arith, ints, clamps, h, is.1)

  pub fits_is_before : (r s : Range) (n k : ℤ) → FitsRange H r n → FitsRange H s k → FitsTruth H (is_before r s) (int_lt n k)
  fits_is_before r s n k first second = by (int_lt r.high.number s.low.number) refl (int_le s.high.number r.low.number) refl
    where
      by : (t : Bool) → int_lt r.high.number s.low.number ≡ t → (u : Bool) → int_le s.high.number r.low.number ≡ u
          → FitsTruth H (cond t (True (r.high.by ++ s.low.by)) (cond u (False (r.low.by ++ s.high.by)) Open)) (int_lt n k)
      by true is u other = λ all. let a = first.1 (front H r.high.by s.low.by all) in let b = second.0 (back H r.high.by s.low.by all) in grind (arith, ints)
      by false is true other = λ all. let a = first.0 (front H r.low.by s.high.by all) in let b = second.1 (back H r.low.by s.high.by all) in grind (arith, ints)
      by false is false other = tt

  pub fits_is_not_after : (r s : Range) (n k : ℤ) → FitsRange H r n → FitsRange H s k → FitsTruth H (is_not_after r s) (int_le n k)
  fits_is_not_after r s n k first second = subst (FitsTruth H (is_not_after r s)) (not_less n k) (fits_negated H (is_before s r) (int_lt k n) (fits_is_before s r k n second first))

  fits_is_equal : (r s : Range) (n k : ℤ) → FitsRange H r n → FitsRange H s k → FitsTruth H (is_equal r s) (int_eq n k)
  fits_is_equal r s n k first second = subst (FitsTruth H (is_equal r s)) (equal_by_order n k)
      (fits_both H (is_not_after r s) (is_not_after s r) (int_le n k) (int_le k n) (fits_is_not_after r s n k first second) (fits_is_not_after s r k n second first))

  pub fits_compared : (rel : Relation) (r s : Range) (n k : ℤ) → FitsRange H r n → FitsRange H s k → FitsTruth H (compared rel r s) (holds rel n k)
  fits_compared Less r s n k first second = fits_is_before r s n k first second
  fits_compared AtMost r s n k first second = fits_is_not_after r s n k first second
  fits_compared Equal r s n k first second = fits_is_equal r s n k first second
  fits_compared Differs r s n k first second = fits_negated H (is_equal r s) (int_eq n k) (fits_is_equal r s n k first second)
  fits_compared AtLeast r s n k first second = fits_is_not_after s r k n second first
  fits_compared Greater r s n k first second = fits_is_before s r k n second first
