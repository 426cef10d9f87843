-- What is added up over made instances.
use Rattle.std.proofs.Common.{◌≡◌, ℕ, ◌+◌, ◌∙◌, ap, [], ◌∷◌, map, zero-add}
use Rattle.std.specs.Prelude.{ℤ, pos, ◌+ℤ◌}
use Rattle.std.specs.List.{range_with_len}
use Rattle.std.proofs.lemmas.List.FromFn.{map-range_with_len_more}
use Rattle.std.proofs.lemmas.List.Sums.{fold-append}
use Rattle.prod_model.specs.ExprBounds.{sum_of}

-- one more number of a range
pub sum_of_range_next : (f : ℕ → ℤ) (n : ℕ) → sum_of (map f (range_with_len 0 (n + 1))) ≡ (sum_of (map f (range_with_len 0 n)) +ℤ f n)
sum_of_range_next f n = ap sum_of (map-range_with_len_more f 0 n n (zero-add n)) ∙ fold-append ◌+ℤ◌ (pos 0) (map f (range_with_len 0 n)) (f n ∷ [])
