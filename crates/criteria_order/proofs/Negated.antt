-- Negated numbers compare the other way round.
use Rattle.std.proofs.Common.{◌≡◌, ℤ, ap, sym, arith, int_cmp}
use Rattle.std.proofs.lemmas.Int.{ints}
use Rattle.std.specs.Prelude.{neg_ℤ, ◌<ℤ◌}
use Rattle.std.specs.declared.cmp.Ordering.{Ordering}
use Rattle.std.specs.declared.cmp.Ordering.TheVariants.{Less, Equal, Greater}
use Rattle.std.specs.Ordering.{MatchOrdering}
use Rattle.std.specs.Cmp.{int_cmp_is, int_ranks}

negated : (x y : ℤ) (r : Ordering) → MatchOrdering r (y <ℤ x) (y ≡ x) (x <ℤ y) → MatchOrdering r (neg_ℤ x <ℤ neg_ℤ y) (neg_ℤ x ≡ neg_ℤ y) (neg_ℤ y <ℤ neg_ℤ x)
negated x y Less h = let less : y <ℤ x = h in let turned : neg_ℤ x <ℤ neg_ℤ y = omega (arith, ints, less) in turned
negated x y Equal h = sym (ap neg_ℤ h)
negated x y Greater h = let less : x <ℤ y = h in let turned : neg_ℤ y <ℤ neg_ℤ x = omega (arith, ints, less) in turned

pub int_cmp_negated : (x y : ℤ) → int_cmp y x ≡ int_cmp (neg_ℤ x) (neg_ℤ y)
int_cmp_negated x y = int_cmp_is (neg_ℤ x) (neg_ℤ y) (int_cmp y x) (negated x y (int_cmp y x) (int_ranks y x))
