-- The order of paths.
use Rattle.std.proofs.Common.{ℕ, ◌<◌, ◌≤◌, List, [], ◌∷◌, arith}
use Rattle.std.proofs.lemmas.Bool.{false≢true}
use Rattle.std.proofs.lemmas.Bool.Decides.{nat_tests}
use Rattle.expr_bounds.specs.steps.Search.{IsPathBefore}

-- nothing is before the whole
pub not_before_whole : (p : List ℕ) → ¬ IsPathBefore p []
not_before_whole [] before = false≢true before
not_before_whole (k ∷ p) before = false≢true before

-- a path that is before another one, and doesn't begin with a lesser place, is before it from there on
pub before_rest : (j k : ℕ) (p q : List ℕ) → k ≤ j → IsPathBefore (j ∷ p) (k ∷ q) → IsPathBefore p q
before_rest j k p q at_least before = grind (arith, nat_tests)

-- a path that isn't before another one isn't with a place in front of both
pub not_before_same : (k : ℕ) (p q : List ℕ) → ¬ IsPathBefore p q → ¬ IsPathBefore (k ∷ p) (k ∷ q)
not_before_same k p q none before = none (before_rest k k p q (omega arith) before)

pub not_before_greater : (j k : ℕ) (p q : List ℕ) → k < j → ¬ IsPathBefore (j ∷ p) (k ∷ q)
not_before_greater j k p q greater before = grind (arith, nat_tests)
