-- Why a search ends: a number that falls where a branch goes and at most two of less size take its
-- place.
use Rattle.std.specs.Prelude.{ℕ, ◌^◌, ◌<◌, ◌≤◌, List, length}
use Rattle.std.specs.List.{All, sum_by}

-- how much may be left below a branch of a size
unfoldable pub weight : ℕ → ℕ
weight size = 3 ^ size

-- how much may be left below all branches of these sizes
abbrev pub weight_of : List ℕ → ℕ
weight_of sizes = sum_by weight sizes

-- There are at most two, and each is of less size.
pub record AreLess (size : ℕ) (put : List ℕ) : Type 0 where
  pub few : length put ≤ 2
  pub less : All (λ n. n < size) put
