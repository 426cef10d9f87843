-- Where nogoods are watched: literals, and for each the numbers of the nogoods that are watched
-- there.
use Rattle.std.specs.Prelude.{◌≢◌, ◌<◌, ◌⊎◌, ℕ, List, [], slice_get}
use Rattle.std.specs.Option.{option_map_or}
use Rattle.base_laws.specs.Places.{IsAt}
use Rattle.config_value.specs.declared.literal.Literal.{Literal}
use Rattle.nogood_store.specs.declared.watchers.Row.{Row}
use Rattle.nogood_store.specs.declared.watchers.Watchers.{Watchers}

-- the numbers in a row, none where there is no row
abbrev pub numbers_of : List Row → ℕ → List ℕ
numbers_of rows k = option_map_or (λ r. r.numbers.items) (slice_get rows k) []

-- the number stands at a place of a row
abbrev pub Stands : List Row → ℕ → ℕ → ℕ → Type 0
Stands rows k at n = IsAt (numbers_of rows k) at n

-- the nogood of a number is watched at a literal
pub record IsWatchedAt (w : Watchers) (l : Literal) (n : ℕ) : Type 0 where
  pub row : ℕ
  pub place : ℕ
  pub literal : IsAt w.literals.keys row l
  pub there : Stands w.rows.items row place n

-- what is watched stays watched there
abbrev pub KeepsWatches : Watchers → Watchers → Type 0
KeepsWatches old new = (l : Literal) (n : ℕ) → IsWatchedAt old l n → IsWatchedAt new l n

-- what stands in a row stands there in the other rows
abbrev pub KeepsRows : List Row → List Row → Type 0
KeepsRows old new = (k i n : ℕ) → Stands old k i n → Stands new k i n

-- what stands in another row or before a place of the row stays in its place
abbrev pub KeepsAhead : ℕ → ℕ → List Row → List Row → Type 0
KeepsAhead k at old new =
    (j i n : ℕ) → Stands old j i n → (j ≢ k) ⊎ (i < at) → Stands new j i n

-- What stands at a place of a row is taken out of it: what is ahead stays, and all that stands
-- elsewhere in the row is still there.
pub record IsTakenOut (k at : ℕ) (old new : List Row) : Type 0 where
  pub ahead : KeepsAhead k at old new
  pub others : (i n : ℕ) → Stands old k i n → i ≢ at → (p : ℕ) × Stands new k p n

-- What was watched still is, or it stood at the place, and is watched at the literal.
abbrev pub MovesWatch : ℕ → ℕ → Literal → Watchers → Watchers → Type 0
MovesWatch k at l old new = (x : Literal) (n : ℕ) → IsWatchedAt old x n
    → IsWatchedAt new x n ⊎ (Stands old.rows.items k at n × IsWatchedAt new l n)
