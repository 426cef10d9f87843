-- How a store is kept: each nogood beside its watch.
use Rattle.std.specs.Prelude.{ℕ, zero, suc, IsTrue, false, ◌≡◌, Option, None, Some, List, map}
use Rattle.base_laws.specs.Places.{IsAt}
use Rattle.prod_model.specs.declared.model.Model.{Model}
use Rattle.prod_model.specs.declared.model.Order.{Order}
use Rattle.config_value.specs.declared.literal.Literal.{Literal}
use Rattle.state_space.specs.State.{State}
use Rattle.state_space.specs.Entails.{entails}
use Rattle.nogood_store.specs.declared.watched.Watched.{Watched}
use Rattle.nogood_store.specs.Stores.{Held}

-- the store that is kept so
abbrev pub held_of : Model → Order → List Watched → ℕ → Held
held_of m o kept looked = record {
  model = m;
  order = o;
  nogoods = map (λ w. w.nogood) kept;
  watches = map (λ w. w.watch) kept;
  looked = looked;
}

-- the literal at a place is entailed
abbrev pub IsEntailedAt : Model → State → List Literal → ℕ → Type 0
IsEntailedAt m s literals place = (l : Literal) → IsAt literals place l → IsTrue (entails m s l)

-- the watched literals are entailed
abbrev pub AreWatchedEntailed : Model → State → List Literal → Option (ℕ × ℕ) → Type 0
AreWatchedEntailed m s literals None = Unit {0}
AreWatchedEntailed m s literals (Some (a, b)) =
    IsEntailedAt m s literals a × IsEntailedAt m s literals b

-- The place is the first one of a literal that isn't entailed; or all are.
abbrev pub IsFirstOpen : Model → State → List Literal → Option ℕ → Type 0
IsFirstOpen m s literals None = (place : ℕ) → IsEntailedAt m s literals place
IsFirstOpen m s literals (Some place) =
    (l : Literal) × IsAt literals place l × (entails m s l ≡ false)

-- the first two of so many literals, the only one, or none
abbrev pub first_watch : ℕ → Option (ℕ × ℕ)
first_watch zero = None
first_watch (suc zero) = Some (0, 0)
first_watch (suc (suc n)) = Some (0, 1)
