-- Sets of numbers as ascending lists: types, words and instances.
use Rattle.std.specs.Prelude.{◌≡◌, ◌<◌, ℕ, Bool, ◌&&◌, ◌==◌, nat_lt, List, ◌∷◌, ◌++◌}
use Rattle.std.specs.Int.{bit_at}
use Rattle.std.specs.List.{list_any, list_all, filter, range_with_len}
use Rattle.config_value.specs.Shaped.{ascends}
use Rattle.domain_store.specs.declared.change.Change.{Change}
use Rattle.domain_store.specs.declared.change.Change.TheVariants.{Smaller}
use Rattle.domain_store.specs.Narrowing.{Narrows}

-- the number is one of the set
abbrev pub has_number : List ℕ → ℕ → Bool
has_number set k = list_any (λ j. j == k) set

-- the numbers below the bound that pass
abbrev pub set_of : ℕ → (ℕ → Bool) → List ℕ
set_of bound test = filter test (range_with_len 0 bound)

-- the numbers whose bits are set in a mask of so many bits
abbrev pub members_of_mask : ℕ → ℕ → List ℕ
members_of_mask bits mask = set_of bits (λ k. bit_at mask k == 1)

-- the set with one more number
abbrev pub with_number : ℕ → List ℕ → List ℕ
with_number k set = filter (λ j. nat_lt j k) set ++ k ∷ filter (λ j. nat_lt k j) set

-- the numbers ascend and are below the bound
abbrev pub is_set_below : ℕ → List ℕ → Bool
is_set_below bound set = ascends set && list_all (λ k. nat_lt k bound) set

-- A set is narrowed by a test, and where it gets smaller it leaves less open. `has` says what a set
-- has, and `measure` how much it leaves open.
pub record Reduces {Set A : Type 0} (has : Set → A → Bool) (measure : Set → ℕ) (test : A → Bool)
    (result : Change) (old new : Set) : Type 0 where
  pub narrows : Narrows has test result old new
  pub fewer : result ≡ Smaller → measure new < measure old
