-- Narrowings of possible types by a mask, seen as narrowings by what the mask says of leaves.
use Rattle.std.proofs.Common.{◌≡◌, ℕ, ◌-◌, ◌<◌, ◌^◌, ◌∙◌, ap, sym, Bool, true, false, not, ◌&&◌, ◌==◌, refl, Some, None, Option, ltb-true, inr, [], length, ◌≤◌, List}
use Rattle.std.specs.Prelude.{IsTrue, nat_lt, slice_get, if◌then◌else◌}
use Rattle.std.specs.Int.{bit_at, bit_not, w128}
use Rattle.std.specs.Option.{option_map_or}
use Rattle.std.proofs.lemmas.Bool.{and_parts, false≢true}
use Rattle.std.proofs.lemmas.Nat.Bits.{bit_at_not, bit_at-zero}
use Rattle.prod_model.specs.declared.model.Model.{Model}
use Rattle.prod_model.specs.Forest.{is_a, is_leaf}
use Rattle.prod_model.specs.TypeMasks.{IsMask}
use Rattle.prod_model.proofs.NoTypes.{is_a_outside}
use Rattle.domain_store.specs.declared.change.Change.{Change}
use Rattle.domain_store.proofs.Narrowing.{alike}
use Rattle.state_space.specs.Made.{MadeInstance}
use Rattle.state_space.specs.Sets.{has_number}
use Rattle.state_space.specs.State.{State, IsState, kinds_at}
use Rattle.state_space.specs.Undo.{OldValue}
use Rattle.state_space.proofs.PortLaws.{all_has}
use Rattle.partial_state.specs.steps.Logged.{ChangesKinds}

-- a narrowing depends on what the test says of the possible types alone
pub kinds_alike : (i : ℕ) (test other : ℕ → Bool) (result : Change) (old new : State) (log longer : List OldValue)
    → ((t : ℕ) → IsTrue (has_number (kinds_at old i) t) → test t ≡ other t) → ChangesKinds i test result old new log longer → ChangesKinds i other result old new log longer
kinds_alike i test other result old new log longer agree given = record {
  narrows = record {
    narrowed = record {
      narrows = alike has_number test (kinds_at old i) (kinds_at new i) other result agree given.narrows.narrowed.narrows;
      fewer = given.narrows.narrowed.fewer;
    };
    formed = given.narrows.formed;
    others = given.narrows.others;
  };
  logs = given.logs;
  same = given.same;
}

-- the possible types are leaves, and fit a mask
pub possible_leaf : (m : Model) (s : State) (i t : ℕ) → IsState m s → IsTrue (has_number (kinds_at s i) t) → IsTrue (is_leaf m t) × (t < 128)
possible_leaf m s i t state there = by (slice_get s.made i) refl
  where
    is_possible : Option MadeInstance → Bool
    is_possible o = has_number (option_map_or (λ x. x.kinds) o []) t

    by : (o : Option MadeInstance) → slice_get s.made i ≡ o → IsTrue (is_leaf m t) × (t < 128)
    by None none = absurd (false≢true (sym (ap is_possible none) ∙ there))
    by (Some x) at =
        let is = state.each i x at in
        let among : IsTrue (has_number x.kinds t) = sym (ap is_possible at) ∙ there in (
          all_has (is_leaf m) x.kinds t is.leaves among,
          ltb-true t 128 (all_has (λ k. nat_lt k 128) x.kinds t (and_parts _ _ is.formed).1 among),
        )

module _ (m : Model) (mask t u : ℕ) (is : IsMask mask (λ v. is_leaf m v && is_a m v t)) (leaf : IsTrue (is_leaf m u)) where
  -- of a leaf the mask says whether it is the type or under it
  pub leaf_tested : (bit_at mask u == 1) ≡ is_a m u t
  leaf_tested = ap (λ n. n == 1) (is u) ∙ by (is_leaf m u) (is_a m u t) leaf
    where
      by : (a b : Bool) → IsTrue a → ((if a && b then 1 else 0) == 1) ≡ b
      by true true there = refl
      by true false there = refl
      by false b there = absurd (false≢true there)

  -- and all other bits say whether it is not
  pub other_leaf_tested : mask < 2 ^ 128 → u < 128 → (bit_at (bit_not w128 mask) u == 1) ≡ not (is_a m u t)
  other_leaf_tested fits below = ap (λ n. n == 1) (bit_at_not w128 mask u fits below ∙ ap (λ n. 1 - n) (is u)) ∙ by (is_leaf m u) (is_a m u t) leaf
    where
      by : (a b : Bool) → IsTrue a → ((1 - (if a && b then 1 else 0)) == 1) ≡ not b
      by true true there = refl
      by true false there = refl
      by false b there = absurd (false≢true there)

-- a number that is no type has nothing under it
pub none_under : (m : Model) (t : ℕ) → length m.types ≤ t → IsMask 0 (λ v. is_leaf m v && is_a m v t)
none_under m t outside u = bit_at-zero u ∙ by (is_leaf m u) (is_a m u t) (is_a_outside m u t (inr outside))
  where
    by : (a b : Bool) → b ≡ false → ◌≡◌ {A = ℕ} 0 (if a && b then 1 else 0)
    by true false none = refl
    by false false none = refl
    by a true none = absurd (false≢true (sym none))
