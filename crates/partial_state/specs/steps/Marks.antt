-- How the masks of types are made, bit by bit.
use Rattle.std.specs.Prelude.{◌≡◌, ℕ, Bool, ◌&&◌, ◌==◌, nat_lt, List, length, slice_index, if◌then◌else◌}
use Rattle.std.specs.Int.{bit_at}
use Rattle.prod_model.specs.declared.model.Model.{Model}
use Rattle.prod_model.specs.Forest.{is_leaf}

-- bit t is set in the masks whose place passes, and all other bits stay
pub record Marks (t : ℕ) (test : ℕ → Bool) (old new : List ℕ) : Type 0 where
  pub long : length new ≡ length old
  pub bits : (k a : ℕ) → bit_at (slice_index new a) k
      ≡ (if (k == t) && test a then 1 else bit_at (slice_index old a) k)

-- so many masks have the leaves before type t that have what stands at their place
pub record AreMarked (m : Model) (has : ℕ → ℕ → Bool) (count t : ℕ) (masks : List ℕ)
    : Type 0 where
  pub long : length masks ≡ count
  pub bits : (k a : ℕ) → bit_at (slice_index masks a) k
      ≡ (if nat_lt k t && (is_leaf m k && has k a) then 1 else 0)
