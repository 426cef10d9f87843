-- The forest of types as masks, in which bit t stands for the type of number t.
use Rattle.std.specs.Prelude.{◌≡◌, ℕ, ◌<◌, Bool, slice_index, if◌then◌else◌}
use Rattle.std.specs.Int.{bit_at}
use Rattle.prod_model.specs.declared.model.Model.{Model}
use Rattle.prod_model.specs.declared.type_masks.TypeMasks.{TypeMasks}
use Rattle.prod_model.specs.Forest.{is_a, is_leaf}

-- a bit is set exactly where the test holds
abbrev pub IsMask : ℕ → (ℕ → Bool) → Type 0
IsMask mask test = (t : ℕ) → bit_at mask t ≡ (if test t then 1 else 0)

-- the mask at u has the types that are u or under it, and the mask of the leaves has those
pub record AreMasks (m : Model) (masks : TypeMasks) : Type 0 where
  pub under : (u : ℕ) → u < 128 → IsMask (slice_index masks.under u) (λ t. is_a m t u)
  pub leaves : IsMask masks.leaves (is_leaf m)
