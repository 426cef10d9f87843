-- Gaps of a set of whole numbers.
use Rattle.std.specs.Prelude.{◌≡◌, ℤ, ◌≤ℤ◌, Bool, false, IsTrue, Option, None, Some}

-- the number is missing, although a greater one is there
pub record IsGap (has : ℤ → Bool) (v : ℤ) : Type 0 where
  pub missing : has v ≡ false
  pub greater : ℤ
  pub above : v ≤ℤ greater
  pub there : IsTrue (has greater)

-- the first gap from a number on, or that there is none
abbrev pub IsNextGap : (ℤ → Bool) → ℤ → Option ℤ → Type 0
IsNextGap has from None = (v : ℤ) → from ≤ℤ v → ¬ IsGap has v
IsNextGap has from (Some v) =
    (from ≤ℤ v) × IsGap has v × ((u : ℤ) → from ≤ℤ u → IsGap has u → v ≤ℤ u)
