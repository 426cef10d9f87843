-- Numbers cut to those of words.
use Rattle.std.specs.Prelude.{◌≡◌, ◌≤ℤ◌, ℕ, ℤ, pos, ◌⊎◌}

-- the number itself, or 64 where it is no less
abbrev pub IsClamped : ℤ → ℕ → Type 0
IsClamped n k = (pos k ≡ n) ⊎ ((k ≡ 64) × (pos 64 ≤ℤ n))
