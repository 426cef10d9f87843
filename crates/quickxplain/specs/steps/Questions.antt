-- How often the narrowing of a range asks.
use Rattle.std.specs.Prelude.{ℕ, ◌+◌, ◌*◌, ◌^◌, ◌≤◌}

-- With k requests kept of a range, whose length 2 to the power l is at least, it asks at most 2 k l
-- times, beside the first questions.
abbrev pub AsksWithin : ℕ → ℕ → ℕ → ℕ → ℕ → Type 0
AsksWithin before after first range k =
    (l : ℕ) → range ≤ 2 ^ l → after ≤ before + first + 2 * k * l
