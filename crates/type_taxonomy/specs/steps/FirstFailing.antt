-- The first number that fails a test.
use Rattle.std.specs.Prelude.{ℕ, ◌<◌, Bool, IsTrue, IsFalse, Option, MatchOption}

-- none of the first so many numbers fails the test, or this is the first one that does
abbrev pub IsFirstFailing : (ℕ → Bool) → ℕ → Option ℕ → Type 0
IsFirstFailing passes n r =
    MatchOption r ((k : ℕ) → k < n → IsTrue (passes k))
    (λ t. (t < n) × IsFalse (passes t) × ((k : ℕ) → k < t → IsTrue (passes k)))
