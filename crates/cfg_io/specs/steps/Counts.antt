-- How counts of faults are kept.
use Rattle.std.specs.Prelude.{ℕ, Bool, List, [], ◌∷◌, ◌++◌, if◌then◌else◌, ◌≤◌, ◌-◌, ◌^◌}
use Rattle.std.specs.List.{list_any}
use Rattle.std.specs.Str.{bytes_eq}
use Rattle.cfg_io.specs.Counts.{count_of}

-- a count is kept for the name
abbrev pub is_kept : List ℕ → List (List ℕ × ℕ) → Bool
is_kept name counts = list_any (λ c. bytes_eq c.0 name) counts

-- the counts with one for the name, which is 0 where none was kept
abbrev pub with_room : List ℕ → List (List ℕ × ℕ) → List (List ℕ × ℕ)
with_room name counts = if is_kept name counts then counts else counts ++ (name, 0) ∷ []

-- no count passes the last value of 64 bits
abbrev pub AreBounded : List (List ℕ × ℕ) → Type 0
AreBounded counts = (name : List ℕ) → count_of name counts ≤ 2 ^ 64 - 1
