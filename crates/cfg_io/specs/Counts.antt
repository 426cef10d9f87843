-- Counts of faults by name.
use Rattle.std.specs.Prelude.{ℕ, List, [], ◌∷◌, if◌then◌else◌}
use Rattle.std.specs.Str.{bytes_eq}
use Rattle.cfg_io.specs.Causes.{raised}

-- how often the name has failed
abbrev pub count_of : List ℕ → List (List ℕ × ℕ) → ℕ
count_of name [] = 0
count_of name (c ∷ cs) = if bytes_eq c.0 name then c.1 else count_of name cs

-- the counts after one more fault of the name
abbrev pub with_fault : List ℕ → List (List ℕ × ℕ) → List (List ℕ × ℕ)
with_fault name [] = (name, 1) ∷ []
with_fault name (c ∷ cs) =
    if bytes_eq c.0 name then (c.0, raised c.1) ∷ cs else c ∷ with_fault name cs
