-- What a shelf in memory holds, and what it answers.
use Rattle.std.specs.Prelude.{◌≡◌, ℕ, ◌≤◌, ◌==◌, ◌⊎◌, Bool, true, false, List, length, Some, None}
use Rattle.std.specs.List.{list_any}
use Rattle.cfg_io.specs.Causes.{raised}
use Rattle.cfg_io.specs.Counts.{with_fault}
use Rattle.cfg_io.specs.Shelves.{file, IsLonger}

-- its files, the numbers of the calls that are to fail, how many calls were made, and how often
-- each name has failed
pub record ShelfState : Type 0 where
  pub files : List (List ℕ × List ℕ)
  pub failing : List ℕ
  pub calls : ℕ
  pub faults : List (List ℕ × ℕ)

-- the next call is one of those that are to fail
abbrev pub is_to_fail : ShelfState → Bool
is_to_fail shelf = list_any (λ call. call == shelf.calls) shelf.failing

-- the next call is to fail, or no file has the name
abbrev pub Fails : ShelfState → List ℕ → Type 0
Fails shelf name = (is_to_fail shelf ≡ true) ⊎ (file name shelf.files ≡ None)

-- the next call is not to fail, and the first file of the name has these bytes, no more than
-- the limit
pub record Gives (shelf : ShelfState) (name : List ℕ) (limit : ℕ) (bytes : List ℕ) : Type 0 where
  pub passes : is_to_fail shelf ≡ false
  pub is : file name shelf.files ≡ Some bytes
  pub short : length bytes ≤ limit

-- the next call is not to fail, and the first file of the name has more bytes than the limit
pub record Exceeds (shelf : ShelfState) (name : List ℕ) (limit : ℕ) : Type 0 where
  pub passes : is_to_fail shelf ≡ false
  pub longer : IsLonger limit (file name shelf.files)

-- the shelf after one more call
abbrev pub after_call : ShelfState → ShelfState
after_call shelf = record shelf { calls = raised shelf.calls }

-- the shelf after one more call, which failed for this name
abbrev pub after_fault : List ℕ → ShelfState → ShelfState
after_fault name shelf = record shelf {
  calls = raised shelf.calls;
  faults = with_fault name shelf.faults;
}
