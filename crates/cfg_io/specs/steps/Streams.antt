-- What is taken of a reader, where it tells its bytes.
use Rattle.std.specs.Prelude.{◌≡◌, ℕ, List, ◌++◌, ◌≤◌, length}
use Rattle.std.specs.declared.option.Option.{Option}
use Rattle.std.specs.Io.KnownBytes.{Consumes}

-- what the reader lost was added to the bytes
pub record Moves (old new : Option (List ℕ)) (before after : List ℕ) : Type 0 where
  pub piece : List ℕ
  pub taken : Consumes old new piece
  pub added : after ≡ before ++ piece

-- the reader lost at most so many bytes
pub record TakesAtMost (most : ℕ) (old new : Option (List ℕ)) : Type 0 where
  pub piece : List ℕ
  pub taken : Consumes old new piece
  pub within : length piece ≤ most
