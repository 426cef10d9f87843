-- What is added to a writer, where it tells its bytes.
use Rattle.std.specs.Prelude.{◌≡◌, ℕ, List, ◌++◌}
use Rattle.std.specs.declared.option.Option.{Option}
use Rattle.std.specs.Io.KnownBytes.{Appends}

-- the writer got the piece but for the rest at its end
pub record Leaves (old new : Option (List ℕ)) (piece rest : List ℕ) : Type 0 where
  pub front : List ℕ
  pub parts : piece ≡ front ++ rest
  pub written : Appends old new front

-- the writer got the piece from its front on, or a part of it
pub record GetsFront (old new : Option (List ℕ)) (piece : List ℕ) : Type 0 where
  pub rest : List ℕ
  pub leaves : Leaves old new piece rest
