-- What a search within a piece of a job is for.
use Rattle.std.specs.Prelude.{IsTrue, IsFalse, Option, List}
use Rattle.config_value.specs.declared.configuration.Instance.{Instance}
use Rattle.literal_book.specs.declared.nogood.Piece.{Piece}
use Rattle.literal_book.specs.Nogoods.{in_piece}
use Rattle.reason_trail.specs.Jobs.{Task, IsWanted, beats_best}

-- It is sought: it is wanted, and in the piece.
pub record IsSought (j : Task) (piece : Piece) (c : List Instance) : Type 0 where
  pub wanted : IsWanted j c
  pub within : IsTrue (in_piece j.model piece c)

-- Nothing that is sought beats the best so far. Where there is none, nothing is sought.
abbrev pub IsUnbeaten : Task → Piece → Option (List Instance) → Type 0
IsUnbeaten j piece best =
    (c : List Instance) → IsSought j piece c → IsFalse (beats_best j best c)
