-- What always holds in a search with a cut: each configuration that is sought is accounted for.
use Rattle.std.specs.Prelude.{IsFalse, Option, List}
use Rattle.std.specs.List.{Contains}
use Rattle.config_value.specs.declared.configuration.Instance.{Instance}
use Rattle.literal_book.specs.declared.nogood.Piece.{Piece}
use Rattle.reason_trail.specs.Jobs.{Task, beats_best}
use Rattle.seq_search.specs.Quests.{IsSought}
use Rattle.seq_search.specs.OpenBranches.{Open, CoversOpen}

-- An open branch covers it, or it does not beat the best so far.
pub data IsAccounted (j : Task) (branches : List Open) (best : Option (List Instance))
    (c : List Instance) : Type 0 where
  covered : (b : Open) → Contains branches b → CoversOpen j.model b c
      → IsAccounted j branches best c
  no_better : IsFalse (beats_best j best c) → IsAccounted j branches best c

-- All that is sought is accounted for.
abbrev pub AccountsForAll : Task → Piece → List Open → Option (List Instance) → Type 0
AccountsForAll j piece branches best =
    (c : List Instance) → IsSought j piece c → IsAccounted j branches best c
