-- A search within a piece of a job.
use Rattle.std.specs.Prelude.{◌≡◌, ℕ, Option, None, Some, IfSome, List, [], ◌∷◌, ◌++◌, ◌≤◌, ◌<◌, ◌↔◌, ◌≢◌, map, length, if◌then◌else◌}
use Rattle.std.specs.List.{All}
use Rattle.config_value.specs.declared.configuration.Instance.{Instance}
use Rattle.literal_book.specs.declared.nogood.Nogood.{Nogood}
use Rattle.literal_book.specs.declared.nogood.Piece.{Piece}
use Rattle.literal_book.specs.Nogoods.{IsSound}
use Rattle.reason_trail.specs.Jobs.{Task, IsTask, IsWanted, beats_best}
use Rattle.literal_book.specs.declared.added.Added.{Added}
use Rattle.literal_book.specs.declared.added.Added.TheVariants.{Added as IsLast, Full, TooLong}
use Rattle.nogood_store.specs.Stores.{most_nogoods, most_literals}
use Rattle.seq_search.specs.Accounts.{AccountsForAll}
use Rattle.seq_search.specs.OpenBranches.{Open, open_size}
use Rattle.seq_search.specs.Weights.{weight_of}

-- A search: its job and its piece, the open branches, the best so far, the nogoods that it holds,
-- and those that it learnt and has not given out yet, the oldest first.
pub record Search : Type 0 where
  pub job : Task
  pub piece : Piece
  pub branches : List Open
  pub best : Option (List Instance)
  pub nogoods : List Nogood
  pub learnt : List Nogood

-- how many literals a piece has at most
abbrev pub most_in_piece : ℕ
most_in_piece = 32

-- The search of a piece at its start: at most one branch is open, and nothing is found or held.
pub record IsBegun (j : Task) (p : Piece) (s : Search) : Type 0 where
  pub job : s.job ≡ j
  pub piece : s.piece ≡ p
  pub one : length s.branches ≤ 1
  pub none_found : s.best ≡ None
  pub none_held : s.nogoods ≡ []
  pub none_learnt : s.learnt ≡ []

-- how much is left of it at most
abbrev pub weight_left : Search → ℕ
weight_left s = weight_of (map (open_size s.job.model) s.branches)

-- What always holds of a search: all that is sought is accounted for, the best so far is wanted,
-- and each nogood is sound.
pub record IsSearch (s : Search) : Type 0 where
  pub task : IsTask s.job
  pub accounts : AccountsForAll s.job s.piece s.branches s.best
  pub wanted : IfSome s.best (IsWanted s.job)
  pub sound : All (IsSound s.job.model s.job.order) s.nogoods
  pub learnt_sound : All (IsSound s.job.model s.job.order) s.learnt

-- ---- what is given and taken

-- the search that has given out what it learnt first
abbrev pub with_learnt : Search → List Nogood → Search
with_learnt s learnt = record s { learnt = learnt }

-- the search that was told of a wanted configuration: it is the best where it beats that
abbrev pub lowered : Search → List Instance → Search
lowered s c = record s { best = if beats_best s.job s.best c then Some c else s.best }

-- the search that holds one nogood more
abbrev pub holding : Search → Nogood → Search
holding s n = record s { nogoods = s.nogoods ++ n ∷ [] }

-- What the import of a nogood answers and does: too long exactly above the most literals; else full
-- exactly where the most nogoods are held; else it is held, as the last.
pub record IsImported (n : Nogood) (a : Added) (s t : Search) : Type 0 where
  pub too_long : (a ≡ TooLong) ↔ (most_literals < length n.literals)
  pub full : (a ≡ Full)
      ↔ ((length n.literals ≤ most_literals) × (most_nogoods ≤ length s.nogoods))
  pub added : a ≡ IsLast → t ≡ holding s n
  pub unchanged : a ≢ IsLast → t ≡ s
