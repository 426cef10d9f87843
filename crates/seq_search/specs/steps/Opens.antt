-- Open branches as lengths of one trail.
use Rattle.std.specs.Prelude.{◌≡◌, ℕ, ◌-◌, ◌≤◌, IsTrue, IsFalse, Option, IfSome, List, [], ◌∷◌, map, length, take}
use Rattle.std.specs.List.{All, AllByRecursion}
use Rattle.prod_model.specs.declared.model.Model.{Model}
use Rattle.config_value.specs.declared.configuration.Instance.{Instance}
use Rattle.literal_book.specs.declared.nogood.Nogood.{Nogood}
use Rattle.literal_book.specs.declared.nogood.Piece.{Piece}
use Rattle.literal_book.specs.Nogoods.{IsSound}
use Rattle.state_space.specs.Entails.{entails, fits}
use Rattle.reason_trail.specs.Jobs.{Task, IsWanted}
use Rattle.reason_trail.specs.Trails.{Trace, length_of, state_at}
use Rattle.nogood_store.specs.Stores.{Held}
use Rattle.seq_search.specs.declared.open_branch.OpenBranch.{OpenBranch}
use Rattle.seq_search.specs.OpenBranches.{Open}
use Rattle.seq_search.specs.Accounts.{AccountsForAll}
use Rattle.seq_search.specs.Searches.{Search}

-- the branch that was left at a length of the trail
abbrev pub open_at : Trace → OpenBranch → Open
open_at t k = record { state = state_at t k.len; literal = k.literal }

-- the branches that were left so
abbrev pub opens : Trace → List OpenBranch → List Open
opens t kept = map (open_at t) kept

-- all but the last
abbrev pub but_last : {A : Type 0} → List A → List A
but_last xs = take (length xs - 1) xs

-- the lengths don't fall, from one to another
abbrev pub IsStacked : ℕ → ℕ → List OpenBranch → Type 0
IsStacked low high [] = low ≤ high
IsStacked low high (k ∷ ks) = (low ≤ k.len) × IsStacked k.len high ks

-- its literal fits its state, which does not entail it
abbrev pub MayBeTaken : Model → Open → Type 0
MayBeTaken m b = IfSome b.literal (λ l. IsTrue (fits m b.state l) × IsFalse (entails m b.state l))

-- The branches are lengths of the trail, none below the one before it, and each may be taken. All
-- that is sought is accounted for, and the best so far is wanted.
pub record IsStanding (j : Task) (t : Trace) (piece : Piece) (branches : List OpenBranch)
    (best : Option (List Instance)) : Type 0 where
  pub stacked : IsStacked 0 (length_of t) branches
  pub takable : AllByRecursion (MayBeTaken j.model) (opens t branches)
  pub accounts : AccountsForAll j piece (opens t branches) best
  pub wanted : IfSome best (IsWanted j)

-- What always holds of the parts of a search: its propagator and its store are of its job, and what
-- it learnt is sound.
pub record IsKept (made_for : Task) (t : Trace) (h : Held) (piece : Piece) (branches : List OpenBranch)
    (best : Option (List Instance)) (learnt : List Nogood) : Type 0 where
  pub props : made_for ≡ t.job
  pub model : h.model ≡ t.job.model
  pub order : h.order ≡ t.job.order
  pub standing : IsStanding t.job t piece branches best
  pub learnt_sound : All (IsSound t.job.model t.job.order) learnt

-- the search that the parts are
abbrev pub search_of : Trace → Held → Piece → List OpenBranch → Option (List Instance)
    → List Nogood → Search
search_of t h piece branches best learnt = record {
  job = t.job;
  piece = piece;
  branches = opens t branches;
  best = best;
  nogoods = h.nogoods;
  learnt = learnt;
}
