-- What a search does when it goes on.
use Rattle.std.specs.Prelude.{◌≡◌, ◌≢◌, ◌↔◌, ◌⊎◌, ℕ, suc, ◌<◌, ◌≤◌, IsTrue, Some, IfSome, List, [], ◌∷◌, ◌++◌, map, length}
use Rattle.std.specs.List.{All}
use Rattle.config_value.specs.declared.configuration.Instance.{Instance}
use Rattle.config_value.specs.declared.literal.Literal.{Literal}
use Rattle.literal_book.specs.declared.nogood.Nogood.{Nogood}
use Rattle.state_space.specs.State.{State}
use Rattle.reason_trail.specs.Jobs.{Task, beats_best}
use Rattle.nogood_store.specs.Stores.{AppliesAt}
use Rattle.branch_cut.specs.Cuts.{IsCutDemanded}
use Rattle.seq_search.specs.declared.advance.Advance.{Advance}
use Rattle.seq_search.specs.declared.advance.Advance.TheVariants.{More, Done}
use Rattle.seq_search.specs.Quests.{IsSought}
use Rattle.seq_search.specs.OpenBranches.{Open, open_size}
use Rattle.seq_search.specs.Weights.{AreLess}
use Rattle.seq_search.specs.Searches.{Search}

-- A branch that takes the place of another: it is still to be narrowed, nothing more follows in its
-- state, no nogood that was held before applies there, and where there was a best it demands no cut.
pub record IsPut (Settled : Task → State → Type 0) (s : Search) (b : Open) : Type 0 where
  pub literal : Literal
  pub to_narrow : b.literal ≡ Some literal
  pub settled : Settled s.job b.state
  pub no_nogood : (place : ℕ)
      → ¬ AppliesAt s.job.model s.job.goal.keep b.state s.nogoods place
  pub no_cut : IfSome s.best (λ d. ¬ IsCutDemanded s.job b.state d)

-- The best is what it was, or a configuration that is sought and beats that.
abbrev pub IsKeptOrFound : Search → Search → Type 0
IsKeptOrFound s t =
    (t.best ≡ s.best) ⊎ ((d : List Instance) × (t.best ≡ Some d) × IsSought s.job s.piece d
    × IsTrue (beats_best s.job s.best d))

-- One node: an open branch goes, and at most two of less size take its place. At most one nogood is
-- learnt, which is then held and still to be given out.
pub record IsNode (Settled : Task → State → Type 0) (s t : Search) : Type 0 where
  pub before : List Open
  pub taken : Open
  pub after : List Open
  pub put : List Open
  pub were : s.branches ≡ before ++ taken ∷ after
  pub are : t.branches ≡ before ++ put ++ after
  pub less : AreLess (open_size s.job.model taken) (map (open_size s.job.model) put)
  pub each : All (IsPut Settled s) put
  pub same_job : t.job ≡ s.job
  pub same_piece : t.piece ≡ s.piece
  pub best : IsKeptOrFound s t
  pub more : List Nogood
  pub one_more : length more ≤ 1
  pub nogoods : t.nogoods ≡ s.nogoods ++ more
  pub learnt : t.learnt ≡ s.learnt ++ more

-- so many nodes, one after the other
pub data Expands (Settled : Task → State → Type 0) : ℕ → Search → Search → Type 0 where
  none : (s : Search) → Expands Settled 0 s s
  one_more : (n : ℕ) (s t u : Search) → Expands Settled n s t → IsNode Settled t u
      → Expands Settled (suc n) s u

-- What going on for some turns does: at most so many nodes are expanded. There is more exactly
-- where all turns were used and a branch is open. Done says that none is.
pub record IsAdvanced (Settled : Task → State → Type 0) (turns : ℕ) (s t : Search) (a : Advance)
    : Type 0 where
  pub nodes : ℕ
  pub few : nodes ≤ turns
  pub expanded : Expands Settled nodes s t
  pub more : (a ≡ More) ↔ ((nodes ≡ turns) × (t.branches ≢ []))
  pub done : (a ≡ Done) → t.branches ≡ []

-- After want of memory it stands as after some whole nodes, fewer than the turns.
pub record IsStopped (Settled : Task → State → Type 0) (turns : ℕ) (s t : Search) : Type 0 where
  pub nodes : ℕ
  pub fewer : nodes < turns
  pub expanded : Expands Settled nodes s t
