-- What a node finds out about the branch that it takes.
use Rattle.std.specs.Prelude.{◌≡◌, ℕ, ◌≤◌, ◌++◌, IsTrue, IsFalse, Bool, true, false, Option, Some, IfSome, List, [], ◌∷◌, length}
use Rattle.std.specs.List.{All}
use Rattle.prod_model.specs.declared.model.Model.{Model}
use Rattle.prod_model.specs.declared.model.Order.{Order}
use Rattle.config_value.specs.declared.configuration.Instance.{Instance}
use Rattle.config_value.specs.Satisfies.{satisfies}
use Rattle.literal_book.specs.declared.nogood.Nogood.{Nogood}
use Rattle.literal_book.specs.declared.nogood.Piece.{Piece}
use Rattle.literal_book.specs.Nogoods.{IsSound}
use Rattle.domain_store.specs.declared.change.Change.{Change}
use Rattle.domain_store.specs.declared.change.Change.TheVariants.{Same, Smaller, Empty}
use Rattle.state_space.specs.State.{State}
use Rattle.state_space.specs.Covers.{Covers}
use Rattle.state_space.specs.Size.{size_of}
use Rattle.reason_trail.specs.Jobs.{Task, beats_best}
use Rattle.nogood_store.specs.Stores.{AppliesAt}
use Rattle.branch_cut.specs.declared.branch.Branch.{Branch}
use Rattle.branch_cut.specs.Cuts.{IsCutDemanded}
use Rattle.branch_cut.specs.Branching.{IsChoice, fits_either, entails_neither}
use Rattle.seq_search.specs.declared.found.Found.{Found}
use Rattle.seq_search.specs.declared.found.Found.TheVariants.{Ended, Learnt, Better, Split}
use Rattle.seq_search.specs.declared.open_branch.OpenBranch.{OpenBranch}
use Rattle.seq_search.specs.Quests.{IsSought}
use Rattle.seq_search.specs.OpenBranches.{Open, CoversOpen, open_size}

-- ---- a branch is taken

-- The branch was narrowed by its literal: the state q has all that it covers and is no larger, or,
-- where nothing is left, it covers nothing.
abbrev pub IsEntered : Model → Open → State → Bool → Type 0
IsEntered m b q true =
    ((c : List Instance) → IsTrue (satisfies m c) → CoversOpen m b c → Covers m q c)
    × (size_of m q ≤ open_size m b)
IsEntered m b q false = (c : List Instance) → IsTrue (satisfies m c) → ¬ CoversOpen m b c

-- whether a change leaves anything
abbrev pub is_left : Change → Bool
is_left Same = true
is_left Smaller = true
is_left Empty = false

-- ---- what is found

-- Nothing that is sought below beats the best so far.
abbrev pub IsBarren : Task → Piece → Option (List Instance) → (List Instance → Type 0) → Type 0
IsBarren j piece best Below =
    (c : List Instance) → IsSought j piece c → Below c → IsFalse (beats_best j best c)

-- It is sought and beats the best so far, and nothing else is sought below.
pub record IsBetter (j : Task) (piece : Piece) (best : Option (List Instance))
    (Below : List Instance → Type 0) (d : List Instance) : Type 0 where
  pub sought : IsSought j piece d
  pub better : IsTrue (beats_best j best d)
  pub only : (c : List Instance) → IsSought j piece c → Below c → c ≡ d

-- The state covers all that is sought below, no nogood applies there, no cut is demanded, and the two
-- literals part what it covers.
pub record IsSplit (j : Task) (piece : Piece) (nogoods : List Nogood) (best : Option (List Instance))
    (Below : List Instance → Type 0) (q : State) (b : Branch) : Type 0 where
  pub keeps : (c : List Instance) → IsSought j piece c → Below c → Covers j.model q c
  pub choice : IsChoice j.model q b
  pub fitting : IsTrue (fits_either j.model q b)
  pub unknown : IsTrue (entails_neither j.model q b)
  pub no_nogood : (place : ℕ) → ¬ AppliesAt j.model j.goal.keep q nogoods place
  pub no_cut : IfSome best (λ d. ¬ IsCutDemanded j q d)

-- what was found of what is below, in the state that was come to
abbrev pub IsFound : Task → Piece → List Nogood → Option (List Instance)
    → (List Instance → Type 0) → State → Found → Type 0
IsFound j piece nogoods best Below q Ended = IsBarren j piece best Below
IsFound j piece nogoods best Below q (Learnt n) =
    IsBarren j piece best Below × IsSound j.model j.order n
IsFound j piece nogoods best Below q (Better d) = IsBetter j piece best Below d
IsFound j piece nogoods best Below q (Split b) = IsSplit j piece nogoods best Below q b

-- the branch ends without a configuration
abbrev pub IsEnd : Found → Type 0
IsEnd Ended = Unit {0}
IsEnd (Learnt n) = Unit {0}
IsEnd (Better d) = ⊥
IsEnd (Split b) = ⊥

-- where it splits, this holds
abbrev pub IfSplit : Type 0 → Found → Type 0
IfSplit P Ended = Unit {0}
IfSplit P (Learnt l) = Unit {0}
IfSplit P (Better d) = Unit {0}
IfSplit P (Split b) = P

-- what the test of one configuration comes to: it is sought and beats the best so far, or not
abbrev pub IsTested : Task → Piece → Option (List Instance) → List Instance → Found → Type 0
IsTested j piece best c Ended = IsSought j piece c → IsFalse (beats_best j best c)
IsTested j piece best c (Learnt n) = ⊥
IsTested j piece best c (Better d) =
    (d ≡ c) × IsSought j piece d × IsTrue (beats_best j best d)
IsTested j piece best c (Split b) = ⊥

-- ---- what takes the place of the branch

-- the branches, in a state; the first literal is taken first, so it is last
abbrev pub branches_after : State → Found → List Open
branches_after q Ended = []
branches_after q (Learnt n) = []
branches_after q (Better d) = []
branches_after q (Split b) =
    (record { state = q; literal = Some b.second })
    ∷ (record { state = q; literal = Some b.first }) ∷ []

-- as two are kept, at a length of the trail
abbrev pub split_at : ℕ → Branch → List OpenBranch
split_at end b =
    (record { len = end; literal = Some b.second })
    ∷ (record { len = end; literal = Some b.first }) ∷ []

-- as they are kept, at the length that the trail has then
abbrev pub kept_after : ℕ → Found → List OpenBranch
kept_after end Ended = []
kept_after end (Learnt n) = []
kept_after end (Better d) = []
kept_after end (Split b) = split_at end b

-- the best then
abbrev pub best_after : Option (List Instance) → Found → Option (List Instance)
best_after best Ended = best
best_after best (Learnt n) = best
best_after best (Better d) = Some d
best_after best (Split b) = best

-- What a node learnt is one nogood more, or none, at the end of what is held and of what is still to
-- be given out.
pub record IsLearnt (m : Model) (o : Order) (old_held new_held old_learnt new_learnt : List Nogood)
    : Type 0 where
  pub more : List Nogood
  pub one_more : length more ≤ 1
  pub held : new_held ≡ old_held ++ more
  pub learnt : new_learnt ≡ old_learnt ++ more
  pub sound : All (IsSound m o) more
