-- Trails: the states that were passed on the way down, each with the literal that led on from it,
-- and why that literal holds.
use Rattle.std.specs.Prelude.{◌≡◌, ◌≢◌, ◌≤◌, ℕ, suc, IsTrue, List, [], ◌∷◌, ◌++◌, length, take, slice_get}
use Rattle.std.specs.Option.{option_map_or}
use Rattle.base_laws.specs.Places.{IsAt}
use Rattle.config_value.specs.declared.literal.Literal.{Literal}
use Rattle.domain_store.specs.declared.change.Change.{Change}
use Rattle.domain_store.specs.declared.change.Change.TheVariants.{Smaller, Empty}
use Rattle.state_space.specs.State.{State, IsState}
use Rattle.state_space.specs.Entails.{entails, fits}
use Rattle.state_space.specs.Changes.{ChangesBy}
use Rattle.state_space.specs.Root.{root}
use Rattle.state_space.specs.Unshared.{IsWide}
use Rattle.reason_trail.specs.declared.entry.Entry.{Entry}
use Rattle.reason_trail.specs.declared.reason.Why.{Why}
use Rattle.reason_trail.specs.Jobs.{Task, IsTask}
use Rattle.reason_trail.specs.Reasons.{IsWhy}

-- an entry, and the state before it
pub record Stage : Type 0 where
  pub before : State
  pub entry : Entry

-- A trail: its job, its stages, the oldest first, and the state that it has come to.
pub record Trace : Type 0 where
  pub job : Task
  pub stages : List Stage
  pub state : State

-- how many entries there are
abbrev pub length_of : Trace → ℕ
length_of t = length t.stages

-- the state that the trail had at a length
abbrev pub state_at : Trace → ℕ → State
state_at t n = option_map_or (λ g. g.before) (slice_get t.stages n) t.state

-- ---- what always holds

-- The entry's literal fits the state before it, and its change leaves less: the state after it. Why
-- it holds is said of the state before.
pub record IsStage (j : Task) (g : Stage) (after : State) : Type 0 where
  pub fitting : IsTrue (fits j.model g.before g.entry.literal)
  pub changed : ChangesBy j.model g.entry.literal Smaller g.before after
  pub because : IsWhy j g.before g.entry.literal g.entry.why

-- Its job is one, it begins with the root state, and each entry leads from state to state. All of
-- them are states of the problem, which are wide in what not all possible types have.
pub record IsTrail (t : Trace) : Type 0 where
  pub task : IsTask t.job
  pub begins : state_at t 0 ≡ root t.job.model
  pub each : (n : ℕ) (g : Stage) → IsAt t.stages n g → IsStage t.job g (state_at t (suc n))
  pub states : (n : ℕ) → n ≤ length_of t → IsState t.job.model (state_at t n)
  pub wide : (n : ℕ) → n ≤ length_of t → IsWide t.job.model (state_at t n)

-- ---- what calls do

-- the trail of a job without entries
abbrev pub started : Task → Trace
started j = record { job = j; stages = []; state = root j.model }

-- the trail with one more entry, and the state that it leads to
abbrev pub pushed : Trace → Literal → Why → State → Trace
pushed t l why after = record t {
  stages =
      t.stages ++ (record { before = t.state; entry = record { literal = l; why = why } }) ∷ [];
  state = after;
}

-- the trail as it was at a length
abbrev pub cut_to : Trace → ℕ → Trace
cut_to t n = record t { stages = take n t.stages; state = state_at t n }

-- What the change of a trail by a literal answers: what the literal does to its state. Where less
-- is left there is one more entry; else nothing changes.
pub record IsPushed (l : Literal) (why : Why) (change : Change) (old new : Trace)
    : Type 0 where
  pub changed : ChangesBy old.job.model l change old.state new.state
  pub smaller : change ≡ Smaller → new ≡ pushed old l why new.state
  pub same : change ≢ Smaller → new ≡ old
  pub entailed : change ≢ Empty → IsTrue (entails old.job.model new.state l)

-- the new trail has the old one's stages, and more
pub record Extends (old new : Trace) : Type 0 where
  pub job : new.job ≡ old.job
  pub longer : length_of old ≤ length_of new
  pub begins : cut_to new (length_of old) ≡ old
