-- How a trail is kept: one state, the log of its changes, and for each entry how long the log was.
use Rattle.std.specs.Prelude.{◌≡◌, ◌<◌, ◌≤◌, ◌^◌, ℕ, suc, List, map, length, drop}
use Rattle.base_laws.specs.Places.{IsAt}
use Rattle.state_space.specs.State.{State}
use Rattle.state_space.specs.Root.{root}
use Rattle.state_space.specs.Undo.{OldValue, undone}
use Rattle.reason_trail.specs.declared.entry.Marked.{Marked}
use Rattle.reason_trail.specs.Jobs.{Task}
use Rattle.reason_trail.specs.Trails.{Trace, Stage, IsTrail}

-- The stage of a kept entry: going back over the log to the length that it had then brings the
-- state before the entry back.
abbrev pub stage_of : List OldValue → State → Marked → Stage
stage_of log s e = record { before = undone (drop e.mark log) s; entry = e.entry }

-- the trail that is kept so
abbrev pub trace_of : Task → State → List OldValue → List Marked → Trace
trace_of j s log entries = record { job = j; stages = map (stage_of log s) entries; state = s }

-- No entry was made when the log was longer than it is, and none at a longer log than a later one.
pub record AreMarks (log : List OldValue) (entries : List Marked) : Type 0 where
  pub within : (n : ℕ) (e : Marked) → IsAt entries n e → e.mark ≤ length log
  pub ascending : (n : ℕ) (e f : Marked) → IsAt entries n e → IsAt entries (suc n) f
      → e.mark ≤ f.mark

-- What a trail keeps is right: it is a trail, its marks are, it has the root state beside it, and
-- fewer entries than are counted.
pub record IsKept (j : Task) (first s : State) (log : List OldValue) (entries : List Marked)
    : Type 0 where
  pub trail : IsTrail (trace_of j s log entries)
  pub marks : AreMarks log entries
  pub begins : first ≡ root j.model
  pub few : length entries < 2 ^ 32
