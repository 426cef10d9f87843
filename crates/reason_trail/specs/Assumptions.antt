-- What a trail rests on: what was assumed, and what its reasons ask for.
use Rattle.std.specs.Prelude.{◌≡◌, ℕ, Bool, false, IsTrue, IsFalse, Option, None, Some, List}
use Rattle.std.specs.List.{list_any, filter_map}
use Rattle.base_laws.specs.Places.{IsAt}
use Rattle.config_value.specs.declared.configuration.Instance.{Instance}
use Rattle.config_value.specs.declared.literal.Literal.{Literal}
use Rattle.config_value.specs.Satisfies.{satisfies}
use Rattle.literal_book.specs.Nogoods.{asks_for, has_literals, IsSound}
use Rattle.state_space.specs.Covers.{Covers}
use Rattle.state_space.specs.Described.{entails_all}
use Rattle.reason_trail.specs.declared.entry.Entry.{Entry}
use Rattle.reason_trail.specs.declared.reason.Reason.{Reason}
use Rattle.reason_trail.specs.declared.reason.Why.{Why}
use Rattle.reason_trail.specs.declared.reason.Why.TheVariants.{Assumed, Written, Here}
use Rattle.reason_trail.specs.Jobs.{Task}
use Rattle.reason_trail.specs.Reasons.{IsSubject, SupportsFailure}
use Rattle.reason_trail.specs.Trails.{Trace, Stage, IsTrail}

-- the literal, where it was assumed
abbrev pub assumed_by : Entry → Option Literal
assumed_by e = elim e.why [
  | Assumed ↦ Some e.literal
  | Written r ↦ None
  | Here requests cut ↦ None
]

-- The literals that were assumed, in order.
abbrev pub assumed : Trace → List Literal
assumed t = filter_map (λ g. assumed_by g.entry) t.stages

-- whether why a literal holds names the cut
abbrev pub names_cut : Why → Bool
names_cut Assumed = false
names_cut (Written r) = r.cut
names_cut (Here requests cut) = cut

-- Some entry's reason names the cut.
abbrev pub some_names_cut : Trace → Bool
some_names_cut t = list_any (λ g. names_cut g.entry.why) t.stages

-- the requests that why a literal holds asks for: none, where it was assumed
abbrev pub asked_by : Why → ℕ
asked_by Assumed = 0
asked_by (Written r) = r.requests
asked_by (Here requests cut) = requests

-- each request that the one mask asks for, the other asks for
abbrev pub AreAmong : ℕ → ℕ → Type 0
AreAmong asked requests =
    (k : ℕ) → IsTrue (asks_for asked k) → IsTrue (asks_for requests k)

-- the configuration is one that the reason speaks of; what was assumed speaks of all
abbrev pub IsSubjectOf : Task → List Instance → Why → Type 0
IsSubjectOf j c Assumed = Unit {0}
IsSubjectOf j c (Written r) = IsSubject j None r.requests r.cut c
IsSubjectOf j c (Here requests cut) = IsSubject j None requests cut c

-- A configuration that satisfies the model, has what was assumed, and is one that each reason
-- speaks of, is covered by the state of the trail.
abbrev pub AssumedIsCovered : Type 0
AssumedIsCovered =
    (t : Trace) (c : List Instance) → IsTrail t → IsTrue (satisfies t.job.model c)
    → IsTrue (has_literals t.job.model c (assumed t))
    → ((n : ℕ) (g : Stage) → IsAt t.stages n g → IsSubjectOf t.job c g.entry.why)
    → Covers t.job.model t.state c

-- So the assumed literals alone make a sound nogood, of all requests that the reasons ask for,
-- where neither the reason of a failure nor one on the trail names the cut.
abbrev pub AssumedIsNogood : Type 0
AssumedIsNogood =
    (t : Trace) (r : Reason) (requests : ℕ) → IsTrail t → IsFalse r.cut → some_names_cut t ≡ false
    → SupportsFailure t.job None r → entails_all t.job.model t.state r.literals
    → AreAmong r.requests requests
    → ((n : ℕ) (g : Stage) → IsAt t.stages n g → AreAmong (asked_by g.entry.why) requests)
    → IsSound t.job.model t.job.order (record { requests = requests; literals = assumed t })
