-- What has all that was assumed is covered by the state of a trail; so a failure there is a nogood.
use Rattle.std.proofs.Common.{◌≡◌, ℕ, zero, suc, ◌<◌, ◌≤◌, Bool, true, false, not, ◌&&◌, ◌||◌, List, [], ◌∷◌, length, refl, ap, sym, ◌∙◌, subst, Some, None, Option, inl, inr, arith}
use Rattle.std.proofs.lemmas.Bool.{and_parts, false≢true}
use Rattle.std.proofs.lemmas.Option.{same_Some, none-some, slice_get_cases, slice_get_past}
use Rattle.std.specs.Prelude.{IsTrue, IsFalse}
use Rattle.std.specs.Option.{option_map_or}
use Rattle.std.specs.List.{list_all, list_any, filter_map, cons_option, enumerate_from}
use Rattle.base_laws.specs.Places.{IsAt}
use Rattle.base_laws.proofs.Tests.{list_all_by, list_any_from}
use Rattle.prod_model.specs.declared.model.Request.{Request}
use Rattle.config_value.specs.declared.configuration.Instance.{Instance}
use Rattle.config_value.specs.declared.literal.Literal.{Literal}
use Rattle.config_value.specs.Shaped.{is_shaped}
use Rattle.config_value.specs.ShapedSentences.{HasShape}
use Rattle.config_value.specs.Numbered.{is_numbered}
use Rattle.config_value.specs.Satisfies.{satisfies, follows_rules, meets}
use Rattle.config_value.specs.Literals.{has_literal}
use Rattle.config_value.proofs.ShapedSentences.{shaped_sentences}
use Rattle.domain_store.specs.declared.change.Change.TheVariants.{Smaller}
use Rattle.literal_book.specs.Nogoods.{asks_for, meets_asked, has_literals, excludes}
use Rattle.state_space.specs.State.{State, IsState}
use Rattle.state_space.specs.Covers.{Covers}
use Rattle.state_space.specs.Entails.{entails}
use Rattle.state_space.specs.Described.{entails_all}
use Rattle.state_space.proofs.EntailsLaws.{entailed_holds}
use Rattle.state_space.proofs.ValidStates.{change_keeps}
use Rattle.state_space.proofs.RootLaws.{root_covers}
use Rattle.reason_trail.specs.declared.reason.Reason.{Reason}
use Rattle.reason_trail.specs.declared.reason.Why.{Why}
use Rattle.reason_trail.specs.declared.reason.Why.TheVariants.{Assumed, Written, Here}
use Rattle.reason_trail.specs.Jobs.{Task}
use Rattle.reason_trail.specs.Reasons.{SupportsFailure, IsWhy}
use Rattle.reason_trail.specs.Trails.{Trace, Stage, IsTrail, length_of, state_at}
use Rattle.reason_trail.specs.Assumptions.{assumed_by, assumed, names_cut, some_names_cut, IsSubjectOf, AssumedIsCovered, asked_by, AreAmong, AssumedIsNogood}

-- ---- lists

-- what passes for all that is given passes for what an element gives
given_passes : {X Y : Type 0} (p : Y → Bool) (h : X → Option Y) (xs : List X) (k : ℕ) (x : X) (y : Y) → IsTrue (list_all p (filter_map h xs))
    → IsAt xs k x → h x ≡ Some y → IsTrue (p y)
given_passes p h [] k x y all at gives = absurd (none-some x at)
given_passes {X} {Y} p h (z ∷ xs) zero x y all at gives =
    let first : h z ≡ Some y = ap h (same_Some z x at) ∙ gives in
    let whole : IsTrue (list_all p (cons_option (Some y) (filter_map h xs))) = subst (λ o. IsTrue (list_all p (cons_option o (filter_map h xs)))) first all in
    (and_parts (p y) (list_all p (filter_map h xs)) whole).0
given_passes {X} {Y} p h (z ∷ xs) (suc k) x y all at gives = given_passes p h xs k x y (rest (h z) all) at gives
  where
    rest : (o : Option Y) → IsTrue (list_all p (cons_option o (filter_map h xs))) → IsTrue (list_all p (filter_map h xs))
    rest None whole = whole
    rest (Some w) whole = (and_parts (p w) (list_all p (filter_map h xs)) whole).1

-- what no element passes is false at each place
none_at : {X : Type 0} (p : X → Bool) (xs : List X) (k : ℕ) (x : X) → list_any p xs ≡ false → IsAt xs k x → p x ≡ false
none_at p xs k x none at = by (p x) refl
  where
    by : (b : Bool) → p x ≡ b → b ≡ false
    by false is = refl
    by true is = absurd (false≢true (sym none ∙ list_any_from p xs k x at is))

-- ---- the literal of an entry

-- all that a state entails holds in a covered configuration
entailed_hold : (j : Task) (s : State) (c : List Instance) (literals : List Literal) → IsState j.model s → Covers j.model s c → entails_all j.model s literals
    → IsTrue (has_literals j.model c literals)
entailed_hold j s c literals state covers entailed =
    list_all_by (entails j.model s) (has_literal j.model c) (λ l e. entailed_holds j.model s l c state e covers) literals entailed

-- A covered configuration that has what was assumed, and is one that the reason speaks of, has the literal.
has_entry : (j : Task) (s : State) (c : List Instance) (l : Literal) (why : Why) → IsState j.model s → Covers j.model s c → IsWhy j s l why → IsSubjectOf j c why
    → (assumed_by (record { literal = l; why = why }) ≡ Some l → IsTrue (has_literal j.model c l)) → IsTrue (has_literal j.model c l)
has_entry j s c l Assumed state covers because subject has = has refl
has_entry j s c l (Written r) state covers because subject has = because.0 c subject (entailed_hold j s c r.literals state covers because.1)
has_entry j s c l (Here requests cut) state covers because subject has = because c subject covers

-- ---- along the stages

-- what satisfies the model is shaped and numbered
record IsFormed (t : Trace) (c : List Instance) : Type 0 where
  pub shaped : HasShape t.job.model c
  pub numbered : IsTrue (is_numbered c)

satisfied_is_formed : (t : Trace) (c : List Instance) → IsTrue (satisfies t.job.model c) → IsFormed t c
unfolding satisfies
satisfied_is_formed t c satisfied =
    let m = t.job.model in
    let parts = and_parts (is_shaped m c) (is_numbered c) (and_parts (is_shaped m c && is_numbered c) (follows_rules m c) satisfied).0 in
    record { shaped = (shaped_sentences m c).0 parts.0; numbered = parts.1 }

-- the state at a place is the one before the entry there
state_at_place : (t : Trace) (n : ℕ) (g : Stage) → IsAt t.stages n g → state_at t n ≡ g.before
state_at_place t n g at = ap (λ o. option_map_or (λ h. h.before) o t.state) at

-- a stage stands at each place below the length
stage_at : (t : Trace) (n : ℕ) → n < length_of t → (g : Stage) × IsAt t.stages n g
stage_at t n within = elim (slice_get_cases t.stages n).1 [
  | inl inside ↦ (inside.0, inside.2)
  | inr past ↦ absurd (let far = past.0 in omega arith)
]

-- Each state on the way covers it.
covered_at : (t : Trace) (c : List Instance) → IsTrail t → IsTrue (satisfies t.job.model c) → IsTrue (has_literals t.job.model c (assumed t))
    → ((n : ℕ) (g : Stage) → IsAt t.stages n g → IsSubjectOf t.job c g.entry.why) → (n : ℕ) → n ≤ length_of t → Covers t.job.model (state_at t n) c
covered_at t c trail satisfied has subjects zero within =
    subst (λ s. Covers t.job.model s c) (sym trail.begins) (root_covers t.job.model c trail.task.valid satisfied)
covered_at t c trail satisfied has subjects (suc n) within =
    let m = t.job.model in
    let formed = satisfied_is_formed t c satisfied in
    let place = stage_at t n (omega arith) in
    let g = place.0 in
    let stage = trail.each n g place.1 in
    let before = state_at_place t n g place.1 in
    let covers = subst (λ s. Covers m s c) before (covered_at t c trail satisfied has subjects n (omega arith)) in
    let state = subst (λ s. IsState m s) before (trail.states n (omega arith)) in
    let holds = has_entry t.job g.before c g.entry.literal g.entry.why state covers stage.because (subjects n g place.1)
    (λ was. given_passes (has_literal m c) (λ h. assumed_by h.entry) t.stages n g g.entry.literal has place.1 was) in
    change_keeps m g.entry.literal Smaller g.before (state_at t (suc n)) c trail.task.valid state stage.fitting stage.changed (λ e. absurd cc)
    covers formed.shaped formed.numbered holds

-- the last state is the one that the trail has come to
last_state : (t : Trace) → state_at t (length_of t) ≡ t.state
last_state t = ap (λ o. option_map_or (λ h. h.before) o t.state) (slice_get_past t.stages (length t.stages) (omega arith))

pub assumed_is_covered : AssumedIsCovered
assumed_is_covered t c trail satisfied has subjects =
    subst (λ s. Covers t.job.model s c) (last_state t) (covered_at t c trail satisfied has subjects (length_of t) (omega arith))

-- ---- a sound nogood

-- what meets all requests of a mask meets those of one whose requests are among them
meets_fewer : (t : Trace) (c : List Instance) (asked requests : ℕ) → AreAmong asked requests → IsTrue (meets_asked t.job.model t.job.order requests c)
    → IsTrue (meets_asked t.job.model t.job.order asked c)
meets_fewer t c asked requests among met =
    list_all_by (λ e. not (asks_for requests e.0) || meets t.job.model c e.1) (λ e. not (asks_for asked e.0) || meets t.job.model c e.1)
    (λ e. by e.0 e.1 (asks_for asked e.0) refl) (enumerate_from 0 t.job.order.requests) met
  where
    by : (k : ℕ) (r : Request) (b : Bool) → asks_for asked k ≡ b → IsTrue (not (asks_for requests k) || meets t.job.model c r)
        → IsTrue (not b || meets t.job.model c r)
    by k r false is met = refl
    by k r true is met = subst (λ b. IsTrue (not b || meets t.job.model c r)) (among k is) met

-- It is one that each reason speaks of, where none names the cut.
subject_of : (t : Trace) (c : List Instance) (requests : ℕ) (why : Why) → IsTrue (satisfies t.job.model c)
    → IsTrue (meets_asked t.job.model t.job.order requests c) → names_cut why ≡ false → AreAmong (asked_by why) requests → IsSubjectOf t.job c why
subject_of t c requests Assumed satisfied met uncut among = tt
subject_of t c requests (Written r) satisfied met uncut among = record {
  satisfied = satisfied;
  met = meets_fewer t c r.requests requests among met;
  passed = λ named. absurd (false≢true (sym uncut ∙ named));
}
subject_of t c requests (Here asked cut) satisfied met uncut among = record {
  satisfied = satisfied;
  met = meets_fewer t c asked requests among met;
  passed = λ named. absurd (false≢true (sym uncut ∙ named));
}

-- a configuration that the nogood excludes has what was assumed and meets the requests, and so it is one without which nothing is left
none_excluded : (t : Trace) (r : Reason) (requests : ℕ) (c : List Instance) → IsTrail t → IsFalse r.cut → some_names_cut t ≡ false → SupportsFailure t.job None r
    → entails_all t.job.model t.state r.literals → AreAmong r.requests requests
    → ((n : ℕ) (g : Stage) → IsAt t.stages n g → AreAmong (asked_by g.entry.why) requests) → IsTrue (satisfies t.job.model c)
    → IsTrue (meets_asked t.job.model t.job.order requests c) → IsTrue (has_literals t.job.model c (assumed t)) → ⊥
none_excluded t r requests c trail uncut none supports entailed among each satisfied met has =
    let covers = assumed_is_covered t c trail satisfied has (λ n g at. subject_of t c requests g.entry.why satisfied met
    (none_at (λ h. names_cut h.entry.why) t.stages n g none at) (each n g at)) in
    let state = subst (λ s. IsState t.job.model s) (last_state t) (trail.states (length_of t) (omega arith)) in
    supports c (record {
      satisfied = satisfied;
      met = meets_fewer t c r.requests requests among met;
      passed = λ named. absurd (false≢true (sym uncut ∙ named));
    }) (entailed_hold t.job t.state c r.literals state covers entailed)

pub assumed_is_nogood : AssumedIsNogood
unfolding excludes
assumed_is_nogood t r requests trail uncut none supports entailed among each c satisfied =
    by (meets_asked t.job.model t.job.order requests c && has_literals t.job.model c (assumed t)) refl
  where
    by : (b : Bool) → (meets_asked t.job.model t.job.order requests c && has_literals t.job.model c (assumed t)) ≡ b → b ≡ false
    by false is = refl
    by true is =
        let parts = and_parts (meets_asked t.job.model t.job.order requests c) (has_literals t.job.model c (assumed t)) is in
        absurd (none_excluded t r requests c trail uncut none supports entailed among each satisfied parts.0 parts.1)
