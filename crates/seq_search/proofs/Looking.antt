-- What is found in a state is found below the branch that led to it.
use Rattle.std.proofs.Common.{◌≡◌, ℕ, zero, suc, ◌+◌, ◌-◌, ◌<◌, ◌≤◌, List, Option, true, false, ap, subst, sym, ◌∙◌, arith}
use Rattle.std.specs.Prelude.{IsTrue, IsFalse, IfOk, Result, Ok, Err}
use Rattle.std.proofs.lemmas.Bool.{true≢false}
use Rattle.config_value.specs.declared.configuration.Instance.{Instance}
use Rattle.config_value.specs.Satisfies.{satisfies}
use Rattle.literal_book.specs.declared.nogood.Nogood.{Nogood}
use Rattle.literal_book.specs.declared.nogood.Piece.{Piece}
use Rattle.literal_book.specs.Nogoods.{IsSound}
use Rattle.state_space.specs.State.{State, IsState}
use Rattle.state_space.specs.Covers.{Covers}
use Rattle.state_space.specs.Size.{size_of}
use Rattle.state_space.specs.Whole.{is_whole, whole_configuration}
use Rattle.state_space.proofs.FewLaws.{fitting_is_less}
use Rattle.reason_trail.specs.declared.reason.Reason.{Reason}
use Rattle.reason_trail.specs.Jobs.{Task, IsTask, IsWanted, beats_best}
use Rattle.reason_trail.specs.Propagators.{IsFailure, Filters}
use Rattle.reason_trail.specs.Trails.{Trace, Extends, IsTrail, length_of, state_at}
use Rattle.reason_trail.proofs.Trails.{element_at, state_at-stage, state_at-past}
use Rattle.nogood_store.specs.Stores.{Held, IsStore, AppliesAt}
use Rattle.seq_search.specs.declared.found.Found.{Found}
use Rattle.seq_search.specs.declared.found.Found.TheVariants.{Ended, Learnt, Better, Split}
use Rattle.seq_search.specs.Quests.{IsSought}
use Rattle.seq_search.specs.OpenBranches.{Open, CoversOpen, open_size}
use Rattle.seq_search.specs.steps.Nodes.{IsEntered, IsBarren, IsFound, IsEnd, IfSplit, IsTested}
use Rattle.seq_search.proofs.Along.{state_at-extended}
use Rattle.seq_search.proofs.Filtering.{nogood_ends, failure_ends, whole_covers_one}

-- ---- ends

-- a state in which a held nogood applies is barren
pub excluded_is_barren : (j : Task) (piece : Piece) (h : Held) (s : State) → IsStore h → h.model ≡ j.model → h.order ≡ j.order → IsState j.model s
    → (place : ℕ) × AppliesAt j.model j.goal.keep s h.nogoods place
    → (best : Option (List Instance)) → IsBarren j piece best (Covers j.model s)
excluded_is_barren j piece h s store model order state applies best c sought covers =
    let one = applies.1 in
    let sound : IsSound j.model j.order one.nogood =
    subst (λ o. IsSound j.model o one.nogood) order (subst (λ m. IsSound m h.order one.nogood) model (store.sound applies.0 one.nogood one.there)) in
    absurd (nogood_ends j s one.nogood state sound one.applies c sought.wanted covers)

-- one in which filtering fails is barren
pub failed_is_barren : (j : Task) (piece : Piece) (s : State) (r : Reason) → IsState j.model s → IsFailure j s r
    → (best : Option (List Instance)) → IsBarren j piece best (Covers j.model s)
failed_is_barren j piece s r state failure best c sought covers = absurd (failure_ends j s r state failure c sought.wanted covers)

-- one that covers nothing that satisfies the model is barren
pub stuck_is_barren : (j : Task) (piece : Piece) (s : State) → ((c : List Instance) → Covers j.model s c → satisfies j.model c ≡ false)
    → (best : Option (List Instance)) → IsBarren j piece best (Covers j.model s)
stuck_is_barren j piece s none best c sought covers = absurd (true≢false (sym sought.wanted.candidate.satisfied ∙ none c covers))

-- one that is dead beside the best so far is barren
pub dead_is_barren : (j : Task) (piece : Piece) (best : Option (List Instance)) (s : State)
    → ((c : List Instance) → IsTrue (satisfies j.model c) → Covers j.model s c → IsFalse (beats_best j best c))
    → IsBarren j piece best (Covers j.model s)
dead_is_barren j piece best s dead c sought covers = dead c sought.wanted.candidate.satisfied covers

-- ---- whole states

-- what the test of a whole state finds is found there
pub whole_found : (j : Task) (piece : Piece) (nogoods : List Nogood) (best : Option (List Instance)) (s : State) → IsTask j → IsState j.model s → IsTrue (is_whole s)
    → (found : Found) → IsTested j piece best (whole_configuration j.model s) found → IsFound j piece nogoods best (Covers j.model s) s found
whole_found j piece nogoods best s task state whole Ended tested = λ c sought covers.
    let is = whole_covers_one j s task state whole c sought.wanted covers in
    subst (λ x. IsFalse (beats_best j best x)) (sym is) (tested (subst (IsSought j piece) is sought))
whole_found j piece nogoods best s task state whole (Learnt n) tested = absurd tested
whole_found j piece nogoods best s task state whole (Better d) tested = record {
  sought = tested.1;
  better = tested.2;
  only = λ c sought covers. whole_covers_one j s task state whole c sought.wanted covers ∙ sym tested.0;
}
whole_found j piece nogoods best s task state whole (Split b) tested = absurd tested

-- ---- below a branch

-- what is found in a state is found of whatever it covers all of
pub found_below : (j : Task) (piece : Piece) (nogoods : List Nogood) (best : Option (List Instance)) (Below Above : List Instance → Type 0) (q : State)
    → ((c : List Instance) → IsSought j piece c → Below c → Above c)
    → (found : Found) → IsFound j piece nogoods best Above q found → IsFound j piece nogoods best Below q found
found_below j piece nogoods best Below Above q keeps Ended f = λ c sought below. f c sought (keeps c sought below)
found_below j piece nogoods best Below Above q keeps (Learnt n) f = (λ c sought below. f.0 c sought (keeps c sought below), f.1)
found_below j piece nogoods best Below Above q keeps (Better d) f = record { sought = f.sought; better = f.better; only = λ c sought below. f.only c sought (keeps c sought below) }
found_below j piece nogoods best Below Above q keeps (Split b) f = record {
  keeps = λ c sought below. f.keeps c sought (keeps c sought below);
  choice = f.choice;
  fitting = f.fitting;
  unknown = f.unknown;
  no_nogood = f.no_nogood;
  no_cut = f.no_cut;
}

-- what a branch covers that was entered and filtered, the state covers
pub still_covered : (j : Task) (piece : Piece) (t1 t2 : Trace) (b : Open) → t1.job ≡ j → IsEntered j.model b t1.state true → Filters t1 t2
    → (c : List Instance) → IsSought j piece c → CoversOpen j.model b c → Covers j.model t2.state c
still_covered j piece t1 t2 b job entered filters c sought covers =
    subst (λ k. Covers k.model t2.state c) job
    (filters.keeps c (subst (λ k. IsWanted k c) (sym job) sought.wanted)
    (subst (λ k. Covers k.model t1.state c) (sym job) (entered.0 c sought.wanted.candidate.satisfied covers)))

-- where nothing is left, nothing is found
pub nothing_left : (j : Task) (piece : Piece) (best : Option (List Instance)) (b : Open) (q : State) → IsEntered j.model b q false → IsBarren j piece best (CoversOpen j.model b)
nothing_left j piece best b q none c sought covers = absurd (none c sought.wanted.candidate.satisfied covers)

-- ---- splits

pub if_split : (P : Type 0) → P → (found : Found) → IfSplit P found
if_split P p Ended = tt
if_split P p (Learnt n) = tt
if_split P p (Better d) = tt
if_split P p (Split b) = p

pub end_splits_not : (P : Type 0) (found : Found) → IsEnd found → IfSplit P found
end_splits_not P Ended end = tt
end_splits_not P (Learnt n) end = tt
end_splits_not P (Better d) end = tt
end_splits_not P (Split b) end = absurd end

-- ---- sizes

-- along a trail the size of the state does not rise
size_falls : (t : Trace) → IsTrail t → (n k : ℕ) → n + k ≤ length_of t → size_of t.job.model (state_at t (n + k)) ≤ size_of t.job.model (state_at t n)
size_falls t right n zero within = subst (λ i. size_of t.job.model (state_at t i) ≤ size_of t.job.model (state_at t n)) (here n) (omega arith)
  where
    here : (n : ℕ) → n ≡ n + 0
    here n = omega arith
size_falls t right n (suc k) within =
    let m = t.job.model in
    let low : n + k < length_of t = omega (arith, within) in
    let g = element_at t.stages (n + k) low in
    let stage = right.each (n + k) g.0 g.1 in
    let before = state_at-stage t (n + k) g.0 g.1 in
    let state : IsState m g.0.before = subst (IsState m) before (right.states (n + k) (omega (arith, low))) in
    let less = fitting_is_less m g.0.entry.literal g.0.before (state_at t (suc (n + k))) right.task.valid state stage.fitting stage.changed in
    let same = ap (λ s. size_of m s) before in
    let rest = size_falls t right n k (omega (arith, low)) in
    subst (λ i. size_of m (state_at t i) ≤ size_of m (state_at t n)) (there n k) (omega (arith, less, same, rest))
  where
    there : (n k : ℕ) → suc (n + k) ≡ n + suc k
    there n k = omega arith

-- an extension has come to a state that is no larger
pub extended_size : (t1 t2 : Trace) → Extends t1 t2 → IsTrail t2 → size_of t2.job.model t2.state ≤ size_of t2.job.model t1.state
extended_size t1 t2 on right =
    let m = t2.job.model in
    let falls = size_falls t2 right (length_of t1) (length_of t2 - length_of t1) (let l = on.longer in omega (arith, l)) in
    let ends : length_of t1 + (length_of t2 - length_of t1) ≡ length_of t2 = (let l = on.longer in omega (arith, l)) in
    let last = ap (λ n. size_of m (state_at t2 n)) ends ∙ ap (λ s. size_of m s) (state_at-past t2 (length_of t2) (omega arith)) in
    let first = ap (λ s. size_of m s) (state_at-extended t1 t2 on (length_of t1) (omega arith) ∙ state_at-past t1 (length_of t1) (omega arith)) in
    omega (arith, falls, last, first)

-- so a branch that was entered and filtered has come to one that is no larger
pub lesser_below : (j : Task) (t1 t2 : Trace) (b : Open) → t1.job ≡ j → IsEntered j.model b t1.state true → Extends t1 t2 → IsTrail t2
    → size_of j.model t2.state ≤ open_size j.model b
lesser_below j t1 t2 b job entered on right =
    let falls = subst (λ k. size_of k.model t2.state ≤ size_of k.model t1.state) (on.job ∙ job) (extended_size t1 t2 on right) in
    omega (arith, falls, entered.1)

-- ---- answers

-- what holds of what is found holds of what was answered
pub if_ok : {A E : Type 0} (P Q : A → Type 0) (r : Result A E) → ((x : A) → P x → Q x) → IfOk r P → IfOk r Q
if_ok P Q (Ok x) on p = on x p
if_ok P Q (Err e) on p = p

pub all_ok : {A E : Type 0} (r : Result A E) → IfOk r (λ x. Unit {0})
all_ok (Ok x) = tt
all_ok (Err e) = tt
