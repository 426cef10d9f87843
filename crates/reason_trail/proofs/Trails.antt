-- Trails: the states along them, one more entry, and going back.
use Rattle.std.proofs.Common.{◌≡◌, ℕ, zero, suc, ◌+◌, ◌<◌, ◌≤◌, List, [], ◌∷◌, length, length-append, take, refl, sym, ap, ◌∙◌, subst, inl, inr, arith}
use Rattle.std.specs.Prelude.{IsTrue}
use Rattle.std.specs.Option.{option_map_or}
use Rattle.std.proofs.lemmas.Bool.{cases_lt}
use Rattle.std.proofs.lemmas.List.{take_all, length-take-le}
use Rattle.std.proofs.lemmas.Option.{same_Some, none-some, slice_get_past, slice_get_within}
use Rattle.base_laws.specs.Places.{IsAt}
use Rattle.base_laws.proofs.Places.{at_front, at_either, slice_get_middle}
use Rattle.config_value.specs.declared.literal.Literal.{Literal}
use Rattle.domain_store.specs.declared.change.Change.TheVariants.{Smaller}
use Rattle.state_space.specs.State.{State, IsState}
use Rattle.state_space.specs.Entails.{fits}
use Rattle.state_space.specs.Changes.{ChangesBy}
use Rattle.state_space.specs.Unshared.{IsWide}
use Rattle.state_space.proofs.GenerationState.{fitting_keeps_state}
use Rattle.state_space.proofs.NewState.{root_is_state}
use Rattle.state_space.proofs.WideLaws.{root_is_wide, change_keeps_wide}
use Rattle.reason_trail.specs.declared.reason.Why.{Why}
use Rattle.reason_trail.specs.Jobs.{Task, IsTask}
use Rattle.reason_trail.specs.Reasons.{IsWhy}
use Rattle.reason_trail.specs.Trails.{Stage, Trace, IsStage, IsTrail, length_of, state_at, started, pushed, cut_to}

-- ---- lists

-- at each place below the length stands something
pub element_at : {A : Type 0} (xs : List A) (k : ℕ) → k < length xs → (x : A) × IsAt xs k x
element_at [] k within = absurd (omega arith)
element_at (x ∷ xs) zero within = (x, refl)
element_at (x ∷ xs) (suc k) within = element_at xs k (omega arith)

-- what stands at a place of the first elements stands there among all, and is one of them
pub take_at : {A : Type 0} (n : ℕ) (xs : List A) (k : ℕ) (x : A) → IsAt (take n xs) k x → IsAt xs k x × (k < n)
take_at zero xs k x there = absurd (none-some x there)
take_at (suc n) [] k x there = absurd (none-some x there)
take_at (suc n) (y ∷ xs) zero x there = (there, omega arith)
take_at (suc n) (y ∷ xs) (suc k) x there = let rest = take_at n xs k x there in (rest.0, omega (arith, rest.1))

-- what stands there among all stands there among the first
pub at_take : {A : Type 0} (n : ℕ) (xs : List A) (k : ℕ) (x : A) → k < n → IsAt xs k x → IsAt (take n xs) k x
at_take zero xs k x within there = absurd (omega arith)
at_take (suc n) [] k x within there = absurd (none-some x there)
at_take (suc n) (y ∷ xs) zero x within there = there
at_take (suc n) (y ∷ xs) (suc k) x within there = at_take n xs k x (omega arith) there

-- ---- the states along a trail

-- past its entries it is in the state that it has come to
pub state_at-past : (t : Trace) (n : ℕ) → length_of t ≤ n → state_at t n ≡ t.state
state_at-past t n past = ap (λ o. option_map_or (λ g. g.before) o t.state) (slice_get_past t.stages n past)

-- before an entry it is in the state that the stage has
pub state_at-stage : (t : Trace) (n : ℕ) (g : Stage) → IsAt t.stages n g → state_at t n ≡ g.before
state_at-stage t n g at = ap (λ o. option_map_or (λ g. g.before) o t.state) at

-- the state that it has come to is one of the problem
pub now_is_state : (t : Trace) → IsTrail t → IsState t.job.model t.state
now_is_state t right = subst (IsState t.job.model) (state_at-past t (length_of t) (omega arith)) (right.states (length_of t) (omega arith))

pub now_is_wide : (t : Trace) → IsTrail t → IsWide t.job.model t.state
now_is_wide t right = subst (IsWide t.job.model) (state_at-past t (length_of t) (omega arith)) (right.wide (length_of t) (omega arith))

-- what led on from a state of the trail holds for what is said, in that state
pub entry_because : (t : Trace) (n : ℕ) (g : Stage) → IsTrail t → IsAt t.stages n g → IsWhy t.job (state_at t n) g.entry.literal g.entry.why
entry_because t n g right at = subst (λ s. IsWhy t.job s g.entry.literal g.entry.why) (sym (state_at-stage t n g at)) (right.each n g at).because

-- ---- without entries

pub started_is_trail : (j : Task) → IsTask j → IsTrail (started j)
started_is_trail j task = record {
  task = task;
  begins = refl;
  each = λ n g at. absurd (none-some g at);
  states = λ n within. root_is_state j.model task.valid;
  wide = λ n within. root_is_wide j.model task.valid;
}

-- ---- one entry more

module _ (t : Trace) (l : Literal) (why : Why) (after : State) where
  abbrev pub longer : Trace
  longer = pushed t l why after

  abbrev pub new_stage : Stage
  new_stage = record { before = t.state; entry = record { literal = l; why = why } }

  -- it has the same states up to the one that it had come to
  pub state_at-pushed : (n : ℕ) → n ≤ length_of t → state_at longer n ≡ state_at t n
  state_at-pushed n within = elim (cases_lt n (length_of t)) [
    | inl below ↦
        let g = element_at t.stages n below in
        state_at-stage longer n g.0 (at_front t.stages (new_stage ∷ []) n g.0 g.1) ∙ sym (state_at-stage t n g.0 g.1)
    | inr past ↦
        let here : length_of t ≡ n = omega arith in
        let AtIt : ℕ → Type 0 = λ k. IsAt longer.stages k new_stage in
        let at : IsAt longer.stages n new_stage = subst AtIt here (slice_get_middle t.stages new_stage []) in
        state_at-stage longer n new_stage at ∙ sym (state_at-past t n past)
  ]

  -- and then the one that the new entry leads to
  pub state_at-new : (n : ℕ) → length_of t < n → state_at longer n ≡ after
  state_at-new n past = state_at-past longer n (omega (arith, length-append t.stages (new_stage ∷ [])))

  -- what holds of the states of the trail and of the new one holds of the states of the longer trail
  all_states : (P : State → Type 0) → ((n : ℕ) → n ≤ length_of t → P (state_at t n)) → P after → (n : ℕ) → n ≤ length_of longer → P (state_at longer n)
  all_states P each new n within = elim (cases_lt (length_of t) n) [
    | inl past ↦ subst P (sym (state_at-new n past)) new
    | inr below ↦ subst P (sym (state_at-pushed n below)) (each n below)
  ]

  module _ (right : IsTrail t) (fit : IsTrue (fits t.job.model t.state l)) (changed : ChangesBy t.job.model l Smaller t.state after) (because : IsWhy t.job t.state l why) where
    new_is_stage : (n k : ℕ) (g : Stage) → n ≡ length_of t + k → IsAt (new_stage ∷ []) k g → IsStage t.job g (state_at longer (suc n))
    new_is_stage n (suc k) g is there = absurd (none-some g there)
    new_is_stage n zero g is there =
        let new : IsStage t.job new_stage after = record { fitting = fit; changed = changed; because = because } in
        subst (λ h. IsStage t.job h (state_at longer (suc n))) (same_Some new_stage g there)
        (subst (IsStage t.job new_stage) (sym (state_at-new (suc n) (omega arith))) new)

    pub pushed_is_trail : IsTrail longer
    pushed_is_trail = record {
      task = right.task;
      begins = state_at-pushed 0 (omega arith) ∙ right.begins;
      each = λ n g at. elim (at_either t.stages (new_stage ∷ []) n g at) [
        | inl there ↦ subst (IsStage t.job g) (sym (state_at-pushed (suc n) (slice_get_within t.stages n g there))) (right.each n g there)
        | inr (k, is, there) ↦ new_is_stage n k g is there
      ];
      states = all_states (IsState t.job.model) right.states
          (fitting_keeps_state t.job.model l Smaller t.state after right.task.valid (now_is_state t right) fit changed);
      wide = all_states (IsWide t.job.model) right.wide
          (change_keeps_wide t.job.model l Smaller t.state after right.task.valid (now_is_state t right) fit changed (now_is_wide t right));
    }

-- ---- going back

-- a trail cut to all its entries is the trail
pub cut_to-whole : (t : Trace) (n : ℕ) → length_of t ≤ n → cut_to t n ≡ t
cut_to-whole t n past =
    ap (λ xs. record t { stages = xs; state = state_at t n }) (take_all n t.stages past) ∙ ap (λ s. record t { state = s }) (state_at-past t n past)

module _ (t : Trace) (n : ℕ) (within : n ≤ length_of t) where
  abbrev pub shorter : Trace
  shorter = cut_to t n

  -- it has the same states up to the one that it is cut to
  pub state_at-cut_to : (k : ℕ) → k ≤ n → state_at shorter k ≡ state_at t k
  state_at-cut_to k below = elim (cases_lt k n) [
    | inl less ↦
        let g = element_at t.stages k (omega (arith, within)) in
        state_at-stage shorter k g.0 (at_take n t.stages k g.0 less g.1) ∙ sym (state_at-stage t k g.0 g.1)
    | inr past ↦
        let here : n ≡ k = omega arith in
        state_at-past shorter k (omega (arith, length-take-le n t.stages within)) ∙ ap (state_at t) here
  ]

  pub cut_is_trail : IsTrail t → IsTrail shorter
  cut_is_trail right =
      let inside : (k : ℕ) → k ≤ length_of shorter → k ≤ n = λ k w. omega (arith, w, length-take-le n t.stages within) in
      record {
        task = right.task;
        begins = state_at-cut_to 0 (omega arith) ∙ right.begins;
        each = λ k g at.
            let was = take_at n t.stages k g at in
            subst (IsStage t.job g) (sym (state_at-cut_to (suc k) was.1)) (right.each k g was.0);
        states = λ k w. subst (IsState t.job.model) (sym (state_at-cut_to k (inside k w))) (right.states k (omega (arith, inside k w)));
        wide = λ k w. subst (IsWide t.job.model) (sym (state_at-cut_to k (inside k w))) (right.wide k (omega (arith, inside k w)));
      }
