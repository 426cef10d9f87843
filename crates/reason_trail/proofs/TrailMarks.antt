-- A trail that is kept by one state and the log of its changes: one entry more, and going back.
use Rattle.std.proofs.Common.{◌≡◌, ℕ, zero, suc, ◌+◌, ◌<◌, ◌≤◌, get_or, List, [], ◌∷◌, ◌++◌, length, length-append, map, take, drop, ◌-◌, refl, sym, ap, ap₂, ◌∙◌, subst, inl, inr, arith}
use Rattle.std.proofs.Math.Seq.{drop-append_seam}
use Rattle.std.proofs.lemmas.List.{drop-append-le, map-append, take-map, take-append-drop, length-take-le, length-map}
use Rattle.std.proofs.lemmas.Option.{same_Some, none-some, slice_get_within, slice_get_read}
use Rattle.base_laws.specs.Places.{IsAt}
use Rattle.base_laws.proofs.Places.{at_either, at_map}
use Rattle.config_value.specs.declared.literal.Literal.{Literal}
use Rattle.state_space.specs.State.{State}
use Rattle.state_space.specs.Undo.{OldValue, undone}
use Rattle.state_space.proofs.UndoLaws.{undone_in_turn}
use Rattle.reason_trail.specs.declared.entry.Marked.{Marked}
use Rattle.reason_trail.specs.declared.reason.Why.{Why}
use Rattle.reason_trail.specs.Jobs.{Task}
use Rattle.reason_trail.specs.Reasons.{IsWhy}
use Rattle.reason_trail.specs.Trails.{Trace, IsTrail, state_at, pushed, cut_to}
use Rattle.reason_trail.specs.steps.Marks.{stage_of, trace_of, AreMarks, IsKept}
use Rattle.reason_trail.proofs.Trails.{element_at, take_at, state_at-stage, entry_because, cut_is_trail}

-- each of the entries was made when the log was no longer than so
abbrev AreBelow : ℕ → List Marked → Type 0
AreBelow bound entries = (n : ℕ) (e : Marked) → IsAt entries n e → e.mark ≤ bound

-- ---- a longer log

module _ (log more : List OldValue) (s after : State) (back : undone more after ≡ s) where
  -- going back over the longer log comes to the same state as before
  undone-longer : (m : ℕ) → m ≤ length log → undone (drop m (log ++ more)) after ≡ undone (drop m log) s
  undone-longer m within =
      ap (λ os. undone os after) (drop-append-le m log more within) ∙ (undone_in_turn (drop m log) more after ∙ ap (undone (drop m log)) back)

  -- so the stages are the same
  pub stages-longer : (entries : List Marked) → AreBelow (length log) entries → map (stage_of (log ++ more) after) entries ≡ map (stage_of log s) entries
  stages-longer [] below = refl
  stages-longer (e ∷ es) below =
      let first : stage_of (log ++ more) after e ≡ stage_of log s e = ap (λ b. record { before = b; entry = e.entry }) (undone-longer e.mark (below 0 e refl)) in
      ap₂ (λ g gs. g ∷ gs) first (stages-longer es (λ n. below (suc n)))

  module _ (j : Task) (entries : List Marked) (l : Literal) (why : Why) where
    abbrev pub new_entry : Marked
    new_entry = record { entry = record { literal = l; why = why }; mark = length log }

    -- with one entry more it is the trail with one entry more
    pub trace_of-pushed : AreBelow (length log) entries → trace_of j after (log ++ more) (entries ++ new_entry ∷ []) ≡ pushed (trace_of j s log entries) l why after
    trace_of-pushed below =
        let last : stage_of (log ++ more) after new_entry ≡ record { before = s; entry = new_entry.entry } =
        ap (λ b. record { before = b; entry = new_entry.entry }) (ap (λ os. undone os after) (drop-append_seam log more) ∙ back) in
        ap (λ gs. record { job = j; stages = gs; state = after })
        (map-append (stage_of (log ++ more) after) entries (new_entry ∷ []) ∙ ap₂ (λ gs g. gs ++ g ∷ []) (stages-longer entries below) last)

    -- its mark is the length that the log had
    new_mark : (k : ℕ) (e : Marked) → IsAt (new_entry ∷ []) k e → (k ≡ 0) × (e.mark ≡ length log)
    new_mark (suc k) e there = absurd (none-some e there)
    new_mark zero e there = (refl, ap (λ f. f.mark) (sym (same_Some new_entry e there)))

    pub pushed_are_marks : AreMarks log entries → AreMarks (log ++ more) (entries ++ new_entry ∷ [])
    pushed_are_marks marks =
        let below : (n : ℕ) (e : Marked) → IsAt (entries ++ new_entry ∷ []) n e → e.mark ≤ length log = λ n e at.
        elim (at_either entries (new_entry ∷ []) n e at) [
          | inl there ↦ marks.within n e there
          | inr (k, is, there) ↦ let new = new_mark k e there in omega (arith, new.1)
        ] in
        record {
          within = λ n e at. omega (arith, below n e at, length-append log more);
          ascending = λ n e f at next. elim (at_either entries (new_entry ∷ []) (suc n) f next) [
            | inl there ↦ elim (at_either entries (new_entry ∷ []) n e at) [
              | inl before ↦ marks.ascending n e f before there
              | inr (k, is, past) ↦ absurd (omega (arith, is, slice_get_within entries (suc n) f there))
            ]
            | inr (k, is, there) ↦ let new = new_mark k f there in omega (arith, new.1, below n e at)
          ];
        }

-- ---- going back

module _ (log : List OldValue) (entries : List Marked) (marks : AreMarks log entries) where
  -- no entry up to one was made at a longer log
  up_to : (k d j : ℕ) (e f : Marked) → j ≡ k + d → IsAt entries k e → IsAt entries j f → e.mark ≤ f.mark
  up_to k zero j e f is at there =
      let here : k ≡ j = omega arith in
      let same : e ≡ f = same_Some e f (sym at ∙ subst (λ i. IsAt entries i f) (sym here) there) in
      omega (arith, ap (λ h. h.mark) same)
  up_to k (suc d) j e f is at there =
      let next : j ≡ suc (k + d) = omega arith in
      let between = element_at entries (k + d) (omega (arith, slice_get_within entries j f there)) in
      omega (arith, up_to k d (k + d) e between.0 refl at between.1, marks.ascending (k + d) between.0 f between.1 (subst (λ i. IsAt entries i f) next there))

  module _ (n : ℕ) (last : Marked) (at : IsAt entries n last) where
    -- so all before it are within the log that it was made at
    pub cut_below : (k : ℕ) (e : Marked) → IsAt (take n entries) k e → e.mark ≤ last.mark
    cut_below k e there =
        let was = take_at n entries k e there in
        up_to k (n - k) n e last (omega (arith, was.1)) was.0 at

    pub cut_are_marks : AreMarks (take last.mark log) (take n entries)
    cut_are_marks =
        let long = length-take-le last.mark log (marks.within n last at) in
        record {
          within = λ k e there. omega (arith, long, cut_below k e there);
          ascending = λ k e f there next. marks.ascending k e f (take_at n entries k e there).0 (take_at n entries (suc k) f next).0;
        }

    -- going back to its mark is going back to the trail before it
    pub trace_of-cut_to : (j : Task) (s : State) → trace_of j (undone (drop last.mark log) s) (take last.mark log) (take n entries) ≡ cut_to (trace_of j s log entries) n
    trace_of-cut_to j s =
        let mark : ℕ = last.mark in
        let before : State = undone (drop mark log) s in
        let whole : take mark log ++ drop mark log ≡ log = take-append-drop mark log in
        let long = length-take-le mark log (marks.within n last at) in
        let within : AreBelow (length (take mark log)) (take n entries) = λ k e there. omega (arith, long, cut_below k e there) in
        let stages : map (stage_of log s) (take n entries) ≡ map (stage_of (take mark log) before) (take n entries) =
        ap (λ os. map (stage_of os s) (take n entries)) (sym whole) ∙ stages-longer (take mark log) (drop mark log) before s refl (take n entries) within in
        let here : state_at (trace_of j s log entries) n ≡ before =
        state_at-stage (trace_of j s log entries) n (stage_of log s last) (at_map (stage_of log s) entries n last at) in
        ap₂ (λ gs b. record { job = j; stages = gs; state = b }) (sym stages ∙ sym (take-map (stage_of log s) n entries)) (sym here)

    -- what is kept afterwards is right
    pub cut_kept : (j : Task) (first s : State) → IsKept j first s log entries
        → IsKept j first (undone (drop last.mark log) s) (take last.mark log) (take n entries)
    cut_kept j first s kept =
        let within : n < length entries = slice_get_within entries n last at in
        let t : Trace = trace_of j s log entries in
        let below : n ≤ length t.stages = omega (arith, length-map entries (stage_of log s)) in
        record {
          trail = subst IsTrail (sym (trace_of-cut_to j s)) (cut_is_trail t n below kept.trail);
          marks = cut_are_marks;
          begins = kept.begins;
          few = omega (arith, kept.few, length-take-le n entries (omega arith));
        }

-- ---- entries

-- what was kept for an entry tells why its literal holds
pub kept_because : (j : Task) (s : State) (log : List OldValue) (entries : List Marked) (n : ℕ) (e : Marked) → IsTrail (trace_of j s log entries)
    → n < length (trace_of j s log entries).stages → e ≡ get_or entries n e → IsWhy j (state_at (trace_of j s log entries) n) e.entry.literal e.entry.why
kept_because j s log entries n e right within is =
    let at : IsAt entries n e = slice_get_read entries (length entries) n e refl (omega (arith, length-map entries (stage_of log s))) is in
    entry_because (trace_of j s log entries) n (stage_of log s e) right (at_map (stage_of log s) entries n e at)
