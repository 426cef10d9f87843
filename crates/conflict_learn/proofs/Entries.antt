-- One more entry of a trail that is gone over from its beginning.
use Rattle.std.proofs.Common.{◌≡◌, ◌+◌, ◌<◌, ◌≤◌, ℕ, true, false, ◌||◌, List, [], ◌∷◌, ◌++◌, length, take, get_or, Some, None, inl, inr, ◌⊎◌, ap, sym, subst, ◌∙◌, append-nil, arith}
use Rattle.std.specs.Prelude.{IsTrue, slice_get}
use Rattle.std.specs.List.{list_any, filter_map, cons_option}
use Rattle.std.specs.Int.Bits.{bit_or}
use Rattle.std.proofs.lemmas.Bool.Decides.{nat_tests}
use Rattle.std.proofs.lemmas.List.{take_more}
use Rattle.std.proofs.lemmas.List.Elements.{filter_map-append}
use Rattle.std.proofs.lemmas.Nat.Bits.{bit_at_or, bit_at-lt}
use Rattle.std.proofs.lemmas.Option.{slice_get_cases, get_or_from_slice_get}
use Rattle.base_laws.specs.Places.{IsAt}
use Rattle.base_laws.proofs.Steps.{any_next}
use Rattle.base_laws.proofs.Tests.{list_any_from}
use Rattle.literal_book.specs.Nogoods.{asks_for}
use Rattle.config_value.specs.declared.literal.Literal.{Literal}
use Rattle.reason_trail.specs.declared.entry.Entry.{Entry}
use Rattle.reason_trail.specs.declared.reason.Reason.{Reason}
use Rattle.reason_trail.specs.Trails.{Trace, Stage, length_of}
use Rattle.reason_trail.specs.Assumptions.{assumed_by, names_cut, some_names_cut, asked_by, AreAmong}
use Rattle.conflict_learn.specs.steps.Assuming.{AskForAll}

-- the entry is the one at that stage
abbrev pub IsEntry : Trace → ℕ → Entry → Type 0
IsEntry t n e = (g : Stage) → IsAt t.stages n g → g.entry ≡ e

-- there is a stage
stage_at : (t : Trace) (n : ℕ) → n < length_of t → (g : Stage) × IsAt t.stages n g
stage_at t n within = by (slice_get_cases t.stages n).1
  where
    by : ((x : _) × (n < length t.stages) × (slice_get t.stages n ≡ Some x) × (get_or t.stages n x ≡ x)) ⊎ ((length t.stages ≤ n) × (slice_get t.stages n ≡ None))
        → (g : Stage) × IsAt t.stages n g
    by (inl w) = (w.0, w.2)
    by (inr w) = absurd (omega (arith, w.0, within))

-- ---- the cut

cut_next : (t : Trace) (n : ℕ) (e : Entry) → n < length_of t → IsEntry t n e
    → list_any (λ g. names_cut g.entry.why) (take (n + 1) t.stages) ≡ (list_any (λ g. names_cut g.entry.why) (take n t.stages) || names_cut e.why)
cut_next t n e within is =
    let place = stage_at t n within in
    any_next (λ (g : Stage). names_cut g.entry.why) t.stages n place.0 place.1
    ∙ ap (λ f. list_any (λ (g : Stage). names_cut g.entry.why) (take n t.stages) || names_cut f.why) (is place.0 place.1)

pub still_uncut : (t : Trace) (n : ℕ) (e : Entry) → n < length_of t → IsEntry t n e
    → list_any (λ g. names_cut g.entry.why) (take n t.stages) ≡ false → names_cut e.why ≡ false
    → list_any (λ g. names_cut g.entry.why) (take (n + 1) t.stages) ≡ false
still_uncut t n e within is before here = cut_next t n e within is ∙ (ap (λ b. b || names_cut e.why) before ∙ here)

pub cut_here : (t : Trace) (n : ℕ) (e : Entry) → n < length_of t → IsEntry t n e → names_cut e.why ≡ true → some_names_cut t ≡ true
cut_here t n e within is here =
    let place = stage_at t n within in
    list_any_from (λ (g : Stage). names_cut g.entry.why) t.stages n place.0 place.1 (ap (λ f. names_cut f.why) (is place.0 place.1) ∙ here)

-- ---- what was assumed

assumed_next : (t : Trace) (n : ℕ) (e : Entry) → n < length_of t → IsEntry t n e
    → filter_map (λ g. assumed_by g.entry) (take (n + 1) t.stages)
    ≡ filter_map (λ g. assumed_by g.entry) (take n t.stages) ++ cons_option (assumed_by e) []
assumed_next t n e within is =
    let place = stage_at t n within in
    let g = place.0 in
    let read = λ (h : Stage). assumed_by h.entry in
    let more : take (n + 1) t.stages ≡ take n t.stages ++ g ∷ [] =
    take_more t.stages n g within ∙ ap (λ h. take n t.stages ++ h ∷ []) (get_or_from_slice_get t.stages n g g place.1) in
    ap (filter_map read) more ∙ (filter_map-append read (take n t.stages) (g ∷ [])
    ∙ ap (λ f. filter_map read (take n t.stages) ++ cons_option (assumed_by f) []) (is g place.1))

pub one_assumed : (t : Trace) (n : ℕ) (e : Entry) (l : Literal) (ls : List Literal) → n < length_of t → IsEntry t n e
    → assumed_by e ≡ Some l → ls ≡ filter_map (λ g. assumed_by g.entry) (take n t.stages)
    → ls ++ l ∷ [] ≡ filter_map (λ g. assumed_by g.entry) (take (n + 1) t.stages)
one_assumed t n e l ls within is there before =
    ap (λ xs. xs ++ l ∷ []) before
    ∙ sym (assumed_next t n e within is ∙ ap (λ o. filter_map (λ (g : Stage). assumed_by g.entry) (take n t.stages) ++ cons_option o []) there)

pub none_assumed : (t : Trace) (n : ℕ) (e : Entry) (ls : List Literal) → n < length_of t → IsEntry t n e
    → assumed_by e ≡ None → ls ≡ filter_map (λ g. assumed_by g.entry) (take n t.stages)
    → ls ≡ filter_map (λ g. assumed_by g.entry) (take (n + 1) t.stages)
none_assumed t n e ls within is none before =
    before
    ∙ sym (assumed_next t n e within is ∙ (ap (λ o. filter_map (λ (g : Stage). assumed_by g.entry) (take n t.stages) ++ cons_option o []) none
    ∙ append-nil (filter_map (λ (g : Stage). assumed_by g.entry) (take n t.stages))))

-- ---- the requests

asked_by_one : (a b : ℕ) → AreAmong a (bit_or a b)
asked_by_one a b k asked = let both = bit_at_or a b k in let low = bit_at-lt b k in grind (arith, nat_tests, both, low, asked)

asked_by_other : (a b : ℕ) → AreAmong b (bit_or a b)
asked_by_other a b k asked = let both = bit_at_or a b k in let low = bit_at-lt a k in grind (arith, nat_tests, both, low, asked)

-- with what one more entry asks for, the mask asks for all that one more does
pub ask_for_more : (t : Trace) (r : Reason) (n requests : ℕ) (e : Entry) → IsEntry t n e → AskForAll t r n requests
    → AskForAll t r (n + 1) (bit_or requests (asked_by e.why))
ask_for_more t r n requests e is all = record {
  own = λ k asked. asked_by_one requests (asked_by e.why) k (all.own k asked);
  each = λ k g below at. by k g below at (le-cases k n below);
}
  where
    le-cases : (k n : ℕ) → k < n + 1 → (k < n) ⊎ (k ≡ n)
    le-cases k n below = grind (arith, nat_tests)

    by : (k : ℕ) (g : Stage) → k < n + 1 → IsAt t.stages k g → (k < n) ⊎ (k ≡ n) → AreAmong (asked_by g.entry.why) (bit_or requests (asked_by e.why))
    by k g below at (inl before) i asked = asked_by_one requests (asked_by e.why) i (all.each k g before at i asked)
    by k g below at (inr here) i asked =
        let same : g.entry ≡ e = is g (subst (λ j. IsAt t.stages j g) here at) in
        asked_by_other requests (asked_by e.why) i (subst (λ f. IsTrue (asks_for (asked_by f.why) i)) same asked)
