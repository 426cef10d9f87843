-- What a check rests on.
use Rattle.std.proofs.Common.{◌≡◌, ◌∙◌, ℕ, suc, ◌+◌, ◌<◌, ◌≤◌, Bool, true, not, ◌||◌, List, [], ◌∷◌, map, length, sym, subst, refl, None, inl, inr, arith}
use Rattle.std.specs.Prelude.{IsTrue, IsFalse}
use Rattle.std.proofs.lemmas.Bool.{and_parts, and_from, cases_lt, true≢false}
use Rattle.std.proofs.lemmas.Bool.Decides.{nat_tests}
use Rattle.std.proofs.lemmas.List.{length-map}
use Rattle.std.proofs.lemmas.Option.{slice_get_cases, slice_get_within}
use lib.Pointwise.{pointwise}
use Rattle.base_laws.specs.Places.{IsAt}
use Rattle.prod_model.specs.declared.model.Model.{Model}
use Rattle.prod_model.specs.declared.model.Order.{Order}
use Rattle.prod_model.specs.declared.model.Request.{Request}
use Rattle.prod_model.specs.First.{IsFirst}
use Rattle.prod_model.specs.Limits.{most_answer_bytes}
use Rattle.prod_model.specs.Valid.{IsValidOrder}
use Rattle.config_value.specs.declared.configuration.Instance.{Instance}
use Rattle.config_value.specs.Satisfies.{satisfies, meets, meets_kept, all_kept, IsCandidate}
use Rattle.config_value.specs.Shaped.{is_shaped}
use Rattle.answer_check.specs.Breaks.{Break, Breaks, too_many, other_root, bad_value, no_instance, off_target, bad_number, shared_part, not_linked_back, misnumbered, bad_count, false_rule}
use Rattle.answer_check.specs.Requested.{MeetsRequest}
use Rattle.criteria_order.specs.CriteriaValues.{criteria_values}
use Rattle.canonical_form.specs.declared.fault.AnswerRefusal.{AnswerRefusal}
use Rattle.canonical_form.specs.declared.fault.AnswerRefusal.TheVariants.{Line, Memory}
use Rattle.canonical_form.specs.BadLine.{IsRefusal}
use Rattle.config_cli.specs.Checked.{IsUnmet, bad_line}
use Rattle.config_cli.specs.steps.Checks.{FindsUnmet, RefusesAnswer, IsAnswerOutcome, refused}
use Rattle.config_cli.specs.declared.status.Status.{Status}

-- ---- limits

pub few_requests : (m : Model) (o : Order) → IsValidOrder m o → length o.requests ≤ 64
few_requests m o valid = let few = valid.few in grind (arith, nat_tests)

pub few_criteria : (m : Model) (o : Order) → IsValidOrder m o → length o.criteria ≤ 8
few_criteria m o valid = let few = valid.few in grind (arith, nat_tests)

-- a value for each criterion
pub value_each : (m : Model) (o : Order) (c : List Instance) → length (criteria_values m o c) ≡ length o.criteria
value_each m o c = length-map o.criteria _

-- the numbers of the tests have two digits
pub small_code : (m : Model) (c : List Instance) (b : Break) → Breaks m c b → b.code < 100
small_code m c b (too_many is _ _ _) = let e : b.code ≡ 1 = is in omega (arith, e)
small_code m c b (other_root is _ _ _) = let e : b.code ≡ 2 = is in omega (arith, e)
small_code m c b (bad_value is _ _ _ _ _ _ _) = let e : b.code ≡ 3 = is in omega (arith, e)
small_code m c b (no_instance is _ _ _ _ _ _) = let e : b.code ≡ 4 = is in omega (arith, e)
small_code m c b (off_target is _ _ _ _ _ _ _ _) = let e : b.code ≡ 5 = is in omega (arith, e)
small_code m c b (bad_number is _ _ _ _) = let e : b.code ≡ 6 = is in omega (arith, e)
small_code m c b (shared_part is _ _ _) = let e : b.code ≡ 7 = is in omega (arith, e)
small_code m c b (not_linked_back is _ _ _ _ _ _ _ _) = let e : b.code ≡ 12 = is in omega (arith, e)
small_code m c b (misnumbered is _ _ _ _) = let e : b.code ≡ 8 = is in omega (arith, e)
small_code m c b (bad_count is _ _ _ _) = let e : b.code ≡ 9 = is in omega (arith, e)
small_code m c b (false_rule is _ _ _ _ _ _) = let e : b.code ≡ 10 = is in omega (arith, e)

-- what satisfies the model is shaped
pub satisfied_is_shaped : (m : Model) (c : List Instance) → IsTrue (satisfies m c) → IsTrue (is_shaped m c)
unfolding satisfies
satisfied_is_shaped m c is = (and_parts _ _ (and_parts _ _ is).0).0

-- ---- requests

module _ (m : Model) (o : Order) (c : List Instance) where
  -- each request before this one is met
  abbrev pub AreMetBelow : ℕ → Type 0
  AreMetBelow k = (j : ℕ) (r : Request) → j < k → IsAt o.requests j r → IsTrue (meets m c r)

  -- so is each before the next, if this one is met
  pub met_next : (k : ℕ) (met : Bool) → AreMetBelow k → MeetsRequest m o k c met → IsTrue met → AreMetBelow (k + 1)
  met_next k met below tells is j r within at = elim (cases_lt j k) [
    | inl lower ↦ below j r lower at
    | inr from ↦
        let same : j ≡ k = omega (arith, within, from) in
        sym (tells r (subst (λ (n : ℕ). IsAt o.requests n r) same at)) ∙ is
  ]

  -- the first that isn't met
  pub first_unmet_here : (k : ℕ) (met : Bool) → AreMetBelow k → MeetsRequest m o k c met → IsFalse met → k < length o.requests
      → IsFirst (IsUnmet m o c) (λ j i. j < i) k
  first_unmet_here k met below tells not_met within = elim (slice_get_cases o.requests k).1 [
    | inl w ↦ record {
      is = record { request = w.0; stands = w.2; unmet = sym (tells w.0 w.2) ∙ not_met };
      none_before = λ j unmet lower. true≢false (sym (below j unmet.request lower unmet.stands) ∙ unmet.unmet);
    }
    | inr w ↦ absurd (omega (arith, w.0, within))
  ]

  -- where all are met there is none
  pub none_unmet : (k : ℕ) → AreMetBelow k → length o.requests ≤ k → FindsUnmet m o c None
  none_unmet k below past j r at = below j r (omega (arith, past, slice_get_within o.requests j r at)) at

  -- the one found is one of them
  pub unmet_within : (k : ℕ) → IsFirst (IsUnmet m o c) (λ j i. j < i) k → k < length o.requests
  unmet_within k first = slice_get_within o.requests k first.is.request first.is.stands

  met_by : (rs : List Request) → ((k : ℕ) (r : Request) → IsAt rs k r → IsTrue (meets m c r))
      → IsTrue (pointwise (λ kept r. not kept || meets m c r) (map (λ r. true) rs) rs)
  met_by [] each = refl
  met_by (r ∷ rs) each = and_from _ _ (each 0 r refl) (met_by rs (λ k. each (suc k)))

  -- what satisfies the model and meets each request is a candidate for all of them
  pub is_candidate : IsTrue (satisfies m c) → FindsUnmet m o c None → IsCandidate m o (all_kept o) c
  unfolding meets_kept
  is_candidate satisfied each = record { satisfied = satisfied; met = met_by o.requests each }

-- ---- refused answers

-- the line of a refused answer is the outcome
pub answer_refused : (m : Model) (o : Order) (bytes : List ℕ) (e : AnswerRefusal) (status : Status) (text : List ℕ) → length bytes ≤ most_answer_bytes
    → IsRefusal m bytes e → RefusesAnswer e status text → IsAnswerOutcome m o bytes status text
answer_refused m o bytes (Line fault) status text short is line = refused (bad_line short fault.line fault.code is line.1) line.0
answer_refused m o bytes (Memory e) status text short is line = absurd line
