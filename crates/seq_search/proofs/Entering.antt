-- A branch that is narrowed by its literal.
use Rattle.std.proofs.Common.{◌≡◌, List, [], ◌∷◌, ◌++◌, length, take, length-append, Some, refl, ap, subst, sym, ◌∙◌, arith}
use Rattle.std.specs.Prelude.{IsTrue}
use Rattle.std.proofs.lemmas.Bool.{true≢false}
use Rattle.config_value.specs.declared.literal.Literal.{Literal}
use Rattle.domain_store.specs.declared.change.Change.{Change}
use Rattle.domain_store.specs.declared.change.Change.TheVariants.{Same, Smaller, Empty}
use Rattle.state_space.specs.Entails.{entails}
use Rattle.state_space.proofs.ValidStates.{change_keeps}
use Rattle.state_space.proofs.ChangeLaws.{empty_covers_none}
use Rattle.state_space.proofs.FewLaws.{fitting_is_less}
use Rattle.reason_trail.specs.declared.reason.Why.{Why}
use Rattle.reason_trail.specs.Trails.{Trace, Extends, IsTrail, IsPushed, length_of}
use Rattle.reason_trail.proofs.Trails.{now_is_state, new_stage, state_at-pushed, state_at-past}
use Rattle.seq_search.proofs.Along.{extends_itself}
use Rattle.seq_search.specs.steps.Opens.{MayBeTaken}
use Rattle.seq_search.specs.steps.Nodes.{IsEntered, is_left}
use Rattle.seq_search.proofs.Filtering.{is_formed}

take-append-same : {A : Type 0} (xs ys : List A) → take (length xs) (xs ++ ys) ≡ xs
take-append-same [] ys = refl
take-append-same (x ∷ xs) ys = ap (λ r. x ∷ r) (take-append-same xs ys)

module _ (t new : Trace) (l : Literal) (why : Why) (right : IsTrail t) (may : MayBeTaken t.job.model (record { state = t.state; literal = Some l })) where
  pub entered : (change : Change) → IsPushed l why change t new
      → IsEntered t.job.model (record { state = t.state; literal = Some l }) new.state (is_left change)
  entered Smaller on = (
    λ c satisfied covers.
        let formed = is_formed t.job.model c satisfied in
        change_keeps t.job.model l Smaller t.state new.state c right.task.valid (now_is_state t right) may.0 on.changed (λ e. absurd cc) covers.covered formed.shaped formed.numbered covers.holds,
    (let less = fitting_is_less t.job.model l t.state new.state right.task.valid (now_is_state t right) may.0 on.changed in omega (arith, less)),
  )
  entered Same on =
      let same : new ≡ t = on.same (λ e. absurd cc) in
      let told : IsTrue (entails t.job.model new.state l) = on.entailed (λ e. absurd cc) in
      absurd (true≢false (sym (subst (λ u. IsTrue (entails t.job.model u.state l)) same told) ∙ may.1))
  entered Empty on = λ c satisfied covers.
      true≢false (sym covers.holds ∙ empty_covers_none t.job.model l t.state new.state c (now_is_state t right) may.0 on.changed covers.covered)

  -- the trail has the old one's entries, and perhaps one more
  pub extends_pushed : (change : Change) → IsPushed l why change t new → Extends t new
  extends_pushed Smaller on = subst (Extends t) (sym (on.smaller refl)) (record {
    job = refl;
    longer = omega (arith, length-append t.stages (new_stage t l why new.state ∷ []));
    begins =
        let stages = take-append-same t.stages (new_stage t l why new.state ∷ []) in
        let state = state_at-pushed t l why new.state (length_of t) (omega arith) ∙ state_at-past t (length_of t) (omega arith) in
        λ i. record t { stages = stages i; state = state i };
  })
  extends_pushed Same on = subst (Extends t) (sym (on.same (λ e. absurd cc))) (extends_itself t)
  extends_pushed Empty on = subst (Extends t) (sym (on.same (λ e. absurd cc))) (extends_itself t)
