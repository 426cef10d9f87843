-- A change of a kept trail: where less is left there is one entry more, and else it stays as it is.
use Rattle.std.proofs.Common.{◌≡◌, ◌≢◌, ◌<◌, List, [], ◌∷◌, ◌++◌, length, length-append, refl, sym, ap, ap₂, ◌∙◌, subst, arith}
use Rattle.std.specs.Prelude.{IsTrue, ◌^◌}
use Rattle.std.proofs.lemmas.Option.{none-some}
use Rattle.prod_model.specs.declared.model.Model.{Model}
use Rattle.config_value.specs.declared.literal.Literal.{Literal}
use Rattle.domain_store.specs.declared.change.Change.{Change}
use Rattle.domain_store.specs.declared.change.Change.TheVariants.{Smaller}
use Rattle.state_space.specs.State.{State, IsState}
use Rattle.state_space.specs.Entails.{fits}
use Rattle.state_space.specs.Changes.{ChangesBy}
use Rattle.state_space.specs.Root.{root}
use Rattle.state_space.specs.Undo.{OldValue, undone, Logs}
use Rattle.state_space.proofs.SearchLaws.{fitting_is_entailed}
use Rattle.reason_trail.specs.declared.entry.Marked.{Marked}
use Rattle.reason_trail.specs.declared.reason.Why.{Why}
use Rattle.reason_trail.specs.Jobs.{Task, IsTask}
use Rattle.reason_trail.specs.Reasons.{IsWhy}
use Rattle.reason_trail.specs.Trails.{IsTrail, IsPushed, pushed}
use Rattle.reason_trail.specs.steps.Marks.{trace_of, AreMarks, IsKept}
use Rattle.reason_trail.proofs.Trails.{now_is_state, started_is_trail, pushed_is_trail}
use Rattle.reason_trail.proofs.TrailMarks.{trace_of-pushed, pushed_are_marks}

-- where the log is as it was, so is the state
pub same_state : (s after : State) (log later : List OldValue) → Logs s after log later → later ≡ log → after ≡ s
same_state s after log later logs same = nothing logs.entries (omega (arith, ap length logs.appended, ap length same, length-append log logs.entries)) logs.back
  where
    nothing : (entries : List OldValue) → length entries ≡ 0 → undone entries after ≡ s → after ≡ s
    nothing [] none back = back
    nothing (o ∷ os) none back = absurd (omega arith)

module _ (j : Task) (first s after : State) (log later : List OldValue) (entries : List Marked) (kept : IsKept j first s log entries) (logs : Logs s after log later) where
  -- where the log is as it was the trail is
  pub same_kept : later ≡ log → IsKept j first after later entries
  same_kept same = subst (λ os. IsKept j first after os entries) (sym same) (subst (λ x. IsKept j first x log entries) (sym (same_state s after log later logs same)) kept)

  pub same_trace : later ≡ log → trace_of j after later entries ≡ trace_of j s log entries
  same_trace same = ap₂ (λ x os. trace_of j x os entries) (same_state s after log later logs same) same

  module _ (l : Literal) (why : Why) (fit : IsTrue (fits j.model s l)) (m : Model) (of_job : m ≡ j.model) where
    here : IsState j.model s
    here = now_is_state (trace_of j s log entries) kept.trail

    by_job : (result : Change) → ChangesBy m l result s after → ChangesBy j.model l result s after
    by_job result changed = subst (λ p. ChangesBy p l result s after) of_job changed

    pub same_is_pushed : (result : Change) → ChangesBy m l result s after → result ≢ Smaller → later ≡ log → IsPushed l why result (trace_of j s log entries) (trace_of j after later entries)
    same_is_pushed result changed other same = record {
      changed = by_job result changed;
      smaller = λ e. absurd (other e);
      same = λ _. same_trace same;
      entailed = λ some. fitting_is_entailed j.model l result s after here fit (by_job result changed) some;
    }

    module _ (changed : ChangesBy m l Smaller s after) where
      abbrev pub one_more : List Marked
      one_more = entries ++ record { entry = record { literal = l; why = why }; mark = length log } ∷ []

      becomes : trace_of j after later one_more ≡ pushed (trace_of j s log entries) l why after
      becomes =
          ap (λ os. trace_of j after os one_more) logs.appended ∙ trace_of-pushed log logs.entries s after logs.back j entries l why kept.marks.within

      pub smaller_is_pushed : IsPushed l why Smaller (trace_of j s log entries) (trace_of j after later one_more)
      smaller_is_pushed = record {
        changed = by_job Smaller changed;
        smaller = λ _. becomes;
        same = λ other. absurd (other refl);
        entailed = λ some. fitting_is_entailed j.model l Smaller s after here fit (by_job Smaller changed) some;
      }

      pub smaller_kept : IsWhy j s l why → length one_more < 2 ^ 32 → IsKept j first after later one_more
      smaller_kept because few = record {
        trail = subst IsTrail (sym becomes) (pushed_is_trail (trace_of j s log entries) l why after kept.trail fit (by_job Smaller changed) because);
        marks = subst (λ os. AreMarks os one_more) (sym logs.appended) (pushed_are_marks log logs.entries s after logs.back j entries l why kept.marks);
        begins = kept.begins;
        few = few;
      }

-- what is kept of a trail without entries is right
pub started_kept : (j : Task) → IsTask j → IsKept j (root j.model) (root j.model) [] []
started_kept j task = record {
  trail = started_is_trail j task;
  marks = record { within = λ n e at. absurd (none-some e at); ascending = λ n e f at next. absurd (none-some e at) };
  begins = refl;
  few = omega arith;
}
