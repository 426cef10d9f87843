-- Cuts of the values of an attribute with their log.
use Rattle.std.proofs.Common.{◌≡◌, ◌≢◌, ◌∙◌, ap, sym, ℕ, ℤ, Bool, List, [], ◌∷◌, ◌++◌, length, length-append, Option, Some, None, refl, arith, ◌+◌}
use Rattle.std.specs.Prelude.{IsSome}
use Rattle.std.specs.Option.{ForSome}
use Rattle.std.proofs.lemmas.Bool.{false≢true}
use Rattle.std.proofs.lemmas.Option.{same_Some}
use Rattle.base_laws.proofs.Lists.{same_parts}
use Rattle.domain_store.specs.declared.change.Change.{Change}
use Rattle.domain_store.specs.declared.change.Change.TheVariants.{Smaller}
use Rattle.state_space.specs.Values.{Values}
use Rattle.state_space.specs.State.{State, domain_at}
use Rattle.state_space.specs.Changes.{NarrowsDomain}
use Rattle.state_space.specs.Undo.{OldValue, Domain, Logs, undone}
use Rattle.state_space.proofs.UndoLaws.{each_is_undone}
use Rattle.partial_state.specs.steps.Answered.{AnswersNarrowing}
use Rattle.partial_state.specs.steps.Logged.{ChangesDomain}
use Rattle.partial_state.proofs.CutAnswers.{unmoved, as_answered}
use Rattle.partial_state.proofs.LoggedChanges.{domain_kept}

some_value : {X : Type 0} (o : Option X) → IsSome o → (x : X) × (o ≡ Some x)
some_value (Some x) some = (x, refl)
some_value None some = absurd (false≢true some)

-- a log from which the latest entry was taken is as before that entry
pub taken_back : (log long rest : List OldValue) (x y : OldValue) → long ≡ log ++ x ∷ [] → long ≡ rest ++ y ∷ [] → rest ≡ log
taken_back log long rest x y pushed popped =
    let first : length long ≡ length log + 1 = ap length pushed ∙ length-append log (x ∷ []) in
    let second : length long ≡ length rest + 1 = ap length popped ∙ length-append rest (y ∷ []) in
    (same_parts rest log (y ∷ []) (x ∷ []) (omega (arith, first, second)) (sym popped ∙ pushed)).0

module _ (s new : State) (i a : ℕ) (test : ℤ → Bool) (result : Change) (log longer : List OldValue) where
  -- the values that there were bring the state back
  pub cut_logs : (d : Values) → domain_at s i a ≡ Some d → NarrowsDomain i a test result s new → longer ≡ log ++ Domain i a d ∷ [] → Logs s new log longer
  cut_logs d is narrows pushed = record {
    entries = Domain i a d ∷ [];
    appended = pushed;
    back = ap (λ e. undone (Domain i a e ∷ []) new) (same_Some d narrows.before (sym is ∙ narrows.was)) ∙ (each_is_undone i result s new).1 a test narrows;
  }

  -- where some values go and some stay, a narrowing is smaller
  pub cut_changed : ForSome (domain_at s i a) (λ d. AnswersNarrowing test Smaller d) → NarrowsDomain i a test result s new → Logs s new log longer
      → ChangesDomain i a test result s new log longer
  cut_changed answers narrows logs = record {
    narrows = narrows;
    logs = logs;
    same = λ other. absurd (other (as_answered test narrows.before result narrows.after (answers narrows.before narrows.was) narrows.narrowed));
  }

-- where all go or all stay, nothing changes
pub cut_kept : (s : State) (i a : ℕ) (test : ℤ → Bool) (result : Change) (log : List OldValue) → IsSome (domain_at s i a)
    → ForSome (domain_at s i a) (λ d. AnswersNarrowing test result d) → result ≢ Smaller → ChangesDomain i a test result s s log log
cut_kept s i a test result log some answers other =
    let d = some_value (domain_at s i a) some in
    domain_kept s i a d.0 d.1 test result d.0 log (unmoved test d.0 result (answers d.0 d.1) other) other
