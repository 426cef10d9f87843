-- What a change by a literal answers, from what the narrowing that it names does.
use Rattle.std.proofs.Common.{◌≡◌, ◌≢◌, ℕ, ℤ, ◌∙◌, ap, sym, subst, Bool, not, List, [], ◌∷◌, append-nil}
use Rattle.std.specs.Prelude.{IsTrue, IsSome, IfOk, OnOk, OnErr, slice_get}
use Rattle.std.specs.declared.result.Result.{Result}
use Rattle.std.specs.declared.result.Result.TheVariants.{Ok, Err}
use Rattle.std.specs.Option.{option_and_then, is_some}
use Rattle.std.specs.List.{list_all, list_any}
use Rattle.std.proofs.lemmas.Bool.{and_parts, or_left, false≢true}
use Rattle.std.proofs.lemmas.Result.{IfOk-weaker}
use Rattle.base_laws.proofs.Tests.{option_map_or_at}
use Rattle.prod_model.specs.declared.model.Model.{Model}
use Rattle.config_value.specs.declared.literal.Literal.{Literal}
use Rattle.config_value.specs.declared.literal.Literal.TheVariants as literal
use Rattle.config_value.specs.Literals.{has_attribute, has_port}
use Rattle.domain_store.specs.declared.change.Change.{Change}
use Rattle.domain_store.specs.declared.change.Change.TheVariants.{Smaller}
use Rattle.state_space.specs.Made.{domain_of, port_of_made}
use Rattle.state_space.specs.Ports.{PortLinks}
use Rattle.state_space.specs.Values.{is_empty}
use Rattle.state_space.specs.State.{State, IsState, domain_at, port_at}
use Rattle.state_space.specs.Entails.{all_have_attribute, all_have_port}
use Rattle.state_space.specs.Generation.{generated}
use Rattle.state_space.specs.Changes.{NarrowsKinds, NarrowsDomain, NarrowsPort, ChangesBy}
use Rattle.state_space.specs.Undo.{OldValue, Logs}
use Rattle.state_space.proofs.StateLaws.{each_keeps_state}
use Rattle.partial_state.specs.steps.Logged.{ChangesKinds, ChangesDomain, ChangesPort}

-- ---- what a literal that fits speaks of is there

any_of_all : (test : ℕ → Bool) (kinds : List ℕ) → IsTrue (not (is_empty kinds)) → IsTrue (list_all test kinds) → IsTrue (list_any test kinds)
any_of_all test [] some all = absurd (false≢true some)
any_of_all test (t ∷ ts) some all = or_left (test t) (list_any test ts) (and_parts (test t) (list_all test ts) all).0

pub has_domain : (m : Model) (s : State) (i a : ℕ) → IsState m s → IsTrue (all_have_attribute m s i a) → IsSome (domain_at s i a)
has_domain m s i a state all =
    let x = option_map_or_at (λ x. list_all (λ t. has_attribute m t a) x.kinds) (slice_get s.made i) all in
    let is = state.each i x.0 x.1 in
    ap (λ o. is_some (option_and_then (λ x. domain_of x a) o)) x.1 ∙ is.has_domains a (any_of_all (λ t. has_attribute m t a) x.0.kinds is.some x.2)

pub has_links : (m : Model) (s : State) (i p : ℕ) → IsState m s → IsTrue (all_have_port m s i p) → IsSome (port_at s i p)
has_links m s i p state all =
    let x = option_map_or_at (λ x. list_all (λ t. has_port m t p) x.kinds) (slice_get s.made i) all in
    let is = state.each i x.0 x.1 in
    ap (λ o. is_some (option_and_then (λ x. port_of_made x p) o)) x.1 ∙ is.has_ports p (any_of_all (λ t. has_port m t p) x.0.kinds is.some x.2)

-- ---- answers

-- a change by a literal, its log and the state after it; or memory ran out, and both are as they were
pub record Outcome {E : Type 0} (m : Model) (l : Literal) (result : Result Change E) (old new : State) (log longer : List OldValue) : Type 0 where
  pub changed : IfOk result (λ r. ChangesBy m l r old new)
  pub logged : Logs old new log longer
  pub same : result ≢ Ok Smaller → longer ≡ log
  pub unchanged : OnErr result (new ≡ old)
  pub state : IsState m new

-- where memory ran out
pub none_logged : (old new : State) (log longer : List OldValue) → new ≡ old → longer ≡ log → Logs old new log longer
none_logged old new log longer unchanged kept = record { entries = []; appended = kept ∙ sym (append-nil log); back = unchanged }

-- a change by the literal, with its log
record IsDone (m : Model) (k : Literal) (old new : State) (log longer : List OldValue) (r : Change) : Type 0 where
  changed : ChangesBy m k r old new
  logged : Logs old new log longer
  same : r ≢ Smaller → longer ≡ log
  after : IsState m new

module _ {E : Type 0} (m : Model) (l k : Literal) (is : l ≡ k) (old new : State) (log longer : List OldValue) (state : IsState m old) where
  outcome : (result : Result Change E) → IfOk result (IsDone m k old new log longer) → OnErr result (new ≡ old) → OnErr result (longer ≡ log) → Outcome m l result old new log longer
  outcome (Ok r) done unchanged kept = record {
    changed = subst (λ j. ChangesBy m j r old new) (sym is) done.changed;
    logged = done.logged;
    same = λ other. done.same (λ e. other (ap Ok e));
    unchanged = tt;
    state = done.after;
  }
  outcome (Err e) done unchanged kept = record {
    changed = tt;
    logged = none_logged old new log longer unchanged kept;
    same = λ other. kept;
    unchanged = unchanged;
    state = subst (IsState m) (sym unchanged) state;
  }

  pub kinds_outcome : (i : ℕ) (test : ℕ → Bool) → ((r : Change) → NarrowsKinds i test r old new → ChangesBy m k r old new)
      → (result : Result Change E) → IfOk result (λ r. ChangesKinds i test r old new log longer) → OnErr result (new ≡ old) → OnErr result (longer ≡ log) → Outcome m l result old new log longer
  kinds_outcome i test by result given = outcome result (IfOk-weaker result (λ r. ChangesKinds i test r old new log longer) (IsDone m k old new log longer) (λ r g. record {
    changed = by r g.narrows;
    logged = g.logs;
    same = g.same;
    after = (each_keeps_state m i r old new state).0 test g.narrows;
  }) given)

  pub domain_outcome : (i a : ℕ) (test : ℤ → Bool) → ((r : Change) → NarrowsDomain i a test r old new → ChangesBy m k r old new)
      → (result : Result Change E) → IfOk result (λ r. ChangesDomain i a test r old new log longer) → OnErr result (new ≡ old) → OnErr result (longer ≡ log) → Outcome m l result old new log longer
  domain_outcome i a test by result given = outcome result (IfOk-weaker result (λ r. ChangesDomain i a test r old new log longer) (IsDone m k old new log longer) (λ r g. record {
    changed = by r g.narrows;
    logged = g.logs;
    same = g.same;
    after = (each_keeps_state m i r old new state).1 a test g.narrows;
  }) given)

  pub port_outcome : (i p : ℕ) (test : PortLinks → Bool) → ((r : Change) → NarrowsPort i p test r old new → ChangesBy m k r old new)
      → (result : Result Change E) → IfOk result (λ r. ChangesPort i p test r old new log longer) → OnErr result (new ≡ old) → OnErr result (longer ≡ log) → Outcome m l result old new log longer
  port_outcome i p test by result given = outcome result (IfOk-weaker result (λ r. ChangesPort i p test r old new log longer) (IsDone m k old new log longer) (λ r g. record {
    changed = by r g.narrows;
    logged = g.logs;
    same = g.same;
    after = (each_keeps_state m i r old new state).2 p test g.narrows;
  }) given)

  pub made_outcome : (i : ℕ) → literal.Made i ≡ k → (result : Result Change E) → IfOk result (λ r. r ≡ Smaller) → OnOk result (new ≡ generated m old)
      → Logs old new log longer → OnErr result (longer ≡ log) → OnErr result (new ≡ old) → IsState m new → Outcome m l result old new log longer
  made_outcome i made (Ok r) smaller becomes logs kept unchanged after = record {
    changed = subst (λ j. ChangesBy m j r old new) (made ∙ sym is) (smaller, becomes);
    logged = logs;
    same = λ other. absurd (other (ap Ok smaller));
    unchanged = tt;
    state = after;
  }
  made_outcome i made (Err e) smaller becomes logs kept unchanged after = record {
    changed = tt;
    logged = logs;
    same = λ other. kept;
    unchanged = unchanged;
    state = after;
  }
