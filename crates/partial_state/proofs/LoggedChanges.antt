-- Logged narrowings of a domain, and the state that their log brings back.
use Rattle.std.proofs.Common.{◌≡◌, ◌≢◌, ℕ, zero, suc, ◌∙◌, ap, sym, Bool, refl, List, [], ◌∷◌, ◌++◌, append-nil, ℤ, Some, None}
use Rattle.std.specs.Prelude.{slice_get, slice_set, slice_index_or}
use Rattle.std.specs.declared.option.Option.{Option}
use Rattle.std.specs.Option.{option_and_then}
use Rattle.domain_store.specs.declared.change.Change.{Change}
use Rattle.domain_store.specs.declared.change.Change.TheVariants.{Smaller}
use Rattle.state_space.specs.Values.{Values}
use Rattle.state_space.specs.Made.{MadeInstance, domain_of, port_of_made}
use Rattle.state_space.specs.Ports.{PortState, PortLinks}
use Rattle.state_space.specs.State.{State, domain_at, port_at, changed_at, with_domain, with_port}
use Rattle.state_space.specs.Undo.{OldValue, Port}
use Rattle.partial_state.specs.steps.InForm.{NarrowsInForm, NarrowsInPort}
use Rattle.partial_state.specs.steps.Logged.{ChangesDomain, ChangesPort}

changed_twice : {X : Type 0} (f g : X → X) (xs : List X) (i : ℕ) → changed_at i f (changed_at i g xs) ≡ changed_at i (λ x. f (g x)) xs
changed_twice f g [] i = refl
changed_twice f g (x ∷ xs) zero = refl
changed_twice f g (x ∷ xs) (suc i) = ap (λ ys. x ∷ ys) (changed_twice f g xs i)

changed_same : {X : Type 0} (f : X → X) (xs : List X) (i : ℕ) → ((x : X) → slice_get xs i ≡ Some x → f x ≡ x) → changed_at i f xs ≡ xs
changed_same f [] i same = refl
changed_same f (x ∷ xs) zero same = ap (λ y. y ∷ xs) (same x refl)
changed_same f (x ∷ xs) (suc i) same = ap (λ ys. x ∷ ys) (changed_same f xs i same)

set_twice : {X : Type 0} (xs : List X) (k : ℕ) (y z : X) → slice_set (slice_set xs k y) k z ≡ slice_set xs k z
set_twice [] k y z = refl
set_twice (x ∷ xs) zero y z = refl
set_twice (x ∷ xs) (suc k) y z = ap (λ ys. x ∷ ys) (set_twice xs k y z)

set_same : {X : Type 0} (xs : List (Option X)) (k : ℕ) (d : X) → slice_index_or xs k None ≡ Some d → slice_set xs k (Some d) ≡ xs
set_same [] k d is = refl
set_same (x ∷ xs) zero d is = ap (λ y. y ∷ xs) (sym is)
set_same (x ∷ xs) (suc k) d is = ap (λ ys. x ∷ ys) (set_same xs k d is)

module _ (s : State) (i a : ℕ) (d : Values) (is : domain_at s i a ≡ Some d) where
  at_instance : (x : MadeInstance) → slice_get s.made i ≡ Some x → domain_of x a ≡ Some d
  at_instance x at = sym (ap (option_and_then (λ z. domain_of z a)) at) ∙ is

  -- the same domain changes nothing
  pub same_domain : with_domain i a d s ≡ s
  same_domain =
      ap (λ m. record s { made = m })
      (changed_same (λ x. record x { domains = slice_set x.domains a (Some d) }) s.made i
      (λ x at. ap (λ ds. record x { domains = ds }) (set_same x.domains a d (at_instance x at))))

  pub domain_kept : (test : ℤ → Bool) (result : Change) (next : Values) (log : List OldValue) → NarrowsInForm test result d next → result ≢ Smaller
      → ChangesDomain i a test result s s log log
  domain_kept test result next log given other =
      let kept : next ≡ d = given.narrowed.narrows.unchanged other in record {
        narrows = record {
          before = d;
          after = d;
          was = is;
          narrowed = rw kept at given.narrowed;
          formed = rw kept at given.formed;
          form = refl;
          others = sym same_domain;
        };
        logs = record { entries = []; appended = sym (append-nil log); back = refl };
        same = λ _. refl;
      }

module _ (s : State) (i p : ℕ) (q : PortState) (is : port_at s i p ≡ Some q) where
  port_of_instance : (x : MadeInstance) → slice_get s.made i ≡ Some x → port_of_made x p ≡ Some q
  port_of_instance x at = sym (ap (option_and_then (λ z. port_of_made z p)) at) ∙ is

  -- the same links change nothing
  pub same_port : with_port i p q s ≡ s
  same_port =
      ap (λ m. record s { made = m })
      (changed_same (λ x. record x { ports = slice_set x.ports p (Some q) }) s.made i
      (λ x at. ap (λ qs. record x { ports = qs }) (set_same x.ports p q (port_of_instance x at))))

  -- the old links bring the state back
  pub port_back : (e : PortState) → with_port i p q (with_port i p e s) ≡ s
  port_back e =
      ap (λ m. record s { made = m })
      (changed_twice (λ x. record x { ports = slice_set x.ports p (Some q) }) (λ x. record x { ports = slice_set x.ports p (Some e) }) s.made i
      ∙ changed_same (λ x. record x { ports = slice_set (slice_set x.ports p (Some e)) p (Some q) }) s.made i
      (λ x at. ap (λ qs. record x { ports = qs }) (set_twice x.ports p (Some e) (Some q) ∙ set_same x.ports p q (port_of_instance x at))))

  pub port_logged : (test : PortLinks → Bool) (next : PortState) (new : State) (log longer : List OldValue) → NarrowsInPort test Smaller q next
      → new ≡ with_port i p next s → longer ≡ log ++ Port i p q ∷ [] → ChangesPort i p test Smaller s new log longer
  port_logged test next new log longer given becomes pushed = record {
    narrows = record {
      before = q;
      after = next;
      was = is;
      narrowed = given.narrowed;
      formed = given.formed;
      others = becomes;
    };
    logs = record {
      entries = Port i p q ∷ [];
      appended = pushed;
      back = ap (with_port i p q) becomes ∙ port_back next;
    };
    same = λ other. absurd (other refl);
  }

  pub port_kept : (test : PortLinks → Bool) (result : Change) (next : PortState) (log : List OldValue) → NarrowsInPort test result q next → result ≢ Smaller
      → ChangesPort i p test result s s log log
  port_kept test result next log given other =
      let kept : next ≡ q = given.narrowed.narrows.unchanged other in record {
        narrows = record {
          before = q;
          after = q;
          was = is;
          narrowed = rw kept at given.narrowed;
          formed = rw kept at given.formed;
          others = sym same_port;
        };
        logs = record { entries = []; appended = sym (append-nil log); back = refl };
        same = λ _. refl;
      }
