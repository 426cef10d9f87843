-- What a narrowing of a state changes: one domain, and nothing else.
use Rattle.std.specs.Prelude.{◌≡◌, ℕ, ℤ, int_le, Bool, true, false, not, nat_le, length, IsTrue, Some}
use Rattle.std.specs.Ordering.{int_eq}
use Rattle.prod_model.specs.declared.model.Model.{Model}
use Rattle.prod_model.specs.Limits.{most_types}
use Rattle.prod_model.specs.Forest.{is_a}
use Rattle.domain_store.specs.declared.change.Change.{Change}
use Rattle.domain_store.specs.declared.change.Change.TheVariants.{Smaller}
use Rattle.config_value.specs.declared.literal.Literal.{Literal}
use Rattle.config_value.specs.declared.literal.Literal.TheVariants.{Made, Kind, NotKind, AtMost, AtLeast, ValueIsNot, Linked, NotLinked, LinksAtMost, LinksAtLeast, FreshAtMost, FreshAtLeast}
use Rattle.state_space.specs.Values.{Values, are_values, has_words, NarrowsValues}
use Rattle.state_space.specs.Ports.{PortState, PortLinks, is_port, NarrowsLinks}
use Rattle.state_space.specs.Sets.{has_number, is_set_below, Reduces}
use Rattle.state_space.specs.State.{State, kinds_at, domain_at, port_at, with_kinds, with_domain, with_port}
use Rattle.state_space.specs.Generation.{generated}

-- the possible types of instance i are narrowed by a test, and all else stays
pub record NarrowsKinds (i : ℕ) (test : ℕ → Bool) (result : Change) (old new : State)
    : Type 0 where
  pub narrowed : Reduces has_number length test result (kinds_at old i) (kinds_at new i)
  pub formed : IsTrue (is_set_below most_types (kinds_at new i))
  pub others : new ≡ with_kinds i (kinds_at new i) old

-- the domain of an attribute of instance i is narrowed by a test, and all else stays
pub record NarrowsDomain (i a : ℕ) (test : ℤ → Bool) (result : Change) (old new : State)
    : Type 0 where
  pub before : Values
  pub after : Values
  pub was : domain_at old i a ≡ Some before
  pub narrowed : NarrowsValues test result before after
  pub formed : IsTrue (are_values after)
  pub form : has_words after ≡ has_words before
  pub others : new ≡ with_domain i a after old

-- what a port of instance i may link is narrowed by a test, and all else stays
pub record NarrowsPort (i p : ℕ) (test : PortLinks → Bool) (result : Change) (old new : State)
    : Type 0 where
  pub before : PortState
  pub after : PortState
  pub was : port_at old i p ≡ Some before
  pub narrowed : NarrowsLinks test result before after
  pub formed : IsTrue (is_port after)
  pub others : new ≡ with_port i p after old

-- a literal that narrows, and makes no instance
abbrev pub is_narrowing : Literal → Bool
is_narrowing (Made i) = false
is_narrowing l = true

-- What a change by a literal does: the narrowing that it names, or, for `Made`, the next instance
-- is made. Nothing narrows by the number of all links.
abbrev pub ChangesBy : Model → Literal → Change → State → State → Type 0
ChangesBy m (Made i) result old new = (result ≡ Smaller) × (new ≡ generated m old)
ChangesBy m (Kind i t) result old new = NarrowsKinds i (λ u. is_a m u t) result old new
ChangesBy m (NotKind i t) result old new = NarrowsKinds i (λ u. not (is_a m u t)) result old new
ChangesBy m (AtMost i a n) result old new = NarrowsDomain i a (λ v. int_le v n) result old new
ChangesBy m (AtLeast i a n) result old new = NarrowsDomain i a (λ v. int_le n v) result old new
ChangesBy m (ValueIsNot i a n) result old new =
    NarrowsDomain i a (λ v. not (int_eq v n)) result old new
ChangesBy m (Linked i p j) result old new =
    NarrowsPort i p (λ l. has_number l.to_made j) result old new
ChangesBy m (NotLinked i p j) result old new =
    NarrowsPort i p (λ l. not (has_number l.to_made j)) result old new
ChangesBy m (LinksAtMost i p n) result old new = ⊥
ChangesBy m (LinksAtLeast i p n) result old new = ⊥
ChangesBy m (FreshAtMost i p from n) result old new =
    NarrowsPort i p (λ l. nat_le l.later n) result old new
ChangesBy m (FreshAtLeast i p from n) result old new =
    NarrowsPort i p (λ l. nat_le n l.later) result old new
