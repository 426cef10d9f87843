-- What a narrowing of a part does, before all else of the state is said to stay.
use Rattle.std.specs.Prelude.{◌≡◌, ℕ, ℤ, Bool, IsTrue, Some, slice_set, length}
use Rattle.domain_store.specs.declared.change.Change.{Change}
use Rattle.prod_model.specs.Limits.{most_types}
use Rattle.state_space.specs.Sets.{has_number, is_set_below, Reduces}
use Rattle.state_space.specs.Values.{Values}
use Rattle.partial_state.specs.steps.InForm.{NarrowsInForm, NarrowsInPort}
use Rattle.partial_state.specs.declared.values.Domain.{Domain}
use Rattle.partial_state.specs.Views.{values_of_domain, IsStored}
use Rattle.state_space.specs.Made.{MadeInstance, domain_of, port_of_made}
use Rattle.state_space.specs.Ports.{PortState, PortLinks}
use Rattle.std.specs.declared.option.Option.{Option}

-- the values of one attribute of an instance are narrowed by a test
pub record NarrowsAttribute (a : ℕ) (test : ℤ → Bool) (result : Change)
    (old new : MadeInstance) : Type 0 where
  pub before : Values
  pub after : Values
  pub was : domain_of old a ≡ Some before
  pub narrowed : NarrowsInForm test result before after
  pub others : new ≡ record old { domains = slice_set old.domains a (Some after) }

-- what one port of an instance may link is narrowed by a test
pub record NarrowsPortOf (p : ℕ) (test : PortLinks → Bool) (result : Change)
    (old new : MadeInstance) : Type 0 where
  pub before : PortState
  pub after : PortState
  pub was : port_of_made old p ≡ Some before
  pub narrowed : NarrowsInPort test result before after
  pub others : new ≡ record old { ports = slice_set old.ports p (Some after) }

-- the possible types of an instance are narrowed by a test
pub record NarrowsTypes (test : ℕ → Bool) (result : Change) (old new : MadeInstance)
    : Type 0 where
  pub narrowed : Reduces has_number length test result old.kinds new.kinds
  pub formed : IsTrue (is_set_below most_types new.kinds)
  pub others : new ≡ record old { kinds = new.kinds }

-- the values in a place of a table are narrowed by a test
pub record NarrowsSlot (test : ℤ → Bool) (result : Change) (old new : Option Values)
    : Type 0 where
  pub before : Values
  pub after : Values
  pub was : old ≡ Some before
  pub narrowed : NarrowsInForm test result before after
  pub becomes : new ≡ Some after

-- what a port in a place of a table may link is narrowed by a test
pub record NarrowsPortSlot (test : PortLinks → Bool) (result : Change)
    (old new : Option PortState) : Type 0 where
  pub before : PortState
  pub after : PortState
  pub was : old ≡ Some before
  pub narrowed : NarrowsInPort test result before after
  pub becomes : new ≡ Some after

-- a stored domain is narrowed by a test, and is stored as before
pub record NarrowsStored (test : ℤ → Bool) (result : Change) (old new : Domain) : Type 0 where
  pub narrowed : NarrowsInForm test result (values_of_domain old) (values_of_domain new)
  pub stored : IsStored new
