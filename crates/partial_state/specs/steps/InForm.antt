-- Narrowings of the values of an attribute.
use Rattle.std.specs.Prelude.{◌≡◌, ℤ, Bool, IsTrue}
use Rattle.domain_store.specs.declared.change.Change.{Change}
use Rattle.state_space.specs.Values.{Values, has_words, are_values, NarrowsValues}
use Rattle.state_space.specs.Ports.{PortState, PortLinks, is_port, NarrowsLinks}

-- values are narrowed by a test, and keep their form
pub record NarrowsInForm (test : ℤ → Bool) (result : Change) (old new : Values) : Type 0 where
  pub narrowed : NarrowsValues test result old new
  pub formed : IsTrue (are_values new)
  pub form : has_words new ≡ has_words old

-- what a port may link is narrowed by a test
pub record NarrowsInPort (test : PortLinks → Bool) (result : Change) (old new : PortState)
    : Type 0 where
  pub narrowed : NarrowsLinks test result old new
  pub formed : IsTrue (is_port new)
