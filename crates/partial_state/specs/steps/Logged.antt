-- Narrowings of a state with their log.
use Rattle.std.specs.Prelude.{◌≡◌, ◌≢◌, ℕ, ℤ, Bool, List}
use Rattle.domain_store.specs.declared.change.Change.{Change}
use Rattle.domain_store.specs.declared.change.Change.TheVariants.{Smaller}
use Rattle.state_space.specs.Ports.{PortLinks}
use Rattle.state_space.specs.State.{State}
use Rattle.state_space.specs.Changes.{NarrowsKinds, NarrowsDomain, NarrowsPort}
use Rattle.state_space.specs.Undo.{OldValue, Logs}

-- The possible types of an instance are narrowed by a test, and their log brings them back. Unless
-- they are fewer nothing is logged.
pub record ChangesKinds (i : ℕ) (test : ℕ → Bool) (result : Change) (old new : State)
    (log longer : List OldValue) : Type 0 where
  pub narrows : NarrowsKinds i test result old new
  pub logs : Logs old new log longer
  pub same : result ≢ Smaller → longer ≡ log

-- A domain is narrowed by a test, and its log brings it back. Unless it is smaller nothing is
-- logged.
pub record ChangesDomain (i a : ℕ) (test : ℤ → Bool) (result : Change) (old new : State)
    (log longer : List OldValue) : Type 0 where
  pub narrows : NarrowsDomain i a test result old new
  pub logs : Logs old new log longer
  pub same : result ≢ Smaller → longer ≡ log

-- What a port may link is narrowed by a test, and its log brings it back.
pub record ChangesPort (i p : ℕ) (test : PortLinks → Bool) (result : Change) (old new : State)
    (log longer : List OldValue) : Type 0 where
  pub narrows : NarrowsPort i p test result old new
  pub logs : Logs old new log longer
  pub same : result ≢ Smaller → longer ≡ log
