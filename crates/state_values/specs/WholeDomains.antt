-- States in which what only some possible types of an instance have is not narrowed.
use Rattle.std.specs.Prelude.{◌≡◌, ℕ, true, false, IsTrue}
use Rattle.std.specs.List.{list_all, list_any}
use Rattle.base_laws.specs.Places.{IsAt}
use Rattle.prod_model.specs.declared.model.Model.{Model}
use Rattle.prod_model.specs.Valid.{IsValid}
use Rattle.config_value.specs.declared.literal.Literal.{Literal}
use Rattle.config_value.specs.Literals.{has_attribute}
use Rattle.domain_store.specs.declared.change.Change.{Change}
use Rattle.state_space.specs.Made.{MadeInstance, domain_of}
use Rattle.state_space.specs.State.{State, whole_domain}
use Rattle.state_space.specs.Root.{root}
use Rattle.state_space.specs.Entails.{fits}
use Rattle.state_space.specs.Changes.{ChangesBy}

-- An attribute that some but not all possible types of an instance have has its whole domain there.
abbrev pub AreDomainsWhole : Model → State → Type 0
AreDomainsWhole m s =
    (i a : ℕ) (x : MadeInstance) → IsAt s.made i x
    → list_any (λ t. has_attribute m t a) x.kinds ≡ true
    → list_all (λ t. has_attribute m t a) x.kinds ≡ false → domain_of x a ≡ whole_domain m a

-- So it is in the root state.
abbrev pub RootDomainsAreWhole : Type 0
RootDomainsAreWhole = (m : Model) → IsValid m → AreDomainsWhole m (root m)

-- A change by any literal that fits keeps it so.
abbrev pub ChangeKeepsDomainsWhole : Type 0
ChangeKeepsDomainsWhole =
    (m : Model) (l : Literal) (result : Change) (old new : State) → IsValid m
    → IsTrue (fits m old l) → ChangesBy m l result old new → AreDomainsWhole m old
    → AreDomainsWhole m new
