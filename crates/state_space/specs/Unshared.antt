-- What only some possible types of an instance have: no literal narrows it, so it stays as wide as
-- these types allow.
use Rattle.std.specs.Prelude.{◌≡◌, ◌≤◌, ℕ, ℤ, false, IsTrue, List, length}
use Rattle.std.specs.List.{list_all}
use Rattle.base_laws.specs.Places.{IsAt}
use Rattle.prod_model.specs.declared.model.Model.{Model}
use Rattle.prod_model.specs.declared.model.AttrAt.{AttrAt}
use Rattle.prod_model.specs.declared.model.PortAt.{PortAt}
use Rattle.prod_model.specs.Taxonomy.{attributes_at, ports_at, first_words}
use Rattle.prod_model.specs.Valid.{IsValid}
use Rattle.config_value.specs.declared.literal.Literal.{Literal}
use Rattle.config_value.specs.Shaped.{ascends}
use Rattle.config_value.specs.ShapedSentences.{IsValueOf}
use Rattle.config_value.specs.Literals.{has_attribute, has_port}
use Rattle.domain_store.specs.declared.change.Change.{Change}
use Rattle.state_space.specs.Sets.{has_number}
use Rattle.state_space.specs.Made.{MadeInstance}
use Rattle.state_space.specs.State.{State, IsState, number_made}
use Rattle.state_space.specs.Covers.{has_value_under, allows_under}
use Rattle.state_space.specs.Entails.{fits}
use Rattle.state_space.specs.Changes.{ChangesBy}
use Rattle.state_space.specs.Root.{root}

-- What not all possible types of an instance have is as wide as each of them allows.
pub record IsWide (m : Model) (s : State) : Type 0 where
  -- each value that a possible type allows of such an attribute is in the domain
  pub values : (i t k : ℕ) (x : MadeInstance) (a : AttrAt) (v : ℤ) → IsAt s.made i x
      → list_all (λ u. has_attribute m u a.id) x.kinds ≡ false → IsTrue (has_number x.kinds t)
      → IsAt (attributes_at m t) k a → IsValueOf a.domain (first_words m a.id) v
      → IsTrue (has_value_under x a.id v)
  -- all ascending links that are as few as a possible type allows of such a port are allowed
  pub links : (i t k : ℕ) (x : MadeInstance) (p : PortAt) (links : List ℕ) → IsAt s.made i x
      → list_all (λ u. has_port m u p.id) x.kinds ≡ false → IsTrue (has_number x.kinds t)
      → IsAt (ports_at m t) k p → IsTrue (ascends links) → length links ≤ p.high
      → IsTrue (allows_under (number_made s) x p.id links)

-- The root state is wide so.
abbrev pub RootIsWide : Type 0
RootIsWide = (m : Model) → IsValid m → IsWide m (root m)

-- A change by any literal that fits keeps a state so.
abbrev pub ChangeKeepsWide : Type 0
ChangeKeepsWide =
    (m : Model) (l : Literal) (result : Change) (old new : State) → IsValid m → IsState m old
    → IsTrue (fits m old l) → ChangesBy m l result old new → IsWide m old → IsWide m new
