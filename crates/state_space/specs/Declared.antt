-- What the first declarations of a valid model are.
use Rattle.std.specs.Prelude.{◌≡◌, ℕ, ℤ, ◌≤◌, ◌<◌, IsTrue, length}
use Rattle.base_laws.specs.Places.{IsAt}
use Rattle.prod_model.specs.declared.model.Model.{Model}
use Rattle.prod_model.specs.declared.model.AttrAt.{AttrAt}
use Rattle.prod_model.specs.declared.model.PortAt.{PortAt}
use Rattle.prod_model.specs.declared.model.AttrDecl.{AttrDecl}
use Rattle.prod_model.specs.Taxonomy.{attributes_at, ports_at, first_words}
use Rattle.prod_model.specs.Valid.{IsValid}
use Rattle.config_value.specs.ShapedSentences.{IsValueOf}
use Rattle.config_value.specs.Literals.{has_attribute, has_port}
use Rattle.state_space.specs.Values.{count_of}
use Rattle.state_space.specs.State.{first_attributes, first_ports, values_of, is_whole_value}

-- Each id is the place of a first declaration, and none stands twice at a type.
pub record HasIds (m : Model) : Type 0 where
  pub attributes_declared : (t a : ℕ) → IsTrue (has_attribute m t a)
      → a < length (first_attributes m)
  pub ports_declared : (t p : ℕ) → IsTrue (has_port m t p) → p < length (first_ports m)
  pub attributes_apart : (t j k : ℕ) (a b : AttrAt) → IsAt (attributes_at m t) j a
      → IsAt (attributes_at m t) k b → a.id ≡ b.id → j ≡ k
  pub ports_apart : (t j k : ℕ) (p q : PortAt) → IsAt (ports_at m t) j p
      → IsAt (ports_at m t) k q → p.id ≡ q.id → j ≡ k

-- A value of the domain that a type has of an attribute is one of the whole domain.
abbrev pub WholeHasAll : Model → Type 0
WholeHasAll m = (t k : ℕ) (a : AttrAt) (v : ℤ) → IsAt (attributes_at m t) k a
    → IsValueOf a.domain (first_words m a.id) v → IsTrue (is_whole_value m a.id v)

-- The first declarations are few, and each has few values; a port has few links, and there are few
-- types and instances.
pub record HasFew (m : Model) : Type 0 where
  pub attributes : length (first_attributes m) ≤ 256
  pub ports : length (first_ports m) ≤ 256
  pub values : (k : ℕ) (d : AttrDecl) → IsAt (first_attributes m) k d
      → count_of (values_of d.domain) ≤ 2000001
  pub links : (t k : ℕ) (p : PortAt) → IsAt (ports_at m t) k p → p.high ≤ 256
  pub types : length m.types ≤ 128
  pub instances : m.instances ≤ 256

-- In a valid model each id is the place of a first declaration, and a type has each id once.
abbrev pub ValidHasIds : Type 0
ValidHasIds = (m : Model) → IsValid m → HasIds m

-- In a valid model the values of an attribute at a type are values of its whole domain.
abbrev pub ValidHasWholeDomains : Type 0
ValidHasWholeDomains = (m : Model) → IsValid m → WholeHasAll m

-- A valid model has few of all.
abbrev pub ValidHasFew : Type 0
ValidHasFew = (m : Model) → IsValid m → HasFew m
