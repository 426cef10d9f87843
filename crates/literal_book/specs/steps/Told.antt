-- What an instance has of an attribute or a port.
use Rattle.std.specs.Prelude.{ℕ, ℤ, List, if◌then◌else◌, Some, None}
use Rattle.std.specs.declared.option.Option.{Option}
use Rattle.prod_model.specs.declared.model.Model.{Model}
use Rattle.config_value.specs.declared.configuration.Instance.{Instance}
use Rattle.config_value.specs.Value.{value_of, links_of, at_instance}
use Rattle.config_value.specs.Literals.{has_attribute, has_port}

-- the value of an attribute, and nothing where the type has no such attribute
abbrev pub value_told : Model → Instance → ℕ → Option ℤ
value_told m x id = if has_attribute m x.kind id then Some (value_of m x id) else None

-- the links of a port, and nothing where the type has no such port
abbrev pub links_told : Model → Instance → ℕ → Option (List ℕ)
links_told m x id = if has_port m x.kind id then Some (links_of m x id) else None

-- the value of an attribute of instance i, and nothing where there is no such instance
abbrev pub value_told_at : Model → List Instance → ℕ → ℕ → Option ℤ
value_told_at m c i id = at_instance c (λ x. value_told m x id) None i

-- the links of a port of instance i, and nothing where there is no such instance
abbrev pub links_told_at : Model → List Instance → ℕ → ℕ → Option (List ℕ)
links_told_at m c i id = at_instance c (λ x. links_told m x id) None i
