-- The names of what the types of a model have, beside its tables.
use Rattle.std.specs.Prelude.{◌≡◌, ℕ, List, map}
use Rattle.prod_model.specs.declared.model.Model.{Model}
use Rattle.prod_model.specs.Forest.{type_numbers}
use Rattle.prod_model.specs.Taxonomy.{AreTablesOf, attributes_of, ports_of}
use Rattle.file_meaning.specs.declared.named_tables.NamedTables.{NamedTables}

-- the names of a type's attributes, in the order in which it has them
abbrev pub attribute_names : Model → ℕ → List (List ℕ)
attribute_names m t = map (λ e. e.name) (attributes_of m.types t)

-- the names of a type's ports, in the order in which it has them
abbrev pub port_names : Model → ℕ → List (List ℕ)
port_names m t = map (λ e. e.name) (ports_of m.types t)

-- The tables are those of the model, and the names are those of its types and of each type's
-- attributes and ports.
pub record AreNamedTablesOf (m : Model) (named : NamedTables) : Type 0 where
  pub tables : AreTablesOf m named.tables.now
  pub types : named.types ≡ map (λ d. d.name) m.types
  pub attributes : named.attributes ≡ map (attribute_names m) (type_numbers m.types)
  pub ports : named.ports ≡ map (port_names m) (type_numbers m.types)
