-- Which instances can be written.
use Rattle.std.specs.Prelude.{◌≡◌, ◌<◌, IsTrue, length}
use lib.Pointwise.{pointwise}
use Rattle.prod_model.specs.declared.model.Model.{Model}
use Rattle.prod_model.specs.Taxonomy.{attributes_at, ports_at}
use Rattle.config_value.specs.declared.configuration.Instance.{Instance}
use Rattle.config_value.specs.Spelled.{is_spelled_value}

-- an instance of a type, with a value that can be written for each of its attributes, and links for
-- each of its ports
pub record IsWritten (m : Model) (x : Instance) : Type 0 where
  pub typed : x.kind < length m.types
  pub valued : IsTrue (pointwise (is_spelled_value m) (attributes_at m x.kind) x.values)
  pub linked : length x.links ≡ length (ports_at m x.kind)
