-- What a problem keeps.
use Rattle.std.specs.Prelude.{◌≡◌}
use Rattle.prod_model.specs.declared.model.Model.{Model}
use Rattle.prod_model.specs.declared.model.Tables.{Tables}
use Rattle.prod_model.specs.declared.type_masks.TypeMasks.{TypeMasks}
use Rattle.prod_model.specs.Taxonomy.{tables_of}
use Rattle.prod_model.specs.TypeMasks.{AreMasks}
use Rattle.prod_model.specs.Valid.{IsValid}

-- a valid model, with its tables and its masks
pub record IsProblem (m : Model) (tables : Tables) (masks : TypeMasks) : Type 0 where
  pub valid : IsValid m
  pub right_tables : tables ≡ tables_of m
  pub right_masks : AreMasks m masks
