-- What files without fault stand for.
use Rattle.std.specs.Prelude.{ℕ, ◌≤◌, List, length}
use Rattle.prod_model.specs.declared.model.Model.{Model}
use Rattle.prod_model.specs.declared.model.Order.{Order}
use Rattle.prod_model.specs.Limits.{most_answer_bytes}
use Rattle.prod_model.specs.Valid.{IsValid, IsValidOrder}
use Rattle.config_value.specs.declared.configuration.Instance.{Instance}
use Rattle.file_meaning.specs.Stands.{StandsForModel, StandsForOrder, IsFileFor}
use Rattle.canonical_form.specs.BadLine.{IsAnswerOf}

-- the bytes are a model file without fault, and stand for this model
pub record IsModelFile (bytes : List ℕ) (m : Model) : Type 0 where
  pub stands : IsFileFor StandsForModel bytes m
  pub valid : IsValid m

-- the bytes are an order file without fault for a model, and stand for this order
pub record IsOrderFile (m : Model) (bytes : List ℕ) (o : Order) : Type 0 where
  pub stands : IsFileFor (StandsForOrder m) bytes o
  pub valid : IsValidOrder m o

-- the bytes are an answer file, and the answer text of this configuration
pub record IsAnswerFile (m : Model) (bytes : List ℕ) (c : List Instance) : Type 0 where
  pub short : length bytes ≤ most_answer_bytes
  pub answer : IsAnswerOf m bytes c
