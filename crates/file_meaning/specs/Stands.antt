-- Which model or order a value, and a file, stands for.
use Rattle.std.specs.Prelude.{◌≡◌, ℕ, ◌≤◌, List, [], length, Contains}
use Rattle.serde_json.specs.Data.{Data}
use Rattle.prod_model.specs.declared.model.Model.{Model}
use Rattle.prod_model.specs.declared.model.Order.{Order}
use Rattle.prod_model.specs.Limits.{most_file_bytes}
use Rattle.file_values.specs.declared.format.Format.{Format}
use Rattle.file_values.specs.declared.format.Format.TheVariants.{First}
use Rattle.file_values.specs.declared.part.Part.{Part}
use Rattle.file_values.specs.declared.kind.Kind.{Kind}
use Rattle.file_values.specs.declared.kind.Kind.TheVariants as kind
use Rattle.file_values.specs.Inside.{FailsAt}
use Rattle.file_values.specs.Kinds.{is_right}
use Rattle.file_values.specs.Forms.{misformed}
use Rattle.file_meaning.specs.ModelOf.{model_in, order_in}
use Rattle.file_meaning.specs.Faults.{Stated, format_of, rules_of, wishes_of, IsValue}

-- every value is of its kind, and every expression of one of the forms
pub record IsReadable (format : Format) (k : Kind) (d : Data) (stated : List Stated)
    : Type 0 where
  pub right : (place : List Part) → ¬ FailsAt format (is_right format) k d place
  pub formed : (s : Stated) → Contains stated s → misformed s.value ≡ []

-- the value stands for this model
pub record StandsForModel (d : Data) (m : Model) : Type 0 where
  pub readable : IsReadable (format_of d) kind.Model d (rules_of d)
  pub is : m ≡ model_in d

-- the value stands for this order, for a model
pub record StandsForOrder (m : Model) (d : Data) (o : Order) : Type 0 where
  pub readable : IsReadable First kind.Order d (wishes_of m d)
  pub is : o ≡ order_in m d

-- the bytes are a file whose value stands for this
pub record IsFileFor {A : Type 0} (StandsFor : Data → A → Type 0) (bytes : List ℕ) (a : A)
    : Type 0 where
  pub short : length bytes ≤ most_file_bytes
  pub value : Data
  pub read : IsValue bytes value
  pub stands : StandsFor value a
