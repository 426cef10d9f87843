-- What a solver stands for, and the jobs that it is asked.
use Rattle.std.specs.Prelude.{Bool, Option, List}
use Rattle.prod_model.specs.declared.model.Model.{Model}
use Rattle.prod_model.specs.declared.model.Order.{Order}
use Rattle.prod_model.specs.declared.expr.Expr.{Expr}
use Rattle.config_value.specs.declared.configuration.Instance.{Instance}
use Rattle.reason_trail.specs.Jobs.{Task}

-- a model and an order of it
pub record Ordered : Type 0 where
  pub model : Model
  pub order : Order

-- the job of finding the best, or any, of what a call of a solver asks for
abbrev pub asked : Ordered → List Bool → Option (List Instance) → List Expr → Bool → Task
asked s keep after extra any = record {
  model = s.model;
  order = s.order;
  goal = record { keep = keep; after = after; extra = extra; any = any };
}
