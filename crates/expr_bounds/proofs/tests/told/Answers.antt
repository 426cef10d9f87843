use Rattle.std.proofs.Common.{sym, subst}
use Rattle.prod_model.specs.declared.model.Model.{Model}
use Rattle.prod_model.specs.Valid.{IsDeclared}
use Rattle.expr_bounds.proofs.SampleLaws.{sample_is_declared, are_sample_tables}
use Rattle.expr_bounds.proofs.tests.told.Goals as goal

pub bounds_of-outcome-requires-clause-declared : goal.bounds_of-outcome-requires-clause-declared
bounds_of-outcome-requires-clause-declared c =
    let Declared : Model → Type 0 = λ m. IsDeclared m in subst Declared (sym c.in_ok-sample.sample.same) sample_is_declared

pub bounds_of-outcome-requires-clause-tables : goal.bounds_of-outcome-requires-clause-tables
bounds_of-outcome-requires-clause-tables c =
    are_sample_tables c.in_ok-sample.sample.model c.in_ok-sample.sample.tables c.in_ok-sample.sample.same c.in_ok-sample.sample.own_tables
