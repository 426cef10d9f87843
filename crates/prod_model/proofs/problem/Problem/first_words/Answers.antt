use Rattle.prod_model.proofs.Inverses.{own_tables}
use Rattle.prod_model.proofs.problem.Problem.first_words.Goals as goal

pub first_words-requires-clause-tables : goal.first_words-requires-clause-tables
first_words-requires-clause-tables c = own_tables c.self.inside.model c.self.inside.tables c.self.invariant.right_tables
