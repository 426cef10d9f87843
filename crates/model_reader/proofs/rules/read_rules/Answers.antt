use Rattle.std.proofs.Common.{sym, subst}
use Rattle.serde_json.specs.View.{view}
use Rattle.prod_model.specs.Valid.{IsDeclared}
use Rattle.prod_model.proofs.Inverses.{own_declared_tables}
use Rattle.model_reader.proofs.rules.read_rules.Goals as goal

pub of-requires-clause-declared : goal.of-requires-clause-declared
of-requires-clause-declared c =
    subst IsDeclared (sym c.requires.declared) (c.faultless_is_declared.ensures (view c.args.value.now) c.requires.faultless)

pub of-requires-clause-tables : goal.of-requires-clause-tables
of-requires-clause-tables c = own_declared_tables c.args.model.now c.args.tables.now c.requires.tables
