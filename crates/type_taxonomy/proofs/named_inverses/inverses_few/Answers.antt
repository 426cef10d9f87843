use Rattle.type_taxonomy.proofs.LinkedPorts.{declared_ports, tables_linked}
use Rattle.type_taxonomy.proofs.named_inverses.inverses_few.Goals as goal

pub link_all-requires-clause-declared : goal.link_all-requires-clause-declared
link_all-requires-clause-declared c = declared_ports c.args.model.now c.args.tables.now c.requires.tables

pub returns-clause-tables : goal.returns-clause-tables
returns-clause-tables c = tables_linked c.args.model.now c.args.tables.now c.link_all.new.rows c.requires.tables c.link_all.ensures
