use Rattle.std.proofs.Common.{◌∙◌}
use Rattle.serde_json.specs.View.{view}
use Rattle.model_reader.proofs.ModelPass.{tables_with, model_is, stands_for, is_valid}
use Rattle.model_reader.proofs.model.problem_with.Goals as goal

pub from_parts-requires-clause-valid : goal.from_parts-requires-clause-valid
from_parts-requires-clause-valid c =
    is_valid c.faultless_is_valid.ensures (view c.args.value.now) c.requires.faultless _
    (model_is (view c.args.value.now) c.args.model c.args.rules c.requires.declared c.requires.rules)

pub from_parts-requires-clause-tables : goal.from_parts-requires-clause-tables
from_parts-requires-clause-tables c = tables_with c.args.model c.args.rules c.args.tables c.requires.tables

pub returns-clause-model : goal.returns-clause-model
returns-clause-model c =
    stands_for c.faultless_is_valid.ensures (view c.args.value.now) c.requires.faultless _
    (c.from_parts.ensures.model ∙ model_is (view c.args.value.now) c.args.model c.args.rules c.requires.declared c.requires.rules)
