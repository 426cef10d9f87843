-- The small model is declared rightly, and its tables are its own.
use Rattle.std.proofs.Common.{◌≡◌, refl}
use Rattle.prod_model.specs.declared.model.Model.{Model}
use Rattle.prod_model.specs.declared.model.Tables.{Tables}
use Rattle.prod_model.specs.Names.{is_name, is_word}
use Rattle.prod_model.specs.Forest.{is_a, is_forest}
use Rattle.prod_model.specs.Taxonomy.{AreTablesOf, attributes_of, ports_of, declared_tables_of}
use Rattle.prod_model.specs.Valid.{has_short_lists, has_formed_names, has_distinct_names, has_numbers_in_limits, has_known_types, has_one_bound_each, has_known_parents_and_targets, has_narrowings, has_room, IsDeclared}
use Rattle.expr_bounds.specs.steps.Sample.{sample, sample_tables}

pub sample_is_declared : IsDeclared sample
unfolding is_name is_word is_a is_forest attributes_of ports_of has_short_lists has_formed_names has_distinct_names has_numbers_in_limits has_known_types has_one_bound_each has_known_parents_and_targets has_narrowings has_room
sample_is_declared = record {
  formed = record { short_lists = refl; formed_names = refl; distinct_names = refl; numbers_in_limits = refl };
  known_types = refl;
  one_bound_each = refl;
  taxonomy = record { known_parents = refl; forest = refl; narrowings = refl; room = refl };
}

sample_has_tables : AreTablesOf sample sample_tables
unfolding declared_tables_of attributes_of ports_of
sample_has_tables = record { attributes = refl; ports = refl }

pub are_sample_tables : (m : Model) (tables : Tables) → m ≡ sample → tables ≡ sample_tables → AreTablesOf m tables
are_sample_tables m tables same_model same_tables = rw (same_model, same_tables) sample_has_tables
