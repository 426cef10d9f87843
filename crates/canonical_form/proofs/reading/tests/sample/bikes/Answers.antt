use Rattle.std.proofs.Common.{◌≡◌, refl, sym, subst, ap, ◌∙◌, length, List, [], ◌∷◌}
use Rattle.prod_model.specs.declared.model.Model.{Model}
use Rattle.prod_model.specs.declared.model.Tables.{Tables}
use Rattle.prod_model.specs.declared.model.TypeDecl.{TypeDecl}
use Rattle.prod_model.specs.Names.{is_name, is_word}
use Rattle.prod_model.specs.Forest.{is_forest}
use Rattle.prod_model.specs.Taxonomy.{tables_of, attributes_of, ports_of, inverse_of}
use Rattle.prod_model.specs.Valid.{IsValid, has_short_lists, has_formed_names, has_distinct_names, has_numbers_in_limits, has_known_parents_and_targets, has_known_types, has_narrowings, has_room, has_one_bound_each, has_faultless_rules, has_right_inverses}
use Rattle.canonical_form.specs.steps.Bikes.{kinds, model_with, bike_attributes, bike_port}
use Rattle.canonical_form.proofs.reading.tests.sample.bikes.Goals as goal

computing : Unit {0}
unfolding is_forest attributes_of ports_of tables_of is_name is_word has_short_lists has_formed_names has_distinct_names has_numbers_in_limits has_known_parents_and_targets has_known_types has_narrowings has_room has_one_bound_each has_faultless_rules has_right_inverses inverse_of
computing = tt

is_valid : IsValid (model_with kinds)
unfolding computing
is_valid = record {
  declared = record {
    formed = record { short_lists = refl; formed_names = refl; distinct_names = refl; numbers_in_limits = refl };
    known_types = refl;
    one_bound_each = refl;
    taxonomy = record { known_parents = refl; forest = refl; narrowings = refl; room = refl };
  };
  faultless_rules = refl;
  right_inverses = refl;
}

-- the tables of the model
abbrev own_tables : Tables
own_tables = record { attributes = [] ∷ bike_attributes ∷ [] ∷ []; ports = [] ∷ (bike_port ∷ []) ∷ [] ∷ [] }

has_tables : own_tables ≡ tables_of (model_with kinds)
unfolding computing
has_tables = refl

-- a model that was made of the types
made : (m : Model) (types : List TypeDecl) → m ≡ model_with types → types ≡ kinds → m ≡ model_with kinds
made m types is same = is ∙ ap model_with same

pub from_parts-requires-clause-valid : goal.from_parts-requires-clause-valid
from_parts-requires-clause-valid c = subst IsValid (sym (made _ _ c.model_of.ensures c.in_ok-types.ensures)) is_valid

pub from_parts-requires-clause-tables : goal.from_parts-requires-clause-tables
from_parts-requires-clause-tables c = c.in_ok-tables.ensures ∙ has_tables ∙ ap tables_of (sym (made _ _ c.model_of.ensures c.in_ok-types.ensures))
