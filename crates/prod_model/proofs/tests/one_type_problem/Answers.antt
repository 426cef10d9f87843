use Rattle.std.proofs.Common.{◌≡◌, refl, codes, List, [], ◌∷◌}
use Rattle.std.specs.Prelude.{None}
use Rattle.prod_model.specs.declared.model.Model.{Model}
use Rattle.prod_model.specs.declared.model.TypeDecl.{TypeDecl}
use Rattle.prod_model.specs.declared.model.CountBound.{CountBound}
use Rattle.prod_model.specs.declared.model.Rule.{Rule}
use Rattle.prod_model.specs.declared.model.AttrAt.{AttrAt}
use Rattle.prod_model.specs.declared.model.PortAt.{PortAt}
use Rattle.prod_model.specs.Names.{is_name, is_word}
use Rattle.prod_model.specs.Forest.{is_forest}
use Rattle.prod_model.specs.Taxonomy.{tables_of, attributes_of, ports_of, inverse_of}
use Rattle.prod_model.specs.Valid.{IsValid, has_short_lists, has_formed_names, has_distinct_names, has_numbers_in_limits, has_known_parents_and_targets, has_known_types, has_narrowings, has_room, has_one_bound_each, has_faultless_rules, has_right_inverses}
use Rattle.prod_model.proofs.tests.one_type_problem.Goals as goal

computing : Unit {0}
unfolding is_forest attributes_of ports_of tables_of is_name is_word has_short_lists has_formed_names has_distinct_names has_numbers_in_limits has_known_parents_and_targets has_known_types has_narrowings has_room has_one_bound_each has_faultless_rules has_right_inverses inverse_of
computing = tt

abbrev one_type : List TypeDecl
one_type = record { name = codes "Type"; parent = None; attributes = []; ports = [] } ∷ []

abbrev model_of : List TypeDecl → List CountBound → List Rule → Model
model_of types bounds rules = record { root = 0; instances = 1; types = types; bounds = bounds; rules = rules }

is_valid : IsValid (model_of one_type [] [])
unfolding computing
is_valid = record {
  declared = record {
    formed = record { short_lists = refl; formed_names = refl; distinct_names = refl; numbers_in_limits = refl };
    known_types = refl;
    one_bound_each = refl;
    taxonomy = record { known_parents = refl; forest = refl; narrowings = refl; room = refl };
  };
  faultless_rules = refl;
  right_inverses = refl;
}

valid_at : (types : List TypeDecl) (bounds : List CountBound) (rules : List Rule) → types ≡ one_type → bounds ≡ [] → rules ≡ [] → IsValid (model_of types bounds rules)
valid_at types bounds rules a b c = rw (a, b, c) is_valid

tables_at : (types : List TypeDecl) (bounds : List CountBound) (rules : List Rule) (attributes : List (List AttrAt)) (ports : List (List PortAt))
    → types ≡ one_type → attributes ≡ [] ∷ [] → ports ≡ [] ∷ [] → record { attributes = attributes; ports = ports } ≡ tables_of (model_of types bounds rules)
unfolding computing
tables_at types bounds rules attributes ports a b c = rw (a, b, c) refl

pub from_parts-requires-clause-valid : goal.from_parts-requires-clause-valid
from_parts-requires-clause-valid c = valid_at _ _ _ c.in_ok-types.ensures c.new.ensures c.new-2.ensures

pub from_parts-requires-clause-tables : goal.from_parts-requires-clause-tables
from_parts-requires-clause-tables c = tables_at _ _ _ _ _ c.in_ok-types.ensures c.in_ok-attributes.ensures c.in_ok-ports.ensures
