-- Two models that are valid, and models that break one demand each, computed.
use Rattle.std.specs.Prelude.{◌≡◌, ℕ, pos, Bool, List, [], ◌∷◌, ◌++◌, codes, if◌then◌else◌, refl}
use Rattle.prod_model.specs.declared.model.Model.{Model}
use Rattle.prod_model.specs.declared.model.TypeDecl.{TypeDecl}
use Rattle.prod_model.specs.declared.model.AttrDecl.{AttrDecl}
use Rattle.prod_model.specs.declared.model.PortDecl.{PortDecl}
use Rattle.prod_model.specs.Names.{is_name, is_word}
use Rattle.prod_model.specs.Forest.{is_a, is_forest}
use Rattle.prod_model.specs.Taxonomy.{attributes_of, ports_of, inverse_of}
use Rattle.prod_model.specs.Valid.{has_short_lists, has_formed_names, has_distinct_names, has_numbers_in_limits, has_known_types, has_one_bound_each, has_known_parents_and_targets, has_narrowings, has_room, has_faultless_rules, has_right_inverses, IsValid}
use Rattle.prod_model.proofs.ExprBoundsLaws.{bounds_laws, nesting_laws}
use Rattle.prod_model.proofs.Forms.{range, words, part, shared, root_type, subtype}
use Rattle.prod_model.proofs.Models.{rack, two_ports}

-- ---- valid models

rack_is_valid : IsValid rack
unfolding is_name is_word is_a is_forest attributes_of ports_of has_short_lists has_formed_names has_distinct_names has_numbers_in_limits has_known_types has_one_bound_each has_known_parents_and_targets has_narrowings has_room has_faultless_rules has_right_inverses inverse_of
rack_is_valid = record {
  declared = record {
    formed = record { short_lists = refl; formed_names = refl; distinct_names = refl; numbers_in_limits = refl };
    known_types = refl;
    one_bound_each = refl;
    taxonomy = record { known_parents = refl; forest = refl; narrowings = refl; room = refl };
  };
  faultless_rules = simp (bounds_laws, nesting_laws);
  right_inverses = refl;
}

two_ports_is_valid : IsValid two_ports
unfolding is_name is_word is_a is_forest attributes_of ports_of has_short_lists has_formed_names has_distinct_names has_numbers_in_limits has_known_types has_one_bound_each has_known_parents_and_targets has_narrowings has_room has_faultless_rules has_right_inverses inverse_of
two_ports_is_valid = record {
  declared = record {
    formed = record { short_lists = refl; formed_names = refl; distinct_names = refl; numbers_in_limits = refl };
    known_types = refl;
    one_bound_each = refl;
    taxonomy = record { known_parents = refl; forest = refl; narrowings = refl; room = refl };
  };
  faultless_rules = refl;
  right_inverses = refl;
}

-- ---- the demands that a model breaks

abbrev named : List ℕ → Bool → List (List ℕ)
named name holds = if holds then [] else name ∷ []

-- The names of the broken demands.
unfoldable pub broken : Model → List (List ℕ)
unfolding is_name is_word is_a is_forest attributes_of ports_of has_short_lists has_formed_names has_distinct_names has_numbers_in_limits has_known_types has_one_bound_each has_known_parents_and_targets has_narrowings has_room has_faultless_rules has_right_inverses inverse_of
broken m =
    named (codes "short lists") (has_short_lists m)
    ++ named (codes "formed names") (has_formed_names m)
    ++ named (codes "distinct names") (has_distinct_names m)
    ++ named (codes "numbers in limits") (has_numbers_in_limits m)
    ++ named (codes "known types") (has_known_types m)
    ++ named (codes "one bound each") (has_one_bound_each m)
    ++ named (codes "known parents") (has_known_parents_and_targets m)
    ++ named (codes "forest") (is_forest m)
    ++ named (codes "narrowings") (has_narrowings m)
    ++ named (codes "room") (has_room m)
    ++ named (codes "faultless rules") (has_faultless_rules m)
    ++ named (codes "right inverses") (has_right_inverses m)

-- a model of these types, with nothing else
abbrev pub of_types : List TypeDecl → Model
of_types types = record { root = 0; instances = 3; types = types; bounds = []; rules = [] }

-- Box with a width, a colour and two ports, and Card
abbrev pub box : TypeDecl
box = root_type (codes "Box")
    (range (codes "width") (pos 2) (pos 9) ∷ words (codes "colour") (codes "red" ∷ codes "blue" ∷ []) ∷ [])
    (part (codes "slot") 1 1 3 ∷ shared (codes "cable") 1 0 2 ∷ [])

abbrev pub card : TypeDecl
card = root_type (codes "Card") [] []

-- Small, under Card
abbrev pub small : TypeDecl
small = subtype (codes "Small") 1 [] []

-- box, Card, Small, and Blue under Box with these declarations
abbrev pub narrowed : List AttrDecl → List PortDecl → Model
narrowed attributes ports = of_types (box ∷ card ∷ small ∷ subtype (codes "Blue") 0 attributes ports ∷ [])

abbrev pub base : Model
base = narrowed [] []

base_is_right : broken base ≡ []
unfolding broken
base_is_right = refl
