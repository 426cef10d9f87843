-- The definitions on a small model, with what they say worked out by hand.
use Rattle.std.proofs.Common.{◌≡◌, ℕ, ◌==◌, refl, List, [], ◌∷◌, map, true, false, pos, neg_ℤ}
use Rattle.std.specs.Prelude.{Some, None, codes}
use Rattle.std.specs.List.{list_any}
use Rattle.prod_model.specs.declared.model.Model.{Model}
use Rattle.prod_model.specs.declared.model.TypeDecl.{TypeDecl}
use Rattle.prod_model.specs.declared.model.Domain.{Domain}
use Rattle.prod_model.specs.declared.model.Domain.TheVariants.{Range, Words}
use Rattle.prod_model.specs.declared.model.PortKind.TheVariants.{Part, Shared}
use Rattle.prod_model.specs.Names.{is_name, is_word}
use Rattle.prod_model.specs.Forest.{type_numbers, line, ancestors, is_a, is_leaf, is_forest}
use Rattle.prod_model.specs.Taxonomy.{tables_of, attributes_of, ports_of, attributes_at, ports_at, first_words, inverse_of}
use Rattle.prod_model.specs.Valid.{IsValid, has_short_lists, has_formed_names, has_distinct_names, has_numbers_in_limits, has_known_parents_and_targets, has_known_types, has_narrowings, has_room, has_one_bound_each, has_faultless_rules, has_right_inverses}

-- Two trees: Item over Card over Big and Small, and Driver. Big stands before its parent Card, and Card before Item.
-- Card narrows the words of Item in another order, and Big has a port of its own before one that it narrows.
abbrev big : TypeDecl
big = record {
  name = codes "Big";
  parent = Some 1;
  attributes = record { name = codes "power"; domain = Range (pos 5) (pos 9) } ∷ [];
  ports = record { name = codes "fan"; kind = Part; target = 0; low = 0; high = 1; inverse = None } ∷ record { name = codes "driver"; kind = Shared; target = 4; low = 1; high = 1; inverse = None } ∷ [];
}

abbrev card : TypeDecl
card = record {
  name = codes "Card";
  parent = Some 2;
  attributes = record { name = codes "power"; domain = Range (neg_ℤ (pos 3)) (pos 9) } ∷ record { name = codes "colour"; domain = Words (codes "blue" ∷ codes "red" ∷ []) } ∷ [];
  ports = record { name = codes "driver"; kind = Shared; target = 4; low = 0; high = 2; inverse = None } ∷ [];
}

abbrev item : TypeDecl
item = record {
  name = codes "Item";
  parent = None;
  attributes = record { name = codes "colour"; domain = Words (codes "red" ∷ codes "green" ∷ codes "blue" ∷ []) } ∷ [];
  ports = [];
}

abbrev small : TypeDecl
small = record { name = codes "Small"; parent = Some 1; attributes = []; ports = [] }

abbrev driver : TypeDecl
driver = record { name = codes "Driver"; parent = None; attributes = []; ports = [] }

abbrev types : List TypeDecl
types = big ∷ card ∷ item ∷ small ∷ driver ∷ []

abbrev sample : Model
sample = record { root = 2; instances = 5; types = types; bounds = []; rules = [] }

-- everything on this page computes
computing : Unit {0}
unfolding is_a is_leaf is_forest attributes_of ports_of tables_of first_words is_name is_word
    has_short_lists has_formed_names has_distinct_names has_numbers_in_limits has_known_parents_and_targets has_known_types has_narrowings has_room has_one_bound_each has_faultless_rules has_right_inverses inverse_of
computing = tt

line_of_Big : line types 0 ≡ 0 ∷ 1 ∷ 2 ∷ []
unfolding computing
line_of_Big = refl

Big_is_a : map (is_a sample 0) (type_numbers types) ≡ true ∷ true ∷ true ∷ false ∷ false ∷ []
unfolding computing
Big_is_a = refl

are_under_Card : map (λ t. is_a sample t 1) (type_numbers types) ≡ true ∷ true ∷ false ∷ true ∷ false ∷ []
unfolding computing
are_under_Card = refl

are_leaves : map (is_leaf sample) (type_numbers types) ≡ true ∷ false ∷ false ∷ true ∷ true ∷ []
unfolding computing
are_leaves = refl

-- power is new in Card, and colour in Item, which stands later
attributes_of_Big : attributes_at sample 0
    ≡ record { id = 1; domain = Words (codes "blue" ∷ codes "red" ∷ []) } ∷ record { id = 0; domain = Range (pos 5) (pos 9) } ∷ []
unfolding computing
attributes_of_Big = refl

-- fan is new in Big, and driver in Card, which stands later
ports_of_Big : ports_at sample 0
    ≡ record { id = 1; kind = Shared; target = 4; low = 1; high = 1; inverse = None } ∷ record { id = 0; kind = Part; target = 0; low = 0; high = 1; inverse = None } ∷ []
unfolding computing
ports_of_Big = refl

words_of_colour : first_words sample 1 ≡ codes "red" ∷ codes "green" ∷ codes "blue" ∷ []
unfolding computing
words_of_colour = refl

sample_is_valid : IsValid sample
unfolding computing
sample_is_valid = record {
  declared = record {
    formed = record { short_lists = refl; formed_names = refl; distinct_names = refl; numbers_in_limits = refl };
    known_types = refl;
    one_bound_each = refl;
    taxonomy = record { known_parents = refl; forest = refl; narrowings = refl; room = refl };
  };
  faultless_rules = refl;
  right_inverses = refl;
}

-- ---- what isn't valid

abbrev bare : List ℕ → ℕ → TypeDecl
bare name parent = record { name = name; parent = Some parent; attributes = []; ports = [] }

-- 0 and 1 are in a circle, and 2 leads to it without being on it
abbrev circle : List TypeDecl
circle = bare (codes "A") 1 ∷ bare (codes "B") 0 ∷ bare (codes "C") 0 ∷ []

circle_has_ancestors : map (λ t. list_any (λ u. u == t) (ancestors circle t)) (0 ∷ 1 ∷ 2 ∷ []) ≡ true ∷ true ∷ false ∷ []
circle_has_ancestors = refl

circle_is_no_forest : is_forest (record { root = 0; instances = 1; types = circle; bounds = []; rules = [] }) ≡ false
unfolding computing
circle_is_no_forest = refl

abbrev with_child : TypeDecl → Model
with_child d = record { root = 0; instances = 1; types = item ∷ d ∷ []; bounds = []; rules = [] }

-- Item has the colours red, green and blue: no child may have white, another form of values, or a port of that name
abbrev colour_of : Domain → TypeDecl
colour_of domain = record { name = codes "Child"; parent = Some 0; attributes = record { name = codes "colour"; domain = domain } ∷ []; ports = [] }

narrowings_of_colour : map (λ d. has_narrowings (with_child (colour_of d))) (Words (codes "red" ∷ []) ∷ Words (codes "red" ∷ codes "white" ∷ []) ∷ Range (pos 0) (pos 0) ∷ [])
    ≡ true ∷ false ∷ false ∷ []
unfolding computing
narrowings_of_colour = refl

port_of_that_name : has_narrowings (with_child (record { name = codes "Child"; parent = Some 0; attributes = []; ports = record { name = codes "colour"; kind = Part; target = 0; low = 0; high = 1; inverse = None } ∷ [] })) ≡ false
unfolding computing
port_of_that_name = refl
