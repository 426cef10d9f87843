-- What the types of a small model have, and which are under which, computed.
use Rattle.std.specs.Prelude.{◌≡◌, pos, negsuc, [], ◌∷◌, codes, map, Some, None, refl}
use Rattle.prod_model.specs.declared.model.Model.{Model}
use Rattle.prod_model.specs.declared.model.PortKind.TheVariants.{Part, Shared}
use Rattle.prod_model.specs.declared.model.Domain.TheVariants.{Range, Words}
use Rattle.prod_model.specs.Taxonomy.{attributes_of, ports_of, attributes_at, ports_at, tables_of, first_words, attribute_of, port_of, inverse_of}
use Rattle.prod_model.proofs.Forms.{range, words, part, shared, root_type, subtype}

-- Blue (0) comes before its parent Box (1), narrows its words in another order, and has a port of its own before a narrowed
-- one. Navy (3) is under Blue, Green (5) beside it, and Chip (4) under Card (2), in a tree of its own.
abbrev boxes : Model
boxes = record {
  root = 1;
  instances = 3;
  types =
      subtype (codes "Blue") 1
      (words (codes "size") (codes "xl" ∷ codes "m" ∷ []) ∷ words (codes "colour") (codes "blue" ∷ codes "red" ∷ []) ∷ [])
      (part (codes "own") 2 0 1 ∷ part (codes "slot") 2 1 1 ∷ [])
      ∷ root_type (codes "Box")
      (words (codes "colour") (codes "red" ∷ codes "green" ∷ codes "blue" ∷ []) ∷ range (codes "width") (pos 0) (pos 9) ∷ [])
      (part (codes "slot") 2 0 2 ∷ [])
      ∷ root_type (codes "Card") (range (codes "power") (negsuc 4) (pos 5) ∷ []) []
      ∷ subtype (codes "Navy") 0
      (range (codes "width") (pos 3) (pos 4) ∷ words (codes "colour") (codes "blue" ∷ []) ∷ [])
      (shared (codes "cable") 2 0 3 ∷ part (codes "own") 4 1 1 ∷ [])
      ∷ subtype (codes "Chip") 2 (range (codes "power") (negsuc 0) (pos 1) ∷ []) []
      ∷ subtype (codes "Green") 1 (words (codes "colour") (codes "green" ∷ []) ∷ []) []
      ∷ [];
  bounds = [];
  rules = [];
}

-- ---- attributes and ports

-- Inherited attributes come first, in the parent's order, and ids are counted in file order.
child_attributes : attributes_at boxes 0 ≡
    record { id = 1; domain = Words (codes "blue" ∷ codes "red" ∷ []) }
    ∷ record { id = 2; domain = Range (pos 0) (pos 9) }
    ∷ record { id = 0; domain = Words (codes "xl" ∷ codes "m" ∷ []) } ∷ []
unfolding attributes_of
child_attributes = refl

parent_attributes : attributes_at boxes 1 ≡
    record { id = 1; domain = Words (codes "red" ∷ codes "green" ∷ codes "blue" ∷ []) }
    ∷ record { id = 2; domain = Range (pos 0) (pos 9) } ∷ []
unfolding attributes_of
parent_attributes = refl

-- Over three levels each narrowing keeps the place and the id, and what isn't narrowed stays as the parent has it.
grandchild_attributes : attributes_at boxes 3 ≡
    record { id = 1; domain = Words (codes "blue" ∷ []) }
    ∷ record { id = 2; domain = Range (pos 3) (pos 4) }
    ∷ record { id = 0; domain = Words (codes "xl" ∷ codes "m" ∷ []) } ∷ []
unfolding attributes_of
grandchild_attributes = refl

-- A sibling inherits nothing of its sibling.
sibling_attributes : attributes_at boxes 5 ≡
    record { id = 1; domain = Words (codes "green" ∷ []) } ∷ record { id = 2; domain = Range (pos 0) (pos 9) } ∷ []
unfolding attributes_of
sibling_attributes = refl

-- Another tree inherits nothing of the first one.
other_tree_attributes : map (attributes_at boxes) (2 ∷ 4 ∷ []) ≡
    (record { id = 3; domain = Range (negsuc 4) (pos 5) } ∷ []) ∷ (record { id = 3; domain = Range (negsuc 0) (pos 1) } ∷ []) ∷ []
unfolding attributes_of
other_tree_attributes = refl

-- Under each attribute's place stands its name.
grandchild_names : map (λ a. a.name) (attributes_of boxes.types 3) ≡ codes "colour" ∷ codes "width" ∷ codes "size" ∷ []
unfolding attributes_of
grandchild_names = refl

-- The inherited port comes first, narrowed, though the type's own one is declared before it.
child_ports : ports_at boxes 0 ≡
    record { id = 1; kind = Part; target = 2; low = 1; high = 1; inverse = None } ∷ record { id = 0; kind = Part; target = 2; low = 0; high = 1; inverse = None } ∷ []
unfolding ports_of inverse_of
child_ports = refl

parent_ports : ports_at boxes 1 ≡ record { id = 1; kind = Part; target = 2; low = 0; high = 2; inverse = None } ∷ []
unfolding ports_of inverse_of
parent_ports = refl

-- A port is narrowed in its target and its pair, and a new one follows.
grandchild_ports : ports_at boxes 3 ≡
    record { id = 1; kind = Part; target = 2; low = 1; high = 1; inverse = None }
    ∷ record { id = 0; kind = Part; target = 4; low = 1; high = 1; inverse = None }
    ∷ record { id = 2; kind = Shared; target = 2; low = 0; high = 3; inverse = None } ∷ []
unfolding ports_of inverse_of
grandchild_ports = refl

grandchild_port_names : map (λ p. p.name) (ports_of boxes.types 3) ≡ codes "slot" ∷ codes "own" ∷ codes "cable" ∷ []
unfolding ports_of inverse_of
grandchild_port_names = refl

-- The tables have a row for each type, in file order.
table_ids : map (map (λ a. a.id)) (tables_of boxes).attributes ≡
    (1 ∷ 2 ∷ 0 ∷ []) ∷ (1 ∷ 2 ∷ []) ∷ (3 ∷ []) ∷ (1 ∷ 2 ∷ 0 ∷ []) ∷ (3 ∷ []) ∷ (1 ∷ 2 ∷ []) ∷ []
unfolding tables_of attributes_of
table_ids = refl

table_port_ids : map (map (λ p. p.id)) (tables_of boxes).ports ≡ (1 ∷ 0 ∷ []) ∷ (1 ∷ []) ∷ [] ∷ (1 ∷ 0 ∷ 2 ∷ []) ∷ [] ∷ (1 ∷ []) ∷ []
unfolding tables_of ports_of
table_port_ids = refl

-- What is no type has nothing.
no_type_has_nothing : attributes_at boxes 6 ≡ []
unfolding attributes_of
no_type_has_nothing = refl

no_type_has_no_ports : ports_at boxes 6 ≡ []
unfolding ports_of inverse_of
no_type_has_no_ports = refl

-- ---- by id

-- The words of an attribute are those of its first declaration, in the order written there.
words_of_colour : first_words boxes 1 ≡ codes "red" ∷ codes "green" ∷ codes "blue" ∷ []
unfolding first_words
words_of_colour = refl

words_of_size : first_words boxes 0 ≡ codes "xl" ∷ codes "m" ∷ []
unfolding first_words
words_of_size = refl

-- A range has no words, and neither has an id past the last one.
no_words : map (first_words boxes) (2 ∷ 3 ∷ 4 ∷ []) ≡ [] ∷ [] ∷ [] ∷ []
unfolding first_words
no_words = refl

-- A type has an attribute under its id as it is narrowed there.
width_of_navy : attribute_of boxes 3 2 ≡ Some (record { id = 2; domain = Range (pos 3) (pos 4) })
unfolding attributes_of
width_of_navy = refl

-- Box has no size, which is new in Blue.
size_of_box : attribute_of boxes 1 0 ≡ None
unfolding attributes_of
size_of_box = refl

own_of_navy : port_of boxes 3 0 ≡ Some (record { id = 0; kind = Part; target = 4; low = 1; high = 1; inverse = None })
unfolding ports_of inverse_of
own_of_navy = refl

own_of_box : port_of boxes 1 0 ≡ None
unfolding ports_of inverse_of
own_of_box = refl

-- ---- one name in several types

-- Two siblings and a type of another tree declare the same name. Each declaration is new, with an id of its own.
abbrev alike : Model
alike = record {
  root = 0;
  instances = 1;
  types =
      root_type (codes "Card") [] []
      ∷ subtype (codes "Small") 0 (range (codes "size") (pos 0) (pos 1) ∷ []) (part (codes "chip") 0 0 1 ∷ [])
      ∷ subtype (codes "Big") 0 (words (codes "size") (codes "xl" ∷ []) ∷ []) (part (codes "chip") 0 0 2 ∷ [])
      ∷ root_type (codes "Box") (range (codes "depth") (pos 0) (pos 1) ∷ range (codes "size") (pos 0) (pos 2) ∷ []) []
      ∷ [];
  bounds = [];
  rules = [];
}

ids_of_one_name : map (map (λ a. a.id)) (tables_of alike).attributes ≡ [] ∷ (0 ∷ []) ∷ (1 ∷ []) ∷ (2 ∷ 3 ∷ []) ∷ []
unfolding tables_of attributes_of
ids_of_one_name = refl

port_ids_of_one_name : map (map (λ p. p.id)) (tables_of alike).ports ≡ [] ∷ (0 ∷ []) ∷ (1 ∷ []) ∷ [] ∷ []
unfolding tables_of ports_of
port_ids_of_one_name = refl

-- The words are those of the id, not of the name.
words_of_one_name : map (first_words alike) (0 ∷ 1 ∷ 3 ∷ []) ≡ [] ∷ (codes "xl" ∷ []) ∷ [] ∷ []
unfolding first_words
words_of_one_name = refl
