-- Products that are shaped, and products that break one sentence of it each, computed.
use Rattle.std.specs.Prelude.{◌≡◌, ℕ, ℤ, pos, neg_ℤ, true, false, Bool, List, [], ◌∷◌, ◌++◌, codes, map, replicate, if◌then◌else◌, refl}
use Rattle.prod_model.specs.declared.model.Model.{Model}
use Rattle.prod_model.specs.Forest.{is_a, is_leaf}
use Rattle.prod_model.specs.Taxonomy.{attributes_of, ports_of, inverse_of, first_words}
use Rattle.config_value.specs.declared.configuration.Instance.{Instance}
use Rattle.config_value.specs.Shaped.{is_shaped, has_leaf_types, has_root, has_size, has_values, has_links, has_single_parts, has_links_back, has_counts}
use Rattle.prod_model.proofs.Forms.{range, words, part, shared, with_inverse, root_type, subtype}
use Rattle.config_value.proofs.Products.{instance}

abbrev named : List ℕ → Bool → List (List ℕ)
named name holds = if holds then [] else name ∷ []

-- The names of the broken sentences.
unfoldable pub broken : Model → List Instance → List (List ℕ)
unfolding has_leaf_types has_root has_size has_values has_links has_single_parts has_links_back has_counts is_a is_leaf attributes_of ports_of inverse_of first_words
broken m c =
    named (codes "leaf types") (has_leaf_types m c)
    ++ named (codes "root") (has_root m c)
    ++ named (codes "size") (has_size m c)
    ++ named (codes "values") (has_values m c)
    ++ named (codes "links") (has_links m c)
    ++ named (codes "single parts") (has_single_parts m c)
    ++ named (codes "links back") (has_links_back m c)
    ++ named (codes "counts") (has_counts m c)

-- the name, if only that sentence is broken
abbrev only : List ℕ → List (List ℕ)
only name = name ∷ []

-- Types 0 Item, 1 Rack, 2 Card, 3 Small, 4 Big, 5 Driver. A rack has a colour, blue or red, and a price; one or two cards as parts,
-- at most one spare item as a part, and at most two drivers that it uses. A driver may use an item.
abbrev shop : Model
shop = record {
  root = 1;
  instances = 6;
  types =
      root_type (codes "Item") (words (codes "colour") (codes "red" ∷ codes "green" ∷ codes "blue" ∷ []) ∷ []) []
      ∷ subtype (codes "Rack") 0
      (range (codes "price") (neg_ℤ (pos 2)) (pos 9) ∷ words (codes "colour") (codes "blue" ∷ codes "red" ∷ []) ∷ [])
      (part (codes "cards") 2 1 2 ∷ part (codes "spare") 0 0 1 ∷ shared (codes "drivers") 5 0 2 ∷ [])
      ∷ subtype (codes "Card") 0 [] []
      ∷ subtype (codes "Small") 2 [] []
      ∷ subtype (codes "Big") 2 (words (codes "colour") (codes "green" ∷ []) ∷ []) []
      ∷ root_type (codes "Driver") [] (shared (codes "for") 0 0 1 ∷ [])
      ∷ [];
  bounds = record { kind = 2; low = 1; high = 2 } ∷ record { kind = 5; low = 1; high = 4 } ∷ [];
  rules = [];
}

-- a rack of colour blue, which is word 2, and price 5
abbrev rack_with : List ℕ → List ℕ → List ℕ → Instance
rack_with cards spare drivers = instance 1 (pos 2 ∷ pos 5 ∷ []) (cards ∷ spare ∷ drivers ∷ [])

-- a rack of this colour and this price
abbrev rack_of : ℤ → ℤ → Instance
rack_of colour price = instance 1 (colour ∷ price ∷ []) ((1 ∷ []) ∷ [] ∷ [] ∷ [])

abbrev small : Instance
small = instance 3 (pos 0 ∷ []) []

abbrev big : Instance
big = instance 4 (pos 1 ∷ []) []

abbrev driver : List ℕ → Instance
driver links = instance 5 [] (links ∷ [])

-- each sentence of it holds
right : broken shop (rack_with (1 ∷ []) (2 ∷ []) (3 ∷ []) ∷ small ∷ big ∷ driver (2 ∷ []) ∷ []) ≡ []
unfolding broken
right = refl

-- ---- types, the root and the size

-- An instance is of a type with children, or of none.
no_leaf : map (broken shop) (
    (rack_with (1 ∷ []) [] [] ∷ instance 2 (pos 0 ∷ []) [] ∷ driver [] ∷ [])
    ∷ (rack_with (1 ∷ []) [] [] ∷ small ∷ driver [] ∷ instance 0 (pos 0 ∷ []) [] ∷ [])
    ∷ (rack_with (1 ∷ []) [] [] ∷ small ∷ driver [] ∷ instance 6 [] [] ∷ [])
    ∷ []) ≡ replicate 3 (only (codes "leaf types"))
unfolding broken
no_leaf = refl

-- An instance has a value too few or too many, and then isn't right in its values either.
other_values : map (broken shop) (
    (rack_with (1 ∷ []) [] [] ∷ instance 3 [] [] ∷ driver [] ∷ [])
    ∷ (rack_with (1 ∷ []) [] [] ∷ instance 3 (pos 0 ∷ pos 0 ∷ []) [] ∷ driver [] ∷ [])
    ∷ []) ≡ replicate 2 (codes "leaf types" ∷ codes "values" ∷ [])
unfolding broken
other_values = refl

-- An instance has a list of links too few or too many, and then isn't right in its links either.
other_ports : map (broken shop) (
    (rack_with (1 ∷ []) [] [] ∷ small ∷ instance 5 [] [] ∷ [])
    ∷ (rack_with (1 ∷ []) [] [] ∷ small ∷ instance 5 [] ([] ∷ [] ∷ []) ∷ [])
    ∷ []) ≡ replicate 2 (codes "leaf types" ∷ codes "links" ∷ codes "links back" ∷ [])
unfolding broken
other_ports = refl

-- Instance 0 is a card, and a rack comes later.
other_root : map (broken shop) ((small ∷ driver [] ∷ []) ∷ (driver [] ∷ rack_with (2 ∷ []) [] [] ∷ small ∷ []) ∷ []) ≡ replicate 2 (only (codes "root"))
unfolding broken
other_root = refl

-- A leaf under the root type will do, and the root type itself where it is a leaf.
any_item_as_root : map (broken (record shop { root = 0 })) ((small ∷ driver [] ∷ []) ∷ (rack_with (1 ∷ []) [] [] ∷ small ∷ driver [] ∷ []) ∷ []) ≡ [] ∷ [] ∷ []
unfolding broken
any_item_as_root = refl

-- Six instances are allowed, and seven aren't.
seven : map (broken shop) (
    (rack_with (1 ∷ []) [] [] ∷ small ∷ driver [] ∷ driver [] ∷ driver [] ∷ driver [] ∷ [])
    ∷ (rack_with (1 ∷ 2 ∷ []) [] [] ∷ small ∷ big ∷ driver [] ∷ driver [] ∷ driver [] ∷ driver [] ∷ [])
    ∷ []) ≡ [] ∷ only (codes "size") ∷ []
unfolding broken
seven = refl

-- Without instances there is none of the root type either.
none : broken (record shop { bounds = [] }) [] ≡ codes "root" ∷ codes "size" ∷ []
unfolding broken
none = refl

-- ---- values

-- A price is from -2 to 9, with its ends.
prices : map (λ price. broken shop (rack_of (pos 2) price ∷ small ∷ driver [] ∷ [])) (neg_ℤ (pos 2) ∷ neg_ℤ (pos 3) ∷ pos 9 ∷ pos 10 ∷ [])
    ≡ [] ∷ only (codes "values") ∷ [] ∷ only (codes "values") ∷ []
unfolding broken
prices = refl

-- A rack is red or blue, words 0 and 2 of the first declaration. It isn't green, and there is no word 3 or -1.
colours : map (λ colour. broken shop (rack_of colour (pos 5) ∷ small ∷ driver [] ∷ [])) (pos 0 ∷ pos 2 ∷ pos 1 ∷ pos 3 ∷ neg_ℤ (pos 1) ∷ [])
    ≡ [] ∷ [] ∷ only (codes "values") ∷ only (codes "values") ∷ only (codes "values") ∷ []
unfolding broken
colours = refl

-- An instance that isn't the first has to be right too: a big card is green.
colour_of_card : broken shop (rack_with (1 ∷ 2 ∷ []) [] [] ∷ small ∷ instance 4 (pos 0 ∷ []) [] ∷ driver [] ∷ []) ≡ only (codes "values")
unfolding broken
colour_of_card = refl

-- ---- links

-- Two used drivers ascend; they don't descend, and none stands twice.
ascending : map (λ drivers. broken shop (rack_with (1 ∷ []) [] drivers ∷ small ∷ driver [] ∷ driver [] ∷ [])) ((2 ∷ 3 ∷ []) ∷ (3 ∷ 2 ∷ []) ∷ (3 ∷ 3 ∷ []) ∷ [])
    ≡ [] ∷ only (codes "links") ∷ only (codes "links") ∷ []
unfolding broken
ascending = refl

-- A link leads to no instance, right past the last one or further.
to_none : map (λ drivers. broken shop (rack_with (1 ∷ []) [] drivers ∷ small ∷ driver [] ∷ [])) ((2 ∷ []) ∷ (3 ∷ []) ∷ (9 ∷ []) ∷ (2 ∷ 3 ∷ []) ∷ [])
    ≡ [] ∷ only (codes "links") ∷ only (codes "links") ∷ only (codes "links") ∷ []
unfolding broken
to_none = refl

-- A link leads outside its port's target: a driver as a card, a card as a driver, and a driver as the spare item.
outside_target : map (broken shop) (
    (rack_with (2 ∷ []) [] [] ∷ small ∷ driver [] ∷ [])
    ∷ (rack_with (1 ∷ []) [] (1 ∷ []) ∷ small ∷ driver [] ∷ [])
    ∷ (rack_with (1 ∷ []) (2 ∷ []) [] ∷ small ∷ driver [] ∷ [])
    ∷ []) ≡ replicate 3 (only (codes "links"))
unfolding broken
outside_target = refl

-- too few, and too many: no card, three drivers
too_few : broken shop (rack_with [] [] [] ∷ small ∷ driver [] ∷ []) ≡ only (codes "links")
unfolding broken
too_few = refl

too_many : broken shop (rack_with (1 ∷ []) [] (2 ∷ 3 ∷ 4 ∷ []) ∷ small ∷ driver [] ∷ driver [] ∷ driver [] ∷ []) ≡ only (codes "links")
unfolding broken
too_many = refl

-- The links of a later instance have to be right too.
links_of_driver : broken shop (rack_with (1 ∷ []) [] [] ∷ small ∷ driver (0 ∷ 1 ∷ []) ∷ []) ≡ only (codes "links")
unfolding broken
links_of_driver = refl

-- ---- parts

-- One instance is a part twice: over two ports of one instance, and over one port of two.
part_twice : map (broken shop) (
    (rack_with (1 ∷ []) (1 ∷ []) [] ∷ small ∷ driver [] ∷ [])
    ∷ (rack_with (1 ∷ []) [] [] ∷ small ∷ rack_with (1 ∷ []) [] [] ∷ driver [] ∷ [])
    ∷ []) ≡ replicate 2 (only (codes "single parts"))
unfolding broken
part_twice = refl

-- Twice over one port doesn't ascend either.
part_twice_over_one_port : broken shop (rack_with (1 ∷ 1 ∷ []) [] [] ∷ small ∷ driver [] ∷ []) ≡ codes "links" ∷ codes "single parts" ∷ []
unfolding broken
part_twice_over_one_port = refl

-- Instance 0 is a part, of itself or of another rack.
root_as_part : map (broken shop) (
    (rack_with (1 ∷ []) (0 ∷ []) [] ∷ small ∷ driver [] ∷ [])
    ∷ (rack_with (1 ∷ []) [] [] ∷ small ∷ rack_with (3 ∷ []) (0 ∷ []) [] ∷ small ∷ driver [] ∷ [])
    ∷ []) ≡ replicate 2 (only (codes "single parts"))
unfolding broken
root_as_part = refl

-- What is used may be used by many, be a part beside, and be instance 0.
used : map (broken shop) (
    (rack_with (1 ∷ []) [] (3 ∷ []) ∷ small ∷ rack_with (4 ∷ []) [] (3 ∷ []) ∷ driver [] ∷ small ∷ [])
    ∷ (rack_with (1 ∷ []) [] [] ∷ small ∷ driver (1 ∷ []) ∷ [])
    ∷ (rack_with (1 ∷ []) [] [] ∷ small ∷ driver (0 ∷ []) ∷ driver (0 ∷ []) ∷ [])
    ∷ []) ≡ replicate 3 []
unfolding broken
used = refl

-- An instance that isn't the first may be its own part, two may be parts of each other, and none has to be a part.
circles : map (broken (record shop { instances = 7; bounds = [] })) (
    (rack_with (1 ∷ []) [] [] ∷ small ∷ rack_with (3 ∷ []) (2 ∷ []) [] ∷ small ∷ [])
    ∷ (rack_with (3 ∷ []) [] [] ∷ rack_with (4 ∷ []) (2 ∷ []) [] ∷ rack_with (5 ∷ []) (1 ∷ []) [] ∷ small ∷ small ∷ small ∷ big ∷ [])
    ∷ []) ≡ [] ∷ [] ∷ []
unfolding broken
circles = refl

-- ---- links back

-- A rack holds up to two cards, and a card knows the rack that it is in: the ports are each other's inverse. So are two ports
-- of nodes, of which each links the next and the one before, and a port by which nodes link each other.
abbrev inverses : Model
inverses = record shop {
  root = 0;
  bounds = [];
  types =
      root_type (codes "Rack") [] (with_inverse (codes "home") (part (codes "cards") 1 0 2) ∷ [])
      ∷ root_type (codes "Card") [] (with_inverse (codes "cards") (shared (codes "home") 0 1 1) ∷ [])
      ∷ root_type (codes "Node") [] (with_inverse (codes "peers") (shared (codes "peers") 2 0 3) ∷ [])
      ∷ [];
}

abbrev rack_holding : List ℕ → Instance
rack_holding cards = instance 0 [] (cards ∷ [])

abbrev card_in : ℕ → Instance
card_in rack = instance 1 [] ((rack ∷ []) ∷ [])

abbrev node : List ℕ → Instance
node peers = instance 2 [] (peers ∷ [])

-- Each card links the rack that holds it; and in turn, a card's rack holds it. A card that links another rack breaks both ways.
linked_back : map (broken inverses) (
    (rack_holding (1 ∷ 2 ∷ []) ∷ card_in 0 ∷ card_in 0 ∷ [])
    ∷ (rack_holding (1 ∷ []) ∷ card_in 2 ∷ rack_holding [] ∷ [])
    ∷ (rack_holding [] ∷ card_in 0 ∷ [])
    ∷ (rack_holding (1 ∷ []) ∷ card_in 0 ∷ rack_holding (3 ∷ []) ∷ card_in 2 ∷ [])
    ∷ []) ≡ [] ∷ only (codes "links back") ∷ only (codes "links back") ∷ [] ∷ []
unfolding broken
linked_back = refl

-- Nodes that link each other by a port that is its own inverse, and perhaps themselves, and one that isn't linked back.
peers : map (broken (record inverses { root = 2 })) (
    (node (1 ∷ 2 ∷ []) ∷ node (0 ∷ []) ∷ node (0 ∷ 2 ∷ []) ∷ [])
    ∷ (node (1 ∷ 2 ∷ []) ∷ node (0 ∷ []) ∷ node (2 ∷ []) ∷ [])
    ∷ []) ≡ [] ∷ only (codes "links back") ∷ []
unfolding broken
peers = refl

-- ---- counts

-- There may be 1 or 2 cards, of whatever kind, and 1 to 4 drivers.
counts : map (broken shop) (
    (rack_with (1 ∷ 2 ∷ []) (3 ∷ []) [] ∷ small ∷ big ∷ small ∷ driver [] ∷ [])
    ∷ (rack_with (1 ∷ []) [] [] ∷ small ∷ [])
    ∷ (rack_with (1 ∷ []) [] [] ∷ small ∷ driver [] ∷ driver [] ∷ driver [] ∷ driver [] ∷ [])
    ∷ []) ≡ only (codes "counts") ∷ only (codes "counts") ∷ [] ∷ []
unfolding broken
counts = refl

-- ---- all together

-- A product is shaped where none of the sentences is broken.
shaped : map (is_shaped shop) (
    (rack_with (1 ∷ []) (2 ∷ []) (3 ∷ []) ∷ small ∷ big ∷ driver (2 ∷ []) ∷ [])
    ∷ (rack_with (1 ∷ []) [] [] ∷ instance 2 (pos 0 ∷ []) [] ∷ driver [] ∷ [])
    ∷ (small ∷ driver [] ∷ [])
    ∷ (rack_with (1 ∷ 2 ∷ []) [] [] ∷ small ∷ big ∷ driver [] ∷ driver [] ∷ driver [] ∷ driver [] ∷ [])
    ∷ (rack_of (pos 1) (pos 5) ∷ small ∷ driver [] ∷ [])
    ∷ (rack_with [] [] [] ∷ small ∷ driver [] ∷ [])
    ∷ (rack_with (1 ∷ []) (1 ∷ []) [] ∷ small ∷ driver [] ∷ [])
    ∷ (rack_with (1 ∷ []) [] [] ∷ small ∷ [])
    ∷ []) ≡ true ∷ replicate 7 false
unfolding is_shaped broken
shaped = refl
