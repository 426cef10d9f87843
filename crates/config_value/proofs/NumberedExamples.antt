-- Products that are numbered in the order of first mention, and products that aren't, computed.
use Rattle.std.specs.Prelude.{◌≡◌, ℕ, true, false, List, [], ◌∷◌, codes, map, replicate, Some, None, refl}
use Rattle.prod_model.proofs.Models.{two_ports}
use Rattle.config_value.specs.declared.configuration.Instance.{Instance}
use Rattle.config_value.specs.Numbered.{all_links, mention, mentioned_by, is_mentioned_lower, is_mentioned_before, is_numbered}
use Rattle.config_value.proofs.Products.{instance, two_ports_of, card}
use Rattle.config_value.proofs.ShapedExamples.{broken}

-- an instance with one port
abbrev node : List ℕ → Instance
node links = instance 0 [] (links ∷ [])

abbrev in_turn : List Instance
in_turn = two_ports_of (1 ∷ []) (2 ∷ []) ∷ card ∷ card ∷ []

abbrev crossed : List Instance
crossed = two_ports_of (2 ∷ []) (1 ∷ []) ∷ card ∷ card ∷ []

-- ---- links and mentions

-- Links are gone through by instances, then by ports, then in their order.
links_in_order : all_links (two_ports_of (1 ∷ 3 ∷ []) (2 ∷ []) ∷ node (4 ∷ 1 ∷ []) ∷ card ∷ node (0 ∷ []) ∷ []) ≡
    record { from = 0; to = 1 } ∷ record { from = 0; to = 3 } ∷ record { from = 0; to = 2 }
    ∷ record { from = 1; to = 4 } ∷ record { from = 1; to = 1 } ∷ record { from = 3; to = 0 } ∷ []
links_in_order = refl

-- The first mention is the earliest of several, and there is none without a link.
mentions : map (mention (node (2 ∷ []) ∷ node (1 ∷ 2 ∷ []) ∷ node (1 ∷ []) ∷ node [] ∷ [])) (0 ∷ 1 ∷ 2 ∷ 3 ∷ []) ≡ None ∷ Some 1 ∷ Some 0 ∷ None ∷ []
mentions = refl

mentioning : map (mentioned_by (node (2 ∷ []) ∷ node (1 ∷ 2 ∷ []) ∷ node (1 ∷ []) ∷ node [] ∷ [])) (0 ∷ 1 ∷ 2 ∷ 3 ∷ []) ≡ None ∷ Some 1 ∷ Some 0 ∷ None ∷ []
mentioning = refl

-- ---- a rack with two ports

-- One card on the left, or none at all.
one_or_none : map is_numbered ((two_ports_of (1 ∷ []) [] ∷ card ∷ []) ∷ (two_ports_of [] [] ∷ []) ∷ []) ≡ true ∷ true ∷ []
unfolding is_numbered
one_or_none = refl

-- The left port comes before the right one.
numbered_in_turn : map is_numbered (in_turn ∷ (two_ports_of (1 ∷ 2 ∷ []) [] ∷ card ∷ card ∷ []) ∷ (two_ports_of [] (1 ∷ 2 ∷ []) ∷ card ∷ card ∷ []) ∷ []) ≡ true ∷ true ∷ true ∷ []
unfolding is_numbered
numbered_in_turn = refl

-- Card 2 on the left and card 1 on the right are shaped, and not numbered.
crossed_is_shaped : broken two_ports crossed ≡ []
unfolding broken
crossed_is_shaped = refl

crossed_is_not_numbered : is_numbered crossed ≡ false
unfolding is_numbered
crossed_is_not_numbered = refl

-- Card 2 is first mentioned by a lower instance, and so is card 1; but card 1 isn't mentioned before card 2.
crossed_parts : map (is_mentioned_lower crossed) (1 ∷ 2 ∷ []) ≡ true ∷ true ∷ []
crossed_parts = refl

crossed_order : is_mentioned_before crossed 1 2 ≡ false
crossed_order = refl

-- A card that is held twice is numbered, and a part twice.
held_twice : is_numbered (two_ports_of (1 ∷ 2 ∷ []) (2 ∷ []) ∷ card ∷ card ∷ []) ≡ true
unfolding is_numbered
held_twice = refl

held_twice_is_a_part_twice : broken two_ports (two_ports_of (1 ∷ 2 ∷ []) (2 ∷ []) ∷ card ∷ card ∷ []) ≡ codes "single parts" ∷ []
unfolding broken
held_twice_is_a_part_twice = refl

-- A card that no one mentions is shaped, and not numbered: alone, after others and before others.
loose_card_is_shaped : broken two_ports (two_ports_of [] [] ∷ card ∷ []) ≡ []
unfolding broken
loose_card_is_shaped = refl

never_mentioned : map is_numbered ((two_ports_of [] [] ∷ card ∷ []) ∷ (two_ports_of (1 ∷ []) [] ∷ card ∷ card ∷ []) ∷ (two_ports_of (2 ∷ []) [] ∷ card ∷ card ∷ []) ∷ []) ≡ replicate 3 false
unfolding is_numbered
never_mentioned = refl

-- Links that descend mention their instances out of turn.
descending : is_numbered (two_ports_of (2 ∷ 1 ∷ []) [] ∷ card ∷ card ∷ []) ≡ false
unfolding is_numbered
descending = refl

-- ---- nodes that link each other

-- An instance is first mentioned by a higher one, though it is mentioned.
first_by_higher : map is_numbered ((node (2 ∷ []) ∷ node [] ∷ node (1 ∷ []) ∷ []) ∷ (node [] ∷ node (2 ∷ []) ∷ node (1 ∷ []) ∷ []) ∷ []) ≡ false ∷ false ∷ []
unfolding is_numbered
first_by_higher = refl

-- A higher one may mention it later.
later_by_higher : is_numbered (node (1 ∷ []) ∷ node (2 ∷ []) ∷ node (0 ∷ 1 ∷ 2 ∷ []) ∷ []) ≡ true
unfolding is_numbered
later_by_higher = refl

-- An instance may link itself, after another has mentioned it, and instance 0 may link itself at once.
self_links : map is_numbered ((node (1 ∷ []) ∷ node (1 ∷ []) ∷ []) ∷ (node (0 ∷ []) ∷ []) ∷ (node (0 ∷ 1 ∷ []) ∷ node [] ∷ []) ∷ []) ≡ true ∷ true ∷ true ∷ []
unfolding is_numbered
self_links = refl

-- Its own link alone is no mention by a lower one.
self_link_alone : is_numbered (node [] ∷ node (1 ∷ []) ∷ []) ≡ false
unfolding is_numbered
self_link_alone = refl

-- It counts once, at its first mention, when it is mentioned twice.
mentioned_twice : map is_numbered ((node (1 ∷ 2 ∷ []) ∷ node (2 ∷ 3 ∷ []) ∷ node (1 ∷ 3 ∷ []) ∷ node [] ∷ []) ∷ (node (1 ∷ 3 ∷ []) ∷ node (2 ∷ 3 ∷ []) ∷ node [] ∷ node [] ∷ []) ∷ [])
    ≡ true ∷ false ∷ []
unfolding is_numbered
mentioned_twice = refl

-- Two levels: the cards of a rack, and then a chip of each card, in the cards' order.
chips : map is_numbered ((node (1 ∷ 2 ∷ []) ∷ node (3 ∷ []) ∷ node (4 ∷ []) ∷ node [] ∷ node [] ∷ []) ∷ (node (1 ∷ 2 ∷ []) ∷ node (4 ∷ []) ∷ node (3 ∷ []) ∷ node [] ∷ node [] ∷ [])
    ∷ (node (1 ∷ 3 ∷ []) ∷ node (2 ∷ []) ∷ node [] ∷ node (4 ∷ []) ∷ node [] ∷ []) ∷ []) ≡ true ∷ false ∷ false ∷ []
unfolding is_numbered
chips = refl
