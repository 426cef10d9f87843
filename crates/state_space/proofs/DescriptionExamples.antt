-- Descriptions of made instances, computed: of racks and their cards, and of what only some possible types have.
use Rattle.std.specs.Prelude.{◌≡◌, pos, negsuc, true, false, [], ◌∷◌, map, Some, refl}
use Rattle.std.specs.List.{list_all}
use Rattle.prod_model.specs.Forest.{is_a, is_leaf}
use Rattle.prod_model.specs.Taxonomy.{attributes_of, ports_of}
use Rattle.prod_model.proofs.Models.{rack}
use Rattle.config_value.specs.declared.literal.Literal.TheVariants as literal
use Rattle.config_value.specs.Literals.{has_literal}
use Rattle.config_value.proofs.Products.{small_big, big_small}
use Rattle.state_space.specs.Values.{Numbers, Words}
use Rattle.state_space.specs.State.{State}
use Rattle.state_space.specs.Descriptions.{gaps, values_description, counts_description, description}
use Rattle.state_space.proofs.StateExamples.{interval, links, rack_state, made_rack, made_card, small_card, at_root, with_card}

-- ---- gaps

-- numbers in two intervals, the lower one below zero
gaps_of_numbers : gaps (Numbers (record { low = negsuc 2; high = negsuc 1 } ∷ record { low = pos 1; high = pos 4 } ∷ [])) ≡ negsuc 0 ∷ pos 0 ∷ []
gaps_of_numbers = refl

-- the first, the third and the last of five words
words_said : values_description 1 2 (Words (0 ∷ 2 ∷ 4 ∷ []))
    ≡ literal.AtLeast 1 2 (pos 0) ∷ literal.AtMost 1 2 (pos 4) ∷ literal.ValueIsNot 1 2 (pos 1) ∷ literal.ValueIsNot 1 2 (pos 3) ∷ []
words_said = refl

-- one number has no gap
one_number : gaps (interval (pos 7) (pos 7)) ≡ []
one_number = refl

-- ---- racks

-- at the root: a rack is neither a small nor a big card, has a price, and may link itself and up to four later instances
rack_at_root : description rack at_root 0
    ≡ literal.Made 0 ∷ literal.NotKind 0 3 ∷ literal.NotKind 0 4 ∷ literal.AtLeast 0 0 (pos 0) ∷ literal.AtMost 0 0 (pos 100)
    ∷ literal.FreshAtLeast 0 0 1 0 ∷ literal.FreshAtMost 0 0 1 4 ∷ []
unfolding description is_leaf attributes_of ports_of
rack_at_root = refl

-- a card of either type whose price is 10, 11 or 14, and a rack that links it and not itself
abbrev gap_state : State
gap_state = rack_state (made_rack (links (1 ∷ []) (1 ∷ []) 1 3)
    ∷ made_card (3 ∷ 4 ∷ []) (Numbers (record { low = pos 10; high = pos 11 } ∷ record { low = pos 14; high = pos 14 } ∷ [])) (interval (pos 1) (pos 20)) ∷ [])

rack_with_card : description rack gap_state 0
    ≡ literal.Made 0 ∷ literal.NotKind 0 3 ∷ literal.NotKind 0 4 ∷ literal.AtLeast 0 0 (pos 0) ∷ literal.AtMost 0 0 (pos 100)
    ∷ literal.Linked 0 0 1 ∷ literal.NotLinked 0 0 0 ∷ literal.FreshAtLeast 0 0 2 1 ∷ literal.FreshAtMost 0 0 2 3 ∷ []
unfolding description is_leaf attributes_of ports_of
rack_with_card = refl

card_with_gap : description rack gap_state 1
    ≡ literal.Made 1 ∷ literal.NotKind 1 1 ∷ literal.AtLeast 1 0 (pos 10) ∷ literal.AtMost 1 0 (pos 14) ∷ literal.ValueIsNot 1 0 (pos 12) ∷ literal.ValueIsNot 1 0 (pos 13)
    ∷ literal.AtLeast 1 1 (pos 1) ∷ literal.AtMost 1 1 (pos 20) ∷ []
unfolding description is_leaf attributes_of ports_of
card_with_gap = refl

-- the rack links the card and one to three others; a card has no port
counts : map (λ i. counts_description rack gap_state i 0) (0 ∷ 1 ∷ []) ≡ (literal.LinksAtLeast 0 0 2 ∷ literal.LinksAtMost 0 0 4 ∷ []) ∷ [] ∷ []
unfolding ports_of
counts = refl

-- ---- what only some possible types have

-- a rack or a small card: of the port, which cards lack, and of the power, which racks lack, nothing is said
abbrev rack_or_card : State
rack_or_card = rack_state (record { kinds = 1 ∷ 3 ∷ []; domains = Some (interval (pos 20) (pos 30)) ∷ Some (interval (pos 1) (pos 20)) ∷ []; ports = Some (links [] (0 ∷ []) 0 4) ∷ [] } ∷ [])

shared_alone : description rack rack_or_card 0 ≡ literal.Made 0 ∷ literal.NotKind 0 4 ∷ literal.AtLeast 0 0 (pos 20) ∷ literal.AtMost 0 0 (pos 30) ∷ []
unfolding description is_leaf attributes_of ports_of
shared_alone = refl

-- ---- what is described

-- a small card of a price of 18 at most is the first card of one product, and not of the other
small_described : map (λ c. list_all (has_literal rack c) (description rack (with_card small_card) 1)) (small_big ∷ big_small ∷ []) ≡ true ∷ false ∷ []
unfolding description has_literal is_a is_leaf attributes_of ports_of
small_described = refl

-- of an instance that is not made all leaf types are excluded
not_made : description rack at_root 1 ≡ literal.Made 1 ∷ literal.NotKind 1 1 ∷ literal.NotKind 1 3 ∷ literal.NotKind 1 4 ∷ []
unfolding description is_leaf attributes_of ports_of
not_made = refl
