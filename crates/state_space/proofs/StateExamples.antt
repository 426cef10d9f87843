-- States of racks, computed: the root, a card made, and the card half known.
use Rattle.std.specs.Prelude.{◌≡◌, ◌+◌, ℕ, ℤ, pos, true, false, List, [], ◌∷◌, map, Some, None, refl}
use Rattle.prod_model.specs.Forest.{is_a, is_leaf}
use Rattle.prod_model.specs.Taxonomy.{attributes_of, ports_of}
use Rattle.prod_model.proofs.Models.{rack}
use Rattle.config_value.specs.Shaped.{has_leaf_types}
use Rattle.config_value.specs.Spelled.{is_spelled}
use Rattle.config_value.proofs.Products.{rack_of, small, big, small_big, big_small}
use Rattle.state_space.specs.Made.{MadeInstance}
use Rattle.state_space.specs.Values.{Values, Numbers}
use Rattle.state_space.specs.Ports.{PortState}
use Rattle.config_value.specs.declared.literal.Literal.TheVariants as literal
use Rattle.state_space.specs.State.{State}
use Rattle.config_value.specs.Literals.{has_literal}
use Rattle.state_space.specs.Covers.{covers}
use Rattle.state_space.specs.Root.{root}
use Rattle.state_space.specs.Generation.{first_open, generated}
use Rattle.state_space.specs.Entails.{entails, fits}
use Rattle.state_space.specs.Whole.{is_whole, whole_configuration}
use Rattle.state_space.specs.Size.{size_of}

abbrev pub interval : ℤ → ℤ → Values
interval low high = Numbers (record { low = low; high = high } ∷ [])

abbrev pub links : List ℕ → List ℕ → ℕ → ℕ → PortState
links required possible low high = record { required = required; possible = possible; fresh_low = low; fresh_high = high }

-- Racks, small and big cards have a price, which is attribute 0; cards have a power, which is attribute 1; racks have port 0.
abbrev pub rack_state : List MadeInstance → State
rack_state made = record { attribute_types = (1 ∷ 3 ∷ 4 ∷ []) ∷ (3 ∷ 4 ∷ []) ∷ []; port_types = (1 ∷ []) ∷ []; made = made }

abbrev pub made_rack : PortState → MadeInstance
made_rack cards = record { kinds = 1 ∷ []; domains = Some (interval (pos 0) (pos 100)) ∷ None ∷ []; ports = Some cards ∷ [] }

abbrev pub made_card : List ℕ → Values → Values → MadeInstance
made_card kinds price power = record { kinds = kinds; domains = Some price ∷ Some power ∷ []; ports = None ∷ [] }

abbrev pub any_card : MadeInstance
any_card = made_card (3 ∷ 4 ∷ []) (interval (pos 0) (pos 100)) (interval (pos 1) (pos 20))

-- a rack that may link itself and up to four later instances
abbrev pub at_root : State
at_root = rack_state (made_rack (links [] (0 ∷ []) 0 4) ∷ [])

-- and after one card was made for it
abbrev pub with_card : MadeInstance → State
with_card card = rack_state (made_rack (links (1 ∷ []) (0 ∷ 1 ∷ []) 0 3) ∷ card ∷ [])

root_of_racks : root rack ≡ at_root
unfolding root is_a is_leaf attributes_of ports_of
root_of_racks = refl

open_at_root : first_open rack at_root ≡ Some (record { instance = 0; port = 0 })
unfolding first_open attributes_of ports_of
open_at_root = refl

one_card : generated rack at_root ≡ with_card any_card
unfolding generated first_open is_a is_leaf attributes_of ports_of
one_card = refl

-- ---- what is covered

-- a rack alone is covered by the root, and not once a card is made; racks with two cards are covered by both
covered : map (covers rack at_root) ((rack_of [] ∷ []) ∷ small_big ∷ big_small ∷ []) ≡ true ∷ true ∷ true ∷ []
unfolding covers is_spelled has_leaf_types is_leaf attributes_of ports_of
covered = refl

covered_with_card : map (covers rack (with_card any_card)) ((rack_of [] ∷ []) ∷ small_big ∷ (rack_of (2 ∷ []) ∷ small ∷ big ∷ []) ∷ []) ≡ false ∷ true ∷ false ∷ []
unfolding covers is_spelled has_leaf_types is_leaf attributes_of ports_of
covered_with_card = refl

-- a small card of a price of 18 at most, whose power is not known yet
abbrev pub small_card : MadeInstance
small_card = made_card (3 ∷ []) (interval (pos 0) (pos 18)) (interval (pos 1) (pos 20))

covered_with_small : map (covers rack (with_card small_card)) (small_big ∷ big_small ∷ []) ≡ true ∷ false ∷ []
unfolding covers is_spelled has_leaf_types is_leaf attributes_of ports_of
covered_with_small = refl

-- ---- literals

-- of the card's type, its price, its power, and the rack's links
entailed : map (entails rack (with_card small_card)) (
    literal.Made 1 ∷ literal.Made 2 ∷ literal.Kind 1 2 ∷ literal.Kind 1 4 ∷ literal.NotKind 1 4 ∷ literal.AtMost 1 0 (pos 18) ∷ literal.AtMost 1 0 (pos 17)
    ∷ literal.ValueIsNot 1 0 (pos 19) ∷ literal.AtLeast 1 1 (pos 1) ∷ literal.Linked 0 0 1 ∷ literal.NotLinked 0 0 0 ∷ literal.NotLinked 0 0 2
    ∷ literal.LinksAtMost 0 0 5 ∷ literal.LinksAtLeast 0 0 1 ∷ literal.FreshAtMost 0 0 2 3 ∷ literal.FreshAtLeast 0 0 2 0 ∷ literal.FreshAtLeast 0 0 1 1 ∷ [])
    ≡ true ∷ false ∷ true ∷ false ∷ true ∷ true ∷ false ∷ true ∷ true ∷ true ∷ false ∷ false ∷ true ∷ true ∷ true ∷ true ∷ true ∷ []
unfolding entails is_a attributes_of ports_of
entailed = refl

-- a card has no port 0, and the rack no power: what is said of them doesn't fit, and holds nowhere
fitting : map (fits rack (with_card any_card)) (
    literal.Made 2 ∷ literal.Kind 1 3 ∷ literal.Kind 2 3 ∷ literal.AtMost 1 1 (pos 5) ∷ literal.AtMost 0 1 (pos 5) ∷ literal.Linked 0 0 1 ∷ literal.Linked 0 0 2
    ∷ literal.Linked 1 0 1 ∷ literal.LinksAtMost 0 0 2 ∷ literal.FreshAtMost 0 0 2 0 ∷ literal.FreshAtMost 0 0 1 0 ∷ [])
    ≡ false ∷ true ∷ false ∷ true ∷ false ∷ true ∷ false ∷ false ∷ false ∷ true ∷ false ∷ []
unfolding fits first_open is_a attributes_of ports_of
fitting = refl

held : map (has_literal rack small_big) (
    literal.Made 2 ∷ literal.Made 3 ∷ literal.Kind 1 2 ∷ literal.NotKind 1 4 ∷ literal.NotKind 3 4 ∷ literal.AtMost 2 1 (pos 12) ∷ literal.AtMost 0 1 (pos 100)
    ∷ literal.ValueIsNot 1 0 (pos 10) ∷ literal.Linked 0 0 2 ∷ literal.NotLinked 1 0 0 ∷ literal.LinksAtMost 0 0 2 ∷ literal.FreshAtLeast 0 0 2 1 ∷ [])
    ≡ true ∷ false ∷ true ∷ true ∷ false ∷ true ∷ false ∷ false ∷ true ∷ false ∷ true ∷ true ∷ []
unfolding has_literal is_a attributes_of ports_of
held = refl

-- ---- sizes, and whole states

sizes : map (size_of rack) (at_root ∷ with_card any_card ∷ with_card small_card ∷ [])
    ≡ (4000000000 + 1 + 101 + 5) ∷ (3000000000 + 1 + 101 + 4 + 2 + 101 + 20) ∷ (3000000000 + 1 + 101 + 4 + 1 + 19 + 20) ∷ []
unfolding size_of
sizes = refl

-- a rack that links one small card and no more
abbrev pub one_small : State
one_small = rack_state (record { kinds = 1 ∷ []; domains = Some (interval (pos 50) (pos 50)) ∷ None ∷ []; ports = Some (links (1 ∷ []) (1 ∷ []) 0 0) ∷ [] }
    ∷ made_card (3 ∷ []) (interval (pos 10) (pos 10)) (interval (pos 5) (pos 5)) ∷ [])

whole : map is_whole (one_small ∷ with_card small_card ∷ at_root ∷ []) ≡ true ∷ false ∷ false ∷ []
unfolding is_whole
whole = refl

configuration_of_whole : whole_configuration rack one_small ≡ rack_of (1 ∷ []) ∷ small ∷ []
unfolding whole_configuration attributes_of ports_of
configuration_of_whole = refl
