-- Key starts of racks, computed, beside the keys of configurations.
use Rattle.std.specs.Prelude.{◌≡◌, ℕ, ℤ, pos, List, [], ◌∷◌, map, Some, None, refl}
use Rattle.std.specs.declared.cmp.Ordering.TheVariants.{Less, Equal, Greater}
use Rattle.prod_model.specs.Taxonomy.{attributes_of, ports_of}
use Rattle.prod_model.proofs.Models.{rack}
use Rattle.config_value.specs.Rank.{key}
use Rattle.config_value.proofs.Products.{rack_of, small, big, small_big}
use Rattle.state_space.specs.Made.{MadeInstance}
use Rattle.state_space.specs.Values.{Values, Numbers}
use Rattle.state_space.specs.State.{State}
use Rattle.state_space.specs.Root.{root}
use Rattle.prod_model.specs.Forest.{is_a, is_leaf}
use Rattle.state_values.specs.KeyStart.{key_start, key_start_order}

abbrev interval : ℤ → ℤ → Values
interval low high = Numbers (record { low = low; high = high } ∷ [])

-- Racks are of type 1, small cards of type 3, big ones of type 4. All have a price, which is attribute 0; cards have a power, which is attribute 1; racks have port 0.
abbrev rack_state : List MadeInstance → State
rack_state made = record { attribute_types = (1 ∷ 3 ∷ 4 ∷ []) ∷ (3 ∷ 4 ∷ []) ∷ []; port_types = (1 ∷ []) ∷ []; made = made }

abbrev made_rack : ℤ → List ℕ → List ℕ → ℕ → ℕ → MadeInstance
made_rack price required possible low high = record {
  kinds = 1 ∷ [];
  domains = Some (interval price (pos 100)) ∷ None ∷ [];
  ports = Some (record { required = required; possible = possible; fresh_low = low; fresh_high = high }) ∷ [];
}

abbrev made_card : List ℕ → ℤ → ℤ → MadeInstance
made_card kinds price power = record { kinds = kinds; domains = Some (interval price (pos 100)) ∷ Some (interval power (pos 20)) ∷ []; ports = None ∷ [] }

-- a rack of a price from 50 on that links one card and no more
abbrev with_one : MadeInstance → State
with_one card = rack_state (made_rack (pos 50) (1 ∷ []) (1 ∷ []) 0 0 ∷ card ∷ [])

-- the root: the rack's type and its least price; its port may still get links
start_of_root : key_start rack (root rack) ≡ pos 1 ∷ pos 0 ∷ []
unfolding key_start root is_a is_leaf attributes_of ports_of
start_of_root = refl

-- a port that may link another made card, or has to link a later one, ends the list before it
starts_before_port :
    map (key_start rack) (rack_state (made_rack (pos 50) (1 ∷ []) (1 ∷ 2 ∷ []) 0 0 ∷ made_card (3 ∷ []) (pos 10) (pos 5) ∷ made_card (3 ∷ []) (pos 10) (pos 5) ∷ [])
    ∷ rack_state (made_rack (pos 50) (1 ∷ []) (1 ∷ []) 1 1 ∷ made_card (3 ∷ []) (pos 10) (pos 5) ∷ []) ∷ [])
    ≡ (pos 1 ∷ pos 50 ∷ []) ∷ (pos 1 ∷ pos 50 ∷ []) ∷ []
unfolding key_start attributes_of ports_of
starts_before_port = refl

-- after a settled port: one link, to instance 1, and then the card; a card of either type ends the list after the lesser type
starts_with_one : map (key_start rack) (with_one (made_card (3 ∷ []) (pos 10) (pos 5)) ∷ with_one (made_card (3 ∷ 4 ∷ []) (pos 10) (pos 5)) ∷ [])
    ≡ (pos 1 ∷ pos 50 ∷ pos 1 ∷ pos 1 ∷ pos 3 ∷ pos 10 ∷ pos 5 ∷ []) ∷ (pos 1 ∷ pos 50 ∷ pos 1 ∷ pos 1 ∷ pos 3 ∷ []) ∷ []
unfolding key_start attributes_of ports_of
starts_with_one = refl

-- what follows a card of several types is left out, though its own type is told
start_ends_there : key_start rack (rack_state (made_rack (pos 50) (1 ∷ 2 ∷ []) (1 ∷ 2 ∷ []) 0 0 ∷ made_card (3 ∷ 4 ∷ []) (pos 10) (pos 5) ∷ made_card (4 ∷ []) (pos 18) (pos 12) ∷ []))
    ≡ pos 1 ∷ pos 50 ∷ pos 2 ∷ pos 1 ∷ pos 2 ∷ pos 3 ∷ []
unfolding key_start attributes_of ports_of
start_ends_there = refl

-- ---- beside keys

key_of_small_big : key small_big ≡ pos 1 ∷ pos 50 ∷ pos 2 ∷ pos 1 ∷ pos 2 ∷ pos 3 ∷ pos 10 ∷ pos 5 ∷ pos 4 ∷ pos 18 ∷ pos 12 ∷ []
unfolding key
key_of_small_big = refl

-- a small card of a price from 10 on and a power from 5 on: the rack with the small card has the start as its key, and the racks with the big card and with two cards come after it
orders_of_small : map (key_start_order rack (with_one (made_card (3 ∷ []) (pos 10) (pos 5)))) ((rack_of (1 ∷ []) ∷ small ∷ []) ∷ (rack_of (1 ∷ []) ∷ big ∷ []) ∷ small_big ∷ [])
    ≡ Equal ∷ Less ∷ Less ∷ []
unfolding key_start key attributes_of ports_of
orders_of_small = refl

-- a rack with a small card: the start for a card of either type is a proper prefix of its key; those for a card of a price from 11 on and for a rack of a price from 51 on come after it
orders_of_others : map (λ s. key_start_order rack s (rack_of (1 ∷ []) ∷ small ∷ [])) (
    with_one (made_card (3 ∷ 4 ∷ []) (pos 11) (pos 5)) ∷ with_one (made_card (3 ∷ []) (pos 11) (pos 5)) ∷ rack_state (made_rack (pos 51) [] [] 0 0 ∷ []) ∷ [])
    ≡ Less ∷ Greater ∷ Greater ∷ []
unfolding key_start key attributes_of ports_of
orders_of_others = refl

-- a rack without links comes before the start, and so does a key that is a proper prefix of it
order_of_none : map (key_start_order rack (with_one (made_card (3 ∷ []) (pos 10) (pos 5)))) ((rack_of [] ∷ []) ∷ (rack_of (1 ∷ []) ∷ []) ∷ []) ≡ Greater ∷ Greater ∷ []
unfolding key_start key attributes_of ports_of
order_of_none = refl
