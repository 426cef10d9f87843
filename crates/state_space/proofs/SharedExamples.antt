-- States of racks whose cards may share a driver, computed: each instance that is made may be linked by the ports made before.
use Rattle.std.specs.Prelude.{◌≡◌, ℕ, true, false, List, [], ◌∷◌, map, Some, None, codes, refl}
use Rattle.prod_model.specs.declared.model.Model.{Model}
use Rattle.prod_model.specs.Forest.{is_a, is_leaf}
use Rattle.prod_model.specs.Taxonomy.{attributes_of, ports_of}
use Rattle.prod_model.proofs.Forms.{part, shared, root_type}
use Rattle.config_value.specs.declared.configuration.Instance.{Instance}
use Rattle.config_value.specs.Shaped.{has_leaf_types}
use Rattle.config_value.specs.Spelled.{is_spelled}
use Rattle.config_value.proofs.Products.{instance}
use Rattle.state_space.specs.Made.{MadeInstance}
use Rattle.state_space.specs.Ports.{PortState}
use Rattle.state_space.specs.Undo as was
use Rattle.state_space.specs.State.{State}
use Rattle.state_space.specs.Covers.{covers}
use Rattle.state_space.specs.Root.{root}
use Rattle.state_space.specs.Generation.{first_open, generated}
use Rattle.state_space.specs.Undo.{undone}
use Rattle.state_space.proofs.StateExamples.{links}

-- types 0 Rack, 1 Card, 2 Driver; ports 0 cards, 1 driver
abbrev share : Model
share = record {
  root = 0;
  instances = 5;
  types = root_type (codes "Rack") [] (part (codes "cards") 1 2 2 ∷ []) ∷ root_type (codes "Card") [] (shared (codes "driver") 2 1 1 ∷ []) ∷ root_type (codes "Driver") [] [] ∷ [];
  bounds = [];
  rules = [];
}

abbrev share_state : List MadeInstance → State
share_state made = record { attribute_types = []; port_types = (0 ∷ []) ∷ (1 ∷ []) ∷ []; made = made }

abbrev rack_with : PortState → MadeInstance
rack_with cards = record { kinds = 0 ∷ []; domains = []; ports = Some cards ∷ None ∷ [] }

abbrev card_with : PortState → MadeInstance
card_with driver = record { kinds = 1 ∷ []; domains = []; ports = None ∷ Some driver ∷ [] }

abbrev a_driver : MadeInstance
a_driver = record { kinds = 2 ∷ []; domains = []; ports = None ∷ None ∷ [] }

root_of_shared : root share ≡ share_state (rack_with (links [] (0 ∷ []) 0 2) ∷ [])
unfolding root is_a is_leaf attributes_of ports_of
root_of_shared = refl

-- two cards, and after them a driver for the first card: the second one may share it
abbrev two_cards : State
two_cards = share_state (rack_with (links (1 ∷ 2 ∷ []) (0 ∷ 1 ∷ 2 ∷ []) 0 0) ∷ card_with (links [] (0 ∷ 1 ∷ 2 ∷ []) 0 1) ∷ card_with (links [] (0 ∷ 1 ∷ 2 ∷ []) 0 1) ∷ [])

abbrev one_driver : State
one_driver = share_state (
    rack_with (links (1 ∷ 2 ∷ []) (0 ∷ 1 ∷ 2 ∷ []) 0 0) ∷ card_with (links (3 ∷ []) (0 ∷ 1 ∷ 2 ∷ 3 ∷ []) 0 0)
    ∷ card_with (links [] (0 ∷ 1 ∷ 2 ∷ 3 ∷ []) 0 1) ∷ a_driver ∷ [])

made_cards : generated share (generated share (root share)) ≡ two_cards
unfolding generated first_open root is_a is_leaf attributes_of ports_of
made_cards = refl

made_driver : generated share two_cards ≡ one_driver
unfolding generated first_open is_a is_leaf attributes_of ports_of
made_driver = refl

-- the ports that are asked for an instance, one after the other
open_ports : map (first_open share) (two_cards ∷ one_driver ∷ []) ≡ Some (record { instance = 1; port = 1 }) ∷ Some (record { instance = 2; port = 1 }) ∷ []
unfolding first_open ports_of
open_ports = refl

-- products with one driver for both cards, and with two
abbrev with_drivers : List ℕ → List ℕ → List Instance → List Instance
with_drivers first second drivers = instance 0 [] ((1 ∷ 2 ∷ []) ∷ []) ∷ instance 1 [] (first ∷ []) ∷ instance 1 [] (second ∷ []) ∷ drivers

abbrev driver : Instance
driver = instance 2 [] []

shared_or_not : map (covers share one_driver) (
    with_drivers (3 ∷ []) (3 ∷ []) (driver ∷ []) ∷ with_drivers (3 ∷ []) (4 ∷ []) (driver ∷ driver ∷ []) ∷ with_drivers (4 ∷ []) (3 ∷ []) (driver ∷ driver ∷ []) ∷ [])
    ≡ true ∷ true ∷ false ∷ []
unfolding covers is_spelled has_leaf_types is_leaf attributes_of ports_of
shared_or_not = refl

-- what was logged when the driver was made, put back
unmade : undone (was.Port 1 1 (links [] (0 ∷ 1 ∷ 2 ∷ []) 0 1) ∷ was.Port 2 1 (links [] (0 ∷ 1 ∷ 2 ∷ []) 0 1) ∷ was.Made ∷ []) one_driver ≡ two_cards
unmade = refl
