-- Models that the examples are about, racks with small and big cards and a rack with two ports, and orders for racks.
use Rattle.std.specs.Prelude.{true, false, List, pos, [], ◌∷◌, codes}
use Rattle.prod_model.specs.declared.model.Model.{Model}
use Rattle.prod_model.specs.declared.model.Rule.{Rule}
use Rattle.prod_model.specs.declared.model.Request.{Request}
use Rattle.prod_model.specs.declared.model.Criterion.{Criterion}
use Rattle.prod_model.specs.declared.model.Order.{Order}
use Rattle.prod_model.proofs.Forms.{range, part, root_type, subtype, num, count, sum, total, number_of, at_most, at_least}

-- the cards of a rack have a power of at most 30 together
abbrev pub load : Rule
load = record { name = codes "load"; kind = 1; holds = at_most (sum 0 1) (num (pos 30)) }

-- types 0 Item, 1 Rack, 2 Card, 3 Small, 4 Big; attributes 0 price, 1 power; port 0 cards
abbrev pub rack : Model
rack = record {
  root = 1;
  instances = 5;
  types =
      root_type (codes "Item") (range (codes "price") (pos 0) (pos 100) ∷ []) []
      ∷ subtype (codes "Rack") 0 (range (codes "price") (pos 50) (pos 50) ∷ []) (part (codes "cards") 2 0 4 ∷ [])
      ∷ subtype (codes "Card") 0 (range (codes "power") (pos 1) (pos 20) ∷ []) []
      ∷ subtype (codes "Small") 2 (range (codes "price") (pos 10) (pos 10) ∷ range (codes "power") (pos 5) (pos 5) ∷ []) []
      ∷ subtype (codes "Big") 2 (range (codes "price") (pos 18) (pos 18) ∷ range (codes "power") (pos 12) (pos 12) ∷ []) []
      ∷ [];
  bounds = [];
  rules = load ∷ [];
}

-- types 0 Rack, 1 Card; ports 0 left, 1 right
abbrev pub two_ports : Model
two_ports = record {
  root = 0;
  instances = 3;
  types = root_type (codes "Rack") [] (part (codes "left") 1 0 2 ∷ part (codes "right") 1 0 2 ∷ []) ∷ root_type (codes "Card") [] [] ∷ [];
  bounds = [];
  rules = [];
}

-- ---- requests and criteria for racks

-- at most one card
abbrev pub few : Request
few = record { name = codes "few"; holds = at_most (count 0) (num (pos 1)) }

-- a power of 20 at least
abbrev pub strong : Request
strong = record { name = codes "strong"; holds = at_least (sum 0 1) (num (pos 20)) }

-- a small card at least
abbrev pub one_small : Request
one_small = record { name = codes "small"; holds = at_least (number_of 3) (num (pos 1)) }

-- the number of cards, least first
abbrev pub fewest_cards : Criterion
fewest_cards = record { name = codes "cards"; maximise = false; value = count 0 }

-- the same, greatest first
abbrev pub most_cards : Criterion
most_cards = record { name = codes "cards"; maximise = true; value = count 0 }

-- the price of all instances, least first
abbrev pub cheapest : Criterion
cheapest = record { name = codes "cost"; maximise = false; value = total 0 0 }

abbrev pub asks : List Request → List Criterion → Order
asks requests criteria = record { requests = requests; criteria = criteria }
