-- Products that the examples are about, of racks and of a rack with two ports, and a model with each form of rule.
use Rattle.std.specs.Prelude.{ℕ, ℤ, pos, List, [], ◌∷◌, codes}
use Rattle.prod_model.specs.declared.model.Model.{Model}
use Rattle.config_value.specs.declared.configuration.Instance.{Instance}
use Rattle.prod_model.proofs.Forms.{range, words, part, root_type, subtype}

abbrev pub instance : ℕ → List ℤ → List (List ℕ) → Instance
instance kind values links = record { kind = kind; values = values; links = links }

-- ---- racks

abbrev pub rack_of : List ℕ → Instance
rack_of cards = instance 1 (pos 50 ∷ []) (cards ∷ [])

abbrev pub small : Instance
small = instance 3 (pos 10 ∷ pos 5 ∷ []) []

abbrev pub big : Instance
big = instance 4 (pos 18 ∷ pos 12 ∷ []) []

-- a small card and then a big one, and the other way round
abbrev pub small_big : List Instance
small_big = rack_of (1 ∷ 2 ∷ []) ∷ small ∷ big ∷ []

abbrev pub big_small : List Instance
big_small = rack_of (1 ∷ 2 ∷ []) ∷ big ∷ small ∷ []

-- ---- a rack with two ports

abbrev pub two_ports_of : List ℕ → List ℕ → Instance
two_ports_of left right = instance 0 [] (left ∷ right ∷ [])

abbrev pub card : Instance
card = instance 1 [] []

-- ---- truths

-- types 0 Item, 1 Rack, 2 Card, 3 Small, 4 Big; attributes 0 power, 1 bus; ports 0 cards, 1 spare
abbrev pub truths : Model
truths = record {
  root = 1;
  instances = 4;
  types =
      root_type (codes "Item") [] []
      ∷ subtype (codes "Rack") 0 [] (part (codes "cards") 2 0 3 ∷ part (codes "spare") 2 0 3 ∷ [])
      ∷ subtype (codes "Card") 0 (range (codes "power") (pos 1) (pos 9) ∷ words (codes "bus") (codes "sata" ∷ codes "sas" ∷ []) ∷ []) []
      ∷ subtype (codes "Small") 2 [] []
      ∷ subtype (codes "Big") 2 [] []
      ∷ [];
  bounds = [];
  rules = [];
}

-- a rack with a small card of power 3 and bus sata, and a big one of power 4 and bus sas
abbrev pub two_cards : List Instance
two_cards = instance 1 [] ((1 ∷ 2 ∷ []) ∷ [] ∷ []) ∷ instance 3 (pos 3 ∷ pos 0 ∷ []) [] ∷ instance 4 (pos 4 ∷ pos 1 ∷ []) [] ∷ []
