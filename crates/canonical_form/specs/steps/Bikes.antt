-- The small model that the tests are about: 0 Any over 1 Bike, which has all attributes and ports,
-- and 2 Wheel.
use Rattle.std.specs.Prelude.{ℕ, pos, List, [], ◌∷◌, codes, Some, None}
use Rattle.prod_model.specs.declared.model.Model.{Model}
use Rattle.prod_model.specs.declared.model.TypeDecl.{TypeDecl}
use Rattle.prod_model.specs.declared.model.AttrAt.{AttrAt}
use Rattle.prod_model.specs.declared.model.PortAt.{PortAt}
use Rattle.prod_model.specs.declared.model.Domain.{Domain}
use Rattle.prod_model.specs.declared.model.Domain.TheVariants.{Range, Words}
use Rattle.prod_model.specs.declared.model.PortKind.TheVariants.{Part}

-- a type of no attributes and ports
abbrev pub plain : List ℕ → TypeDecl
plain name = record { name = name; parent = None; attributes = []; ports = [] }

-- the prices
abbrev pub prices : Domain
prices = Range (pos 0) (pos 99)

-- the colors
abbrev pub colors : Domain
colors = Words (codes "red" ∷ codes "blue" ∷ [])

-- a bike with a price, a color and wheels on its left
abbrev pub bike : TypeDecl
bike = record {
  name = codes "Bike";
  parent = Some 0;
  attributes =
      record { name = codes "price"; domain = prices }
      ∷ record { name = codes "color"; domain = colors }
      ∷ [];
  ports = record {
    name = codes "left";
    kind = Part;
    target = 2;
    low = 0;
    high = 9;
    inverse = None;
  } ∷ [];
}

-- the types
abbrev pub kinds : List TypeDecl
kinds = plain (codes "Any") ∷ bike ∷ plain (codes "Wheel") ∷ []

-- a model of these types
abbrev pub model_with : List TypeDecl → Model
model_with types = record { root = 1; instances = 256; types = types; bounds = []; rules = [] }

-- the attributes of a bike
abbrev pub bike_attributes : List AttrAt
bike_attributes = record { id = 0; domain = prices } ∷ record { id = 1; domain = colors } ∷ []

-- its port
abbrev pub bike_port : PortAt
bike_port = record { id = 0; kind = Part; target = 2; low = 0; high = 9; inverse = None }
