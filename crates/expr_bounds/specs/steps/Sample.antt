-- The small model that the tests are about: 0 Box, 1 Card, 2 Blue under Box. Attributes 0 width and
-- 1 colour of Box, 2 power and 3 loss of Card. Port 0 slot of Box.
use Rattle.std.specs.Prelude.{ℕ, ℤ, pos, neg_ℤ, List, [], ◌∷◌, codes, Some, None}
use Rattle.prod_model.specs.declared.model.Model.{Model}
use Rattle.prod_model.specs.declared.model.Tables.{Tables}
use Rattle.prod_model.specs.declared.model.TypeDecl.{TypeDecl}
use Rattle.prod_model.specs.declared.model.AttrDecl.{AttrDecl}
use Rattle.prod_model.specs.declared.model.PortDecl.{PortDecl}
use Rattle.prod_model.specs.declared.model.AttrAt.{AttrAt}
use Rattle.prod_model.specs.declared.model.PortAt.{PortAt}
use Rattle.prod_model.specs.declared.model.PortKind.TheVariants.{Part}
use Rattle.prod_model.specs.declared.model.Domain.TheVariants.{Range, Words}

-- an attribute of whole numbers
abbrev pub range : List ℕ → ℤ → ℤ → AttrDecl
range name low high = record { name = name; domain = Range low high }

-- a port for cards
abbrev pub slot : ℕ → ℕ → PortDecl
slot low high = record {
  name = codes "slot";
  kind = Part;
  target = 1;
  low = low;
  high = high;
  inverse = None;
}

-- red, green and blue
abbrev pub colours : List (List ℕ)
colours = codes "red" ∷ codes "green" ∷ codes "blue" ∷ []

-- the one word of a narrowing
abbrev pub blue_only : List (List ℕ)
blue_only = codes "blue" ∷ []

-- an attribute of words
abbrev pub colour : List (List ℕ) → AttrDecl
colour words = record { name = codes "colour"; domain = Words words }

-- the types: a box with a width, a colour and a slot
abbrev pub box : TypeDecl
box = record {
  name = codes "Box";
  parent = None;
  attributes = range (codes "width") (neg_ℤ (pos 4)) (pos 1000000) ∷ colour colours ∷ [];
  ports = slot 2 3 ∷ [];
}

-- a card with a power and a loss
abbrev pub card : TypeDecl
card = record {
  name = codes "Card";
  parent = None;
  attributes =
      range (codes "power") (neg_ℤ (pos 5)) (pos 7)
      ∷ range (codes "loss") (neg_ℤ (pos 9)) (neg_ℤ (pos 3))
      ∷ [];
  ports = [];
}

-- a blue box with exactly two cards
abbrev pub blue : TypeDecl
blue = record {
  name = codes "Blue";
  parent = Some 0;
  attributes = colour blue_only ∷ [];
  ports = slot 2 2 ∷ [];
}

-- the model of these types
abbrev pub sample : Model
sample = record { root = 0; instances = 5; types = box ∷ card ∷ blue ∷ []; bounds = []; rules = [] }

-- an attribute of whole numbers, as the tables have it
abbrev pub range_at : ℕ → ℤ → ℤ → AttrAt
range_at id low high = record { id = id; domain = Range low high }

-- the colour, as the tables have it
abbrev pub colour_at : List (List ℕ) → AttrAt
colour_at words = record { id = 1; domain = Words words }

-- the slot, as the tables have it
abbrev pub slot_at : ℕ → ℕ → PortAt
slot_at low high = record {
  id = 0;
  kind = Part;
  target = 1;
  low = low;
  high = high;
  inverse = None;
}

-- the tables of the model
abbrev pub sample_tables : Tables
sample_tables = record {
  attributes =
      (range_at 0 (neg_ℤ (pos 4)) (pos 1000000) ∷ colour_at colours ∷ [])
      ∷ (range_at 2 (neg_ℤ (pos 5)) (pos 7) ∷ range_at 3 (neg_ℤ (pos 9)) (neg_ℤ (pos 3)) ∷ [])
      ∷ (range_at 0 (neg_ℤ (pos 4)) (pos 1000000) ∷ colour_at blue_only ∷ [])
      ∷ [];
  ports = (slot_at 2 3 ∷ []) ∷ [] ∷ (slot_at 2 2 ∷ []) ∷ [];
}
