-- Declarations that narrow the nearest of their name, and declarations that don't, computed.
use Rattle.std.specs.Prelude.{ℕ, ℤ, pos, [], ◌∷◌, codes, refl}
use Rattle.std.proofs.Common.{inl, inr}
use Rattle.prod_model.specs.declared.model.Model.{Model}
use Rattle.prod_model.specs.declared.model.TypeDecl.{TypeDecl}
use Rattle.prod_model.specs.declared.model.AttrDecl.{AttrDecl}
use Rattle.prod_model.specs.declared.model.PortDecl.{PortDecl}
use Rattle.prod_model.specs.Forest.{is_a}
use Rattle.prod_model.proofs.Forms.{range, part, shared, root_type, subtype}
use Rattle.type_taxonomy.specs.Nearest.{AttributeNarrows, PortNarrows}
use Rattle.type_taxonomy.proofs.NearestCases.{attribute_failed, port_passed, port_failed}

abbrev size : ℤ → ℤ → AttrDecl
size low high = range (codes "size") low high

abbrev door : ℕ → ℕ → ℕ → PortDecl
door target low high = part (codes "door") target low high

abbrev small : TypeDecl
small = subtype (codes "Small") 0 (size (pos 2) (pos 5) ∷ []) []

-- a box with a size and a door that leads to boxes, a small box, which narrows the size, a tiny box
-- under it, which declares nothing, and a type by itself
abbrev boxes : Model
boxes = record {
  root = 0;
  instances = 1;
  types = root_type (codes "Box") (size (pos 1) (pos 9) ∷ []) (door 0 1 3 ∷ []) ∷ small ∷ subtype (codes "Tiny") 1 [] [] ∷ root_type (codes "Lamp") [] [] ∷ [];
  bounds = [];
  rules = [];
}

-- ---- attributes

-- no type is above the box
new_in_a_root : AttributeNarrows boxes 0 (size (pos 0) (pos 99))
new_in_a_root = inl refl

within_the_nearest : AttributeNarrows boxes 2 (size (pos 3) (pos 4))
within_the_nearest =
    inr (record { wide = size (pos 2) (pos 5); inherited = record { ancestor = small; is_nearest = refl; is_declared = refl }; within = refl })

-- it lies within the size of a box, but not within that of a small one
beyond_the_nearest : ¬ AttributeNarrows boxes 2 (size (pos 2) (pos 6))
beyond_the_nearest = attribute_failed boxes 2 (size (pos 2) (pos 6)) refl

-- the nearest of its name is a port
name_of_a_port : ¬ AttributeNarrows boxes 2 (range (codes "door") (pos 1) (pos 3))
name_of_a_port = attribute_failed boxes 2 (range (codes "door") (pos 1) (pos 3)) refl

-- ---- ports

fewer_links_to_fewer : PortNarrows boxes 2 (door 1 1 2)
unfolding is_a
fewer_links_to_fewer = port_passed boxes 2 (door 1 1 2) refl

more_links : ¬ PortNarrows boxes 2 (door 1 1 4)
more_links = port_failed boxes 2 (door 1 1 4) refl

other_kind : ¬ PortNarrows boxes 2 (shared (codes "door") 1 1 2)
other_kind = port_failed boxes 2 (shared (codes "door") 1 1 2) refl

-- a lamp is no box
other_target : ¬ PortNarrows boxes 2 (door 3 1 2)
unfolding is_a
other_target = port_failed boxes 2 (door 3 1 2) refl

-- the nearest of its name is an attribute
name_of_an_attribute : ¬ PortNarrows boxes 2 (part (codes "size") 0 1 2)
name_of_an_attribute = port_failed boxes 2 (part (codes "size") 0 1 2) refl
