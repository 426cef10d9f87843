-- What is seen of a server in its first state, and of a bus of two words, computed.
use Rattle.std.specs.Prelude.{◌≡◌, ℕ, ℤ, pos, List, [], ◌∷◌, map, codes, Some, None}
use Rattle.prod_model.specs.declared.model.Model.{Model}
use Rattle.prod_model.specs.declared.model.TypeDecl.{TypeDecl}
use Rattle.prod_model.specs.Forest.{is_a, is_leaf}
use Rattle.prod_model.specs.Taxonomy.{attributes_of, ports_of}
use Rattle.prod_model.proofs.Forms.{range, words, part, shared, root_type, subtype, count, total, sum, number_of, is_word}
use Rattle.prod_model.proofs.ExprBoundsLaws.{bounds_laws}
use Rattle.config_value.specs.declared.literal.Literal.TheVariants as literal
use Rattle.state_space.specs.Made.{MadeInstance}
use Rattle.state_space.specs.Values.{Words}
use Rattle.state_space.specs.State.{State}
use Rattle.state_values.specs.Kleene.{True, False, Open}
use Rattle.state_values.specs.Ranges.{plain}
use Rattle.state_values.specs.Seen.{Between, Truth, seen_at}
use Rattle.state_values.proofs.SeenLaws.{seen_at_roll}
use Rattle.state_values.proofs.RackExamples.{interval, links}

-- a type of one price, one number of watts and one number more
abbrev fixed : List ℕ → ℕ → ℤ → ℤ → List ℕ → ℤ → TypeDecl
fixed name parent price watts own value = subtype name parent (range (codes "price") price price ∷ range (codes "watts") watts watts ∷ range own value value ∷ []) []

-- Types 0 Part, 1 Chassis, 2 Board, 3 BasicBoard, 4 FastBoard, 5 Disk, 6 SmallDisk, 7 LargeDisk, 8 Supply, 9 Supply400, 10 Supply800, 11 Controller.
-- Attributes 0 price, 1 watts, 2 ram, 3 size, 4 output, 5 bus; ports 0 boards, 1 disks, 2 supplies, 3 controller.
abbrev server : Model
server = record {
  root = 1;
  instances = 24;
  types =
      root_type (codes "Part") (range (codes "price") (pos 0) (pos 1000) ∷ range (codes "watts") (pos 0) (pos 500) ∷ []) []
      ∷ subtype (codes "Chassis") 0 (range (codes "price") (pos 300) (pos 300) ∷ range (codes "watts") (pos 20) (pos 20) ∷ [])
      (part (codes "boards") 2 1 8 ∷ part (codes "disks") 5 0 4 ∷ part (codes "supplies") 8 1 2 ∷ [])
      ∷ subtype (codes "Board") 0 (range (codes "ram") (pos 0) (pos 64) ∷ []) []
      ∷ fixed (codes "BasicBoard") 2 (pos 100) (pos 30) (codes "ram") (pos 16)
      ∷ fixed (codes "FastBoard") 2 (pos 220) (pos 50) (codes "ram") (pos 64)
      ∷ subtype (codes "Disk") 0 (range (codes "size") (pos 1) (pos 8) ∷ []) (shared (codes "controller") 11 1 1 ∷ [])
      ∷ fixed (codes "SmallDisk") 5 (pos 40) (pos 5) (codes "size") (pos 2)
      ∷ fixed (codes "LargeDisk") 5 (pos 110) (pos 8) (codes "size") (pos 8)
      ∷ subtype (codes "Supply") 0 (range (codes "output") (pos 0) (pos 800) ∷ []) []
      ∷ fixed (codes "Supply400") 8 (pos 60) (pos 0) (codes "output") (pos 400)
      ∷ fixed (codes "Supply800") 8 (pos 150) (pos 0) (codes "output") (pos 800)
      ∷ subtype (codes "Controller") 0 (range (codes "price") (pos 50) (pos 90) ∷ range (codes "watts") (pos 4) (pos 4) ∷ words (codes "bus") (codes "sata" ∷ codes "sas" ∷ []) ∷ []) []
      ∷ [];
  bounds = [];
  rules = [];
}

abbrev server_state : List MadeInstance → State
server_state made = record { attribute_types = []; port_types = []; made = made }

-- a chassis of one price and one number of watts, which links no made instance yet
abbrev chassis : MadeInstance
chassis = record {
  kinds = 1 ∷ [];
  domains = Some (interval (pos 300) (pos 300)) ∷ Some (interval (pos 20) (pos 20)) ∷ None ∷ None ∷ None ∷ None ∷ [];
  ports = Some (links [] [] 1 8) ∷ Some (links [] [] 0 4) ∷ Some (links [] [] 1 2) ∷ None ∷ [];
}

-- a controller whose bus is one of the words
abbrev controller : List ℕ → MadeInstance
controller bus = record {
  kinds = 11 ∷ [];
  domains = Some (interval (pos 50) (pos 90)) ∷ Some (interval (pos 4) (pos 4)) ∷ None ∷ None ∷ None ∷ Some (Words bus) ∷ [];
  ports = None ∷ None ∷ None ∷ None ∷ [];
}

-- the chassis alone
abbrev at_root : State
at_root = server_state (chassis ∷ [])

-- The price is 300 to 300 and 23 times 1000: the instances that the ports need aren't made yet, and count 0 to 1000 each.
price : seen_at server at_root 1 0 (total 0 0) ≡ Between (record {
  low = record { number = pos 300; by = literal.Kind 0 0 ∷ literal.AtLeast 0 0 (pos 300) ∷ [] };
  high = record { number = pos 23300; by = literal.AtMost 0 0 (pos 300) ∷ [] };
})
unfolding attributes_of ports_of is_a is_leaf
price = simp (seen_at_roll, bounds_laws)

-- So are the watts, by 20 and 23 times 500.
watts : seen_at server at_root 1 0 (total 0 1) ≡ Between (record {
  low = record { number = pos 20; by = literal.Kind 0 0 ∷ literal.AtLeast 0 1 (pos 20) ∷ [] };
  high = record { number = pos 11520; by = literal.AtMost 0 1 (pos 20) ∷ [] };
})
unfolding attributes_of ports_of is_a is_leaf
watts = simp (seen_at_roll, bounds_laws)

-- The output of the supplies is 0 to 1600: these are its bounds, so nothing has to be shown for either.
output : seen_at server at_root 1 0 (sum 2 4) ≡ Between (record { low = plain (pos 0); high = plain (pos 1600) })
unfolding attributes_of ports_of is_a is_leaf
output = simp (seen_at_roll, bounds_laws)

-- The boards are 1 to 8, and nothing has to be shown for either.
boards : seen_at server at_root 1 0 (count 0) ≡ Between (record { low = plain (pos 1); high = plain (pos 8) })
unfolding attributes_of ports_of
boards = simp (seen_at_roll, bounds_laws)

-- Of 24 parts one is made, which is surely one.
parts : seen_at server at_root 1 0 (number_of 0) ≡ Between (record { low = record { number = pos 1; by = literal.Kind 0 0 ∷ [] }; high = plain (pos 24) })
unfolding is_a
parts = simp (seen_at_roll, bounds_laws)

-- The bus is sas: open where both words are left, and decided where one is.
bus : map (λ words. seen_at server (server_state (chassis ∷ controller words ∷ [])) 11 1 (is_word 5 1)) ((0 ∷ 1 ∷ []) ∷ (1 ∷ []) ∷ (0 ∷ []) ∷ [])
    ≡ Truth Open
    ∷ Truth (True (literal.AtLeast 1 5 (pos 1) ∷ literal.AtMost 1 5 (pos 1) ∷ []))
    ∷ Truth (False (literal.ValueIsNot 1 5 (pos 1) ∷ [])) ∷ []
bus = simp (seen_at_roll)
