-- Ports that are each other's inverse, and each fault of inverses alone, computed.
use Rattle.std.specs.Prelude.{◌≡◌, ℕ, List, [], ◌∷◌, codes, map, Some, None, refl}
use Rattle.prod_model.specs.declared.model.Model.{Model}
use Rattle.prod_model.specs.declared.model.PortDecl.{PortDecl}
use Rattle.prod_model.specs.Taxonomy.{ports_of, ports_at, inverse_of}
use Rattle.prod_model.proofs.Forms.{part, shared, with_inverse, root_type, subtype}
use Rattle.prod_model.proofs.ValidExamples.{broken, of_types}

-- a rack holds up to two cards, and a card knows the rack that it is in
abbrev cards : PortDecl
cards = with_inverse (codes "home") (part (codes "cards") 1 0 2)

abbrev home : PortDecl
home = with_inverse (codes "cards") (shared (codes "home") 0 1 1)

-- Rack and Card with these ports, and Bay under Rack with these
abbrev racks : PortDecl → PortDecl → List PortDecl → Model
racks of_rack of_card of_bay =
    of_types (root_type (codes "Rack") [] (of_rack ∷ []) ∷ root_type (codes "Card") [] (of_card ∷ []) ∷ subtype (codes "Bay") 0 [] of_bay ∷ [])

right : broken (racks cards home []) ≡ []
unfolding broken
right = refl

-- A narrowing doesn't name an inverse, and keeps it.
narrowed : broken (racks cards home (part (codes "cards") 1 1 1 ∷ [])) ≡ []
unfolding broken
narrowed = refl

inverses_of_types : map (λ t. map (λ p. p.inverse) (ports_at (racks cards home (part (codes "cards") 1 1 1 ∷ [])) t)) (0 ∷ 1 ∷ 2 ∷ [])
    ≡ (Some 1 ∷ []) ∷ (Some 0 ∷ []) ∷ (Some 1 ∷ []) ∷ []
unfolding ports_of inverse_of
inverses_of_types = refl

-- A port of kind `use` may be its own inverse.
abbrev peers : PortDecl
peers = with_inverse (codes "peers") (shared (codes "peers") 0 0 2)

its_own : broken (of_types (root_type (codes "Node") [] (peers ∷ []) ∷ [])) ≡ []
unfolding broken
its_own = refl

inverse_of_its_own : map (λ p. p.inverse) (ports_at (of_types (root_type (codes "Node") [] (peers ∷ []) ∷ [])) 0) ≡ Some 0 ∷ []
unfolding ports_of inverse_of
inverse_of_its_own = refl

-- ---- the faults

abbrev wrong : List (List ℕ)
wrong = codes "right inverses" ∷ []

-- A narrowing names an inverse, be it the one that it has.
narrowing_with_inverse : map (λ name. broken (racks cards home (with_inverse name (part (codes "cards") 1 1 1) ∷ []))) (codes "home" ∷ codes "other" ∷ [])
    ≡ wrong ∷ wrong ∷ []
unfolding broken
narrowing_with_inverse = refl

-- The target has no port of that name: there is none, or it has another type's.
no_port_of_that_name : map (λ name. broken (racks (with_inverse name (part (codes "cards") 1 0 2)) (shared (codes "home") 0 1 1) [])) (codes "other" ∷ codes "cards" ∷ [])
    ≡ wrong ∷ wrong ∷ []
unfolding broken
no_port_of_that_name = refl

-- The port of that name names no port, or another one, or one of that name at another target.
not_named_back : broken (racks cards (shared (codes "home") 0 1 1) []) ≡ wrong
unfolding broken
not_named_back = refl

another_named_back : broken (of_types (
    root_type (codes "Rack") [] (cards ∷ with_inverse (codes "home") (part (codes "spare") 1 0 2) ∷ [])
    ∷ root_type (codes "Card") [] (home ∷ [])
    ∷ [])) ≡ wrong
unfolding broken
another_named_back = refl

back_at_another_target : broken (of_types (
    root_type (codes "Rack") [] (cards ∷ [])
    ∷ root_type (codes "Card") [] (with_inverse (codes "cards") (shared (codes "home") 2 1 1) ∷ [])
    ∷ root_type (codes "Shelf") [] (cards ∷ [])
    ∷ [])) ≡ wrong
unfolding broken
back_at_another_target = refl

-- Both are parts, be it one port.
both_parts : broken (racks cards (with_inverse (codes "cards") (part (codes "home") 0 1 1)) []) ≡ wrong
unfolding broken
both_parts = refl

own_part : broken (of_types (root_type (codes "Node") [] (with_inverse (codes "next") (part (codes "next") 0 0 2) ∷ []) ∷ [])) ≡ wrong
unfolding broken
own_part = refl
