-- Tests of whether a declaration narrows that of its name in the nearest ancestor that has one.
use Rattle.std.specs.Prelude.{ℕ, Bool, true, false, ◌&&◌, nat_le}
use Rattle.std.specs.Option.{option_map_or}
use Rattle.std.specs.List.{find}
use Rattle.prod_model.specs.declared.model.Model.{Model}
use Rattle.prod_model.specs.declared.model.AttrDecl.{AttrDecl}
use Rattle.prod_model.specs.declared.model.PortDecl.{PortDecl}
use Rattle.prod_model.specs.Forest.{is_a}
use Rattle.prod_model.specs.Names.{same_text}
use Rattle.prod_model.specs.Valid.{narrows_domain, same_kind}
use Rattle.type_taxonomy.specs.Nearest.{nearest}

-- the first port is of the second one's kind, with its pair within and its target under that one's
abbrev pub lies_within : Model → PortDecl → PortDecl → Bool
lies_within m p q =
    same_kind p.kind q.kind && nat_le q.low p.low && nat_le p.high q.high
    && is_a m p.target q.target

-- no ancestor declares the name; or the nearest one that does declares it as an attribute, whose
-- domain the attribute's lies within
abbrev pub attribute_narrows_nearest : Model → ℕ → AttrDecl → Bool
attribute_narrows_nearest m t a =
    option_map_or (λ d. option_map_or (λ b. narrows_domain a.domain b.domain)
    (find (λ b. same_text b.name a.name) d.attributes) false) (nearest m.types t a.name) true

-- likewise for a port
abbrev pub port_narrows_nearest : Model → ℕ → PortDecl → Bool
port_narrows_nearest m t p =
    option_map_or (λ d. option_map_or (lies_within m p)
    (find (λ q. same_text q.name p.name) d.ports) false) (nearest m.types t p.name) true
