-- Places of links as triples of numbers: the instance, the port and the place there.
use Rattle.std.proofs.Common.{◌≡◌, ap}
use Rattle.base_laws.proofs.Triples.{Triple}
use Rattle.config_value.specs.Links.{LinkPlace}

abbrev pub triple_of : LinkPlace → Triple
triple_of l = record { first = l.from; second = l.port; third = l.place }

abbrev pub link_place : Triple → LinkPlace
link_place t = record { from = t.first; port = t.second; place = t.third }

-- places of one triple are the same
pub same_link_place : (a b : LinkPlace) → triple_of a ≡ triple_of b → a ≡ b
same_link_place a b same = ap link_place same
