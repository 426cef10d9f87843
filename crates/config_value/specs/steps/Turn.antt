-- Whose turn it is to be mentioned, as links are read in order: the lowest instance, from 1 on,
-- that none so far leads to.
use Rattle.std.specs.Prelude.{ℕ, ◌+◌, ◌&&◌, ◌||◌, ◌==◌, nat_lt, nat_le, Option, Some, None, List, [], ◌∷◌, map, if◌then◌else◌}
use Rattle.std.specs.Option.{option_and_then}
use Rattle.std.specs.List.{flat_map, enumerate_from}
use Rattle.config_value.specs.declared.configuration.Instance.{Instance}
use Rattle.config_value.specs.Numbered.{Link}

-- the links of one port of instance i
abbrev pub port_links : ℕ → List ℕ → List Link
port_links i links = map (λ j. record { from = i; to = j }) links

-- the links of instance i, port by port
abbrev pub instance_links : ℕ → List (List ℕ) → List Link
instance_links i ports = flat_map (port_links i) ports

-- the links of instances that are numbered from i on
abbrev pub links_from : ℕ → List Instance → List Link
links_from i c = flat_map (λ e. instance_links e.0 e.1.links) (enumerate_from i c)

-- The turn after one more link, or nothing where that link is out of turn.
-- Of `count` instances: a link to a lower one, or to none of them, is passed over.
abbrev pub turn_after_link : ℕ → ℕ → Link → Option ℕ
turn_after_link count turn l =
    if nat_lt l.to turn || nat_le count l.to then Some turn
    else (if (l.to == turn) && nat_lt l.from turn then Some (turn + 1) else None)

-- the turn after the links, or nothing where one is out of turn
abbrev pub turn_after : ℕ → ℕ → List Link → Option ℕ
turn_after count turn [] = Some turn
turn_after count turn (l ∷ ls) =
    option_and_then (λ t. turn_after count t ls) (turn_after_link count turn l)
