-- Going back: the old values of a log put back, the latest first.
use Rattle.std.specs.Prelude.{◌≡◌, ℕ, ◌-◌, List, [], ◌∷◌, ◌++◌, take, if◌then◌else◌}
use Rattle.std.specs.declared.option.Option.{Option}
use Rattle.std.specs.Option.{option_map_or}
use Rattle.std.specs.List.{flat_map, enumerate_from}
use Rattle.state_space.specs.Values.{Values}
use Rattle.state_space.specs.Ports.{PortState, is_closed}
use Rattle.state_space.specs.State.{State, number_made, with_kinds, with_domain, with_port}

-- What a change replaced: the possible types of an instance; the values of one of its attributes,
-- or what one of its ports may link, by the id; or that the last instance was not made.
pub data OldValue : Type 0 where
  Kinds : ℕ → List ℕ → OldValue
  Domain : ℕ → ℕ → Values → OldValue
  Port : ℕ → ℕ → PortState → OldValue
  Made : OldValue

-- one old value stands in its place again; after `Made` the last instance is no longer made
abbrev pub put_back : OldValue → State → State
put_back (Kinds i kinds) s = with_kinds i kinds s
put_back (Domain i a d) s = with_domain i a d s
put_back (Port i p q) s = with_port i p q s
put_back Made s = record s { made = take (number_made s - 1) s.made }

-- all of them, the last of the list first
abbrev pub undone : List OldValue → State → State
undone [] s = s
undone (o ∷ os) s = put_back o (undone os s)

-- the log has entries more, with which the old state comes back
pub record Logs (old new : State) (log longer : List OldValue) : Type 0 where
  pub entries : List OldValue
  pub appended : longer ≡ log ++ entries
  pub back : undone entries new ≡ old

-- what a port of instance i may link, unless it is closed: a generation leaves closed ports
abbrev pub old_port : ℕ → ℕ × Option PortState → List OldValue
old_port i e = option_map_or (λ q. if is_closed q then [] else Port i e.0 q ∷ []) e.1 []

-- What a generation replaces: the ports of the instances made before, and then that the last
-- instance was not made.
abbrev pub generation_log : State → List OldValue
generation_log s =
    flat_map (λ e. flat_map (old_port e.0) (enumerate_from 0 e.1.ports)) (enumerate_from 0 s.made)
    ++ Made ∷ []
