-- The size of a state: how much it leaves open.
use Rattle.std.specs.Prelude.{ℕ, ◌+◌, ◌-◌, ◌*◌, length}
use Rattle.std.specs.Option.{option_map_or}
use Rattle.std.specs.List.{sum_by}
use Rattle.prod_model.specs.declared.model.Model.{Model}
use Rattle.state_space.specs.Made.{MadeInstance}
use Rattle.state_space.specs.Values.{count_of}
use Rattle.state_space.specs.Ports.{open_links}
use Rattle.state_space.specs.State.{State, number_made}

-- more than the size of an instance is, and of what a new one adds to the ports of all others
abbrev pub size_per_instance : ℕ
size_per_instance = 1000000000

-- its possible types, the values of its domains, and what its ports leave open
abbrev pub size_of_made : MadeInstance → ℕ
size_of_made x =
    length x.kinds + sum_by (λ d. option_map_or count_of d 0) x.domains
    + sum_by (λ q. option_map_or open_links q 0) x.ports

-- The size of a state: that of its made instances, and so much for each that may still be made.
unfoldable pub size_of : Model → State → ℕ
size_of m s =
    size_per_instance * (m.instances - number_made s) + sum_by size_of_made s.made
