-- The key start of a state: numbers that come before, or begin, the key of each configuration that
-- the state covers.
use Rattle.std.specs.Prelude.{◌≡◌, ◌≢◌, ℕ, ℤ, pos, List, [], ◌∷◌, ◌++◌, map, slice_index_or, if◌then◌else◌}
use Rattle.std.specs.Option.{option_map_or}
use Rattle.std.specs.List.{range_with_len}
use Rattle.std.specs.declared.cmp.Ordering.{Ordering}
use Rattle.std.specs.declared.cmp.Ordering.TheVariants.{Greater}
use Rattle.std.specs.Ordering.{int_cmp}
use Rattle.std.specs.Cmp.Lexicographic.{slice_cmp}
use Rattle.prod_model.specs.declared.model.Model.{Model}
use Rattle.prod_model.specs.declared.model.PortAt.{PortAt}
use Rattle.prod_model.specs.Taxonomy.{attributes_at, ports_at}
use Rattle.prod_model.specs.Valid.{IsValid}
use Rattle.config_value.specs.declared.configuration.Instance.{Instance}
use Rattle.config_value.specs.Rank.{port_key, key, key_order}
use Rattle.state_space.specs.State.{State, IsState, number_made, kinds_at, port_at, low_at}
use Rattle.state_space.specs.Whole.{is_settled_port}
use Rattle.state_space.specs.Covers.{Covers}

-- For each port of instance i the number of its links and the links, and then what follows. The
-- first port that may link a later instance, or need not link each possible one, ends the list
-- before it.
abbrev pub ports_start : State → ℕ → List ℤ → List PortAt → List ℤ
ports_start s i later [] = later
ports_start s i later (p ∷ ps) =
    option_map_or
    (λ q. if is_settled_port q then port_key q.required ++ ports_start s i later ps else [])
    (port_at s i p.id) []

-- Of instance i, where it is of one possible type: the type's number, the least value of each
-- attribute, the ports, and what follows. Of several types, which ascend, the least number alone.
abbrev pub instance_start : Model → State → ℕ → List ℤ → List ℕ → List ℤ
instance_start m s i later (t ∷ []) =
    pos t ∷ (map (λ a. low_at s i a.id) (attributes_at m t) ++ ports_start s i later (ports_at m t))
instance_start m s i later kinds = pos (slice_index_or kinds 0 0) ∷ []

-- the key start of instances in turn
abbrev pub instances_start : Model → State → List ℕ → List ℤ
instances_start m s [] = []
instances_start m s (i ∷ is) = instance_start m s i (instances_start m s is) (kinds_at s i)

-- The key start goes through the made instances in order.
unfoldable pub key_start : Model → State → List ℤ
key_start m s = instances_start m s (range_with_len 0 (number_made s))

-- the key start beside a configuration's key, number by number; a proper prefix comes first
abbrev pub key_start_order : Model → State → List Instance → Ordering
key_start_order m s c = slice_cmp int_cmp (key_start m s) (key c)

-- The key of a covered configuration is never before the key start.
abbrev pub KeyStartHolds : Type 0
KeyStartHolds =
    (m : Model) (s : State) (c : List Instance) → IsValid m → IsState m s → Covers m s c
    → key_start_order m s c ≢ Greater

-- Where the key start comes after a key, so does the key of each covered configuration.
abbrev pub KeyStartDecides : Type 0
KeyStartDecides =
    (m : Model) (s : State) (c d : List Instance) → IsValid m → IsState m s → Covers m s c
    → key_start_order m s d ≡ Greater → key_order c d ≡ Greater
