-- What a port may link: made instances, and instances that are not made yet.
use Rattle.std.specs.Prelude.{ℕ, ◌+◌, ◌-◌, Bool, not, ◌&&◌, ◌==◌, nat_le, nat_lt, List, if◌then◌else◌}
use Rattle.std.specs.List.{list_all, filter, count_by}
use Rattle.prod_model.specs.Limits.{is_between}
use Rattle.config_value.specs.Shaped.{ascends}
use Rattle.domain_store.specs.declared.change.Change.{Change}
use Rattle.state_space.specs.Sets.{has_number, with_number, Reduces}

-- What is known of a port's links: the made instances that it must link, those that it may link,
-- and how many later ones it links at least and at most.
pub record PortState : Type 0 where
  pub required : List ℕ
  pub possible : List ℕ
  pub fresh_low : ℕ
  pub fresh_high : ℕ

-- the links of a port: the made instances that it links, and how many later ones
pub record PortLinks : Type 0 where
  pub to_made : List ℕ
  pub later : ℕ

-- links, parted at the number of instances made
abbrev pub parted : ℕ → List ℕ → PortLinks
parted made links = record {
  to_made = filter (λ j. nat_lt j made) links;
  later = count_by (nat_le made) links;
}

-- The required instances are linked, only possible ones are, and as many later ones as the bounds
-- allow.
abbrev pub allows : PortState → PortLinks → Bool
allows q l =
    list_all (has_number l.to_made) q.required && list_all (has_number q.possible) l.to_made
    && is_between q.fresh_low q.fresh_high l.later

-- it links no later instance
abbrev pub is_closed : PortState → Bool
is_closed q = q.fresh_high == 0

-- both sets ascend, what is required is possible, and the bounds are in order
abbrev pub is_port : PortState → Bool
is_port q =
    ascends q.required && ascends q.possible && list_all (has_number q.possible) q.required
    && nat_le q.fresh_low q.fresh_high

-- how much is open: the possible links that are not required, and what lies between the bounds
abbrev pub open_links : PortState → ℕ
open_links q =
    count_by (λ j. not (has_number q.required j)) q.possible + (q.fresh_high - q.fresh_low)

-- a narrowing of what a port may link
abbrev pub NarrowsLinks : (PortLinks → Bool) → Change → PortState → PortState → Type 0
NarrowsLinks = Reduces allows open_links

-- a new instance that this port must link, in the place of one that was not made yet
abbrev pub made_here : ℕ → PortState → PortState
made_here j q = record {
  required = with_number j q.required;
  possible = with_number j q.possible;
  fresh_low = q.fresh_low - 1;
  fresh_high = q.fresh_high - 1;
}

-- a new instance that this port may link, unless it is closed
abbrev pub made_elsewhere : ℕ → PortState → PortState
made_elsewhere j q =
    if is_closed q then q
    else record q { possible = with_number j q.possible; fresh_low = q.fresh_low - 1 }
