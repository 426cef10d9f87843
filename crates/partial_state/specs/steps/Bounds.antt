-- The tests of narrowings, as the code names them.
use Rattle.std.specs.Prelude.{ℤ, ◌<◌, int_le, nat_le, Bool, not}
use Rattle.state_space.specs.Sets.{has_number}
use Rattle.state_space.specs.Ports.{PortLinks}
use Rattle.partial_state.specs.declared.bounds.ValueBound.{ValueBound}
use Rattle.partial_state.specs.declared.bounds.ValueBound.TheVariants.{AtMost, AtLeast}
use Rattle.std.specs.Ordering.{int_eq}
use Rattle.partial_state.specs.declared.bounds.ValueCut.{ValueCut}
use Rattle.partial_state.specs.declared.bounds.ValueCut.TheVariants.{UpTo, From, Without}
use Rattle.partial_state.specs.declared.bounds.LinkBound.{LinkBound}
use Rattle.partial_state.specs.declared.bounds.LinkBound.TheVariants.{Requires, Excludes, FreshAtMost, FreshAtLeast}

-- the values within a bound
abbrev pub is_within : ValueBound → ℤ → Bool
is_within (AtMost n) v = int_le v n
is_within (AtLeast n) v = int_le n v

-- the links within a bound
abbrev pub links_within : LinkBound → PortLinks → Bool
links_within (Requires j) l = has_number l.to_made j
links_within (Excludes j) l = not (has_number l.to_made j)
links_within (FreshAtMost n) l = nat_le l.later n
links_within (FreshAtLeast n) l = nat_le n l.later

-- an instance that it names has one of the 256 numbers
abbrev pub IsBelow : LinkBound → Type 0
IsBelow (Requires j) = j < 256
IsBelow (Excludes j) = j < 256
IsBelow (FreshAtMost n) = Unit {0}
IsBelow (FreshAtLeast n) = Unit {0}

-- the values that a cut leaves
abbrev pub is_left : ValueCut → ℤ → Bool
is_left (UpTo n) v = int_le v n
is_left (From n) v = int_le n v
is_left (Without n) v = not (int_eq v n)
