-- The instances of sets, as the literals of ports tell them.
use Rattle.std.proofs.Common.{◌≡◌, ◌≤◌, ℕ, length, not, ap, sym, arith}
use Rattle.std.specs.List.{filter, range_with_len}
use Rattle.std.proofs.lemmas.List.Sums.{length-filter, count_by-le-length}
use Rattle.std.proofs.lemmas.List.FromFn.{length-range_with_len}
use Rattle.base_laws.proofs.Lists.{filter_same}
use Rattle.instance_set.specs.declared.set.InstanceSet.{InstanceSet}
use Rattle.instance_set.specs.InstanceSets.{is_member, members}
use Rattle.state_space.specs.Sets.{has_number}
use Rattle.partial_state.specs.Masks.{instances_of}
use Rattle.partial_state.proofs.PortNarrowings.{has_instance}

-- a set has at most 256 members
pub few_members : (s : InstanceSet) → length (members s) ≤ 256
few_members s =
    omega (arith, length-filter (is_member s) (range_with_len 0 256), count_by-le-length (is_member s) (range_with_len 0 256), length-range_with_len 0 256)

-- the numbers that a set lacks
pub lacked : (s : InstanceSet) (n : ℕ) → filter (λ j. not (is_member s j)) (range_with_len 0 n) ≡ filter (λ j. not (has_number (instances_of s) j)) (range_with_len 0 n)
lacked s n = filter_same (λ j. not (is_member s j)) (λ j. not (has_number (instances_of s) j)) (λ j. ap not (sym (has_instance s j))) (range_with_len 0 n)
