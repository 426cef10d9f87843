-- What is added up over made instances, and what each of them adds.
use Rattle.std.specs.Prelude.{◌≢◌, ℕ, ℤ, pos, ◌+ℤ◌, ◌*ℤ◌, IsSome, List, map, if◌then◌else◌}
use Rattle.std.specs.Int.{int_min, int_max}
use Rattle.instance_set.specs.InstanceSets.{is_member}
use Rattle.port_wildcards.specs.declared.port_domain.PortDomain.{PortDomain}
use Rattle.prod_model.specs.declared.model.Model.{Model}
use Rattle.prod_model.specs.ExprBounds.{sum_of}
use Rattle.state_space.specs.State.{State, domain_at, low_at, high_at}
use Rattle.state_values.specs.declared.interval.Interval.{Interval}
use Rattle.state_values.specs.declared.interval.Ends.{Ends}
use Rattle.state_values.specs.declared.kleene.Kleene.{Kleene}
use Rattle.state_values.specs.declared.kleene.Kleene.TheVariants as kleene
use Rattle.state_values.specs.declared.shares.Added.{Added}
use Rattle.state_values.specs.declared.shares.Added.TheVariants.{Links, LinksUnder, LinkedValues, Instances, Values}
use Rattle.state_values.specs.declared.sums.Unmade.{Unmade}
use Rattle.state_values.specs.Sights.{made_numbers, is_surely_under, is_maybe_under, under_type, one_if}
use Rattle.state_values.specs.Told.{told}

-- What an instance adds to a sum that it may be counted in: the whole where it is, and nothing
-- where it isn't. Where that is open it may also be nothing.
abbrev pub share : Kleene → ℤ → ℤ → Interval
share kleene.True low high = record { low = low; high = high }
share kleene.False low high = record { low = pos 0; high = pos 0 }
share kleene.Open low high = record { low = int_min (pos 0) low; high = int_max (pos 0) high }

-- a port links a made instance
abbrev pub linked_in : PortDomain → ℕ → Kleene
linked_in q j =
    if is_member q.required j then kleene.True
    else (if is_member q.possible j then kleene.Open else kleene.False)

-- it links one that may be under the target
abbrev pub linked_at : Model → State → PortDomain → ℕ → ℕ → Kleene
linked_at m s q target j = if is_maybe_under m s target j then linked_in q j else kleene.False

-- what a made instance adds
abbrev pub share_of : Model → State → Added → ℕ → Interval
share_of m s (Links q) j = share (linked_in q j) (pos 1) (pos 1)
share_of m s (LinksUnder q u) j =
    share (linked_in q j) (one_if (is_surely_under m s u j)) (one_if (is_maybe_under m s u j))
share_of m s (LinkedValues q target a) j =
    share (linked_at m s q target j) (low_at s j a) (high_at s j a)
share_of m s (Instances u) j = share (told (under_type m s u j)) (pos 1) (pos 1)
share_of m s (Values u a) j =
    share (told (under_type m s u j)) (low_at s j a) (high_at s j a)

-- what the instances of a list add together
abbrev pub shares_sum : Model → State → Added → List ℕ → Ends
shares_sum m s t js = record {
  low = sum_of (map (λ j. (share_of m s t j).low) js);
  high = sum_of (map (λ j. (share_of m s t j).high) js);
}

-- what all made instances and the rest add
abbrev pub tally_ends : Model → State → Added → Unmade → Ends
tally_ends m s t r = let sum = shares_sum m s t (made_numbers s) in record {
  low = sum.low +ℤ int_min (pos r.fewest *ℤ r.low) (pos r.most *ℤ r.low);
  high = sum.high +ℤ int_max (pos r.fewest *ℤ r.high) (pos r.most *ℤ r.high);
}

-- a made instance that may be counted has the value
abbrev pub HasValues : Model → State → Added → ℕ → Type 0
HasValues m s (LinkedValues q target a) j =
    linked_at m s q target j ≢ kleene.False → IsSome (domain_at s j a)
HasValues m s (Values u a) j =
    told (under_type m s u j) ≢ kleene.False → IsSome (domain_at s j a)
HasValues m s added j = Unit {0}
