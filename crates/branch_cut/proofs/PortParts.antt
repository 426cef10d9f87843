-- What is left open of a stored port.
use Rattle.std.proofs.Common.{◌≡◌, ℕ, ◌≤◌, false, not, ◌&&◌, refl, ap, sym, ◌∙◌, Some, None, le-leb, zero-le}
use Rattle.std.specs.Prelude.{IsTrue}
use Rattle.std.specs.Option.{option_map_or}
use Rattle.std.proofs.lemmas.Bool.{and_parts, and_from, not-true, true_from_ne_false, not_from_false}
use Rattle.instance_set.specs.declared.set.InstanceSet.{InstanceSet}
use Rattle.instance_set.specs.InstanceSets.{is_member, IsLeastFrom}
use Rattle.port_wildcards.specs.declared.port_domain.PortDomain.{PortDomain}
use Rattle.config_value.specs.declared.literal.Literal.TheVariants as literal
use Rattle.state_space.specs.Sets.{has_number}
use Rattle.state_space.specs.State.{State, port_at}
use Rattle.state_space.proofs.PortLaws.{all_from_has}
use Rattle.partial_state.specs.Views.{state_of_port}
use Rattle.partial_state.specs.Masks.{instances_of}
use Rattle.partial_state.proofs.PortNarrowings.{has_instance}
use Rattle.branch_cut.specs.steps.Fixed.{is_decided, is_decided_at, SplitsLinks}

module _ (s : State) (i p : ℕ) (q : PortDomain) (left : InstanceSet) (is : port_at s i p ≡ Some (state_of_port q))
    (lefts : (j : ℕ) → is_member left j ≡ (is_member q.possible j && not (is_member q.required j))) where
  -- a possible link that is not required splits the state
  pub splits_links : (j : ℕ) → IsLeastFrom left 0 (Some j) → SplitsLinks s i p (record { first = literal.Linked i p j; second = literal.NotLinked i p j })
  splits_links j least =
      let both = and_parts (is_member q.possible j) (not (is_member q.required j)) (sym (lefts j) ∙ least.1) in
      record {
        port = state_of_port q;
        there = is;
        to = j;
        possible = has_instance q.possible j ∙ both.0;
        not_required = has_instance q.required j ∙ not-true (is_member q.required j) both.1;
        splits = refl;
      }

  -- where there is none, and the bounds are equal, the port is decided
  pub port_decided : IsLeastFrom left 0 None → q.fresh_high ≤ q.fresh_low → IsTrue (is_decided_at s i p)
  port_decided none bounds =
      ap (λ o. option_map_or is_decided o false) is
      ∙ and_from _ _
      (all_from_has (has_number (instances_of q.required)) (instances_of q.possible) (λ j there.
      has_instance q.required j ∙ required j (sym (has_instance q.possible j) ∙ there)))
      (le-leb q.fresh_high q.fresh_low bounds)
    where
      required : (j : ℕ) → IsTrue (is_member q.possible j) → IsTrue (is_member q.required j)
      required j possible = true_from_ne_false (is_member q.required j) (λ out. none j zero-le (lefts j ∙ and_from _ _ possible (not_from_false _ out)))
