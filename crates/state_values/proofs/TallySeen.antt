-- What instances are seen to add together is what their shares add.
use Rattle.std.proofs.Common.{◌≡◌, ℕ, ℤ, pos, ◌+ℤ◌, ◌*ℤ◌, ◌-◌, ◌∙◌, ap, ap₂, Bool, true, false, List, map, Some, refl}
use Rattle.std.proofs.Math.Path.{fun_ext}
use Rattle.std.specs.Prelude.{if◌then◌else◌}
use Rattle.std.specs.Int.{int_min, int_max}
use Rattle.std.specs.Option.{option_map_or}
use Rattle.std.proofs.lemmas.Simd.{map-map}
use Rattle.port_wildcards.specs.declared.port_domain.PortDomain.{PortDomain}
use Rattle.prod_model.specs.declared.model.Model.{Model}
use Rattle.prod_model.specs.ExprBounds.{sum_of}
use Rattle.config_value.specs.declared.literal.Literal.{Literal}
use Rattle.state_space.specs.Ports.{PortState}
use Rattle.state_space.specs.Sets.{has_number}
use Rattle.state_space.specs.State.{State, number_made, port_at, low_at, high_at}
use Rattle.partial_state.specs.Views.{state_of_port}
use Rattle.partial_state.proofs.PortNarrowings.{has_instance}
use Rattle.state_values.specs.declared.interval.Interval.{Interval}
use Rattle.state_values.specs.declared.interval.Ends.{Ends}
use Rattle.state_values.specs.declared.kleene.Kleene.TheVariants as kleene
use Rattle.state_values.specs.declared.shares.Added.{Added}
use Rattle.state_values.specs.declared.shares.Added.TheVariants.{Links, LinksUnder, LinkedValues, Instances, Values}
use Rattle.state_values.specs.declared.sums.Unmade.{Unmade}
use Rattle.state_values.specs.Kleene.{Kleene, True, False, Open}
use Rattle.state_values.specs.Ranges.{Range, ranges_sum}
use Rattle.state_values.specs.Tallies.{Share, Rest, share_low, share_high, share_range, tally}
use Rattle.state_values.specs.Sights.{made_numbers, no_port, port_state, is_surely_under, is_maybe_under, under_type, linked, one, one_if, one_under, value_under, linked_under, least_at, greatest_at, or_zero, fresh_rest, unmade_rest}
use Rattle.state_values.specs.Told.{told}
use Rattle.state_values.specs.steps.Ends.{ends_of}
use Rattle.state_values.specs.steps.Added.{share, linked_in, linked_at, share_of, shares_sum, tally_ends}
use Rattle.state_values.proofs.FormSeen.{low_of_sum, high_of_sum}

-- ---- shares

-- the two numbers of a share
abbrev pub share_ends : Share → Interval
share_ends h = record { low = (share_low h).number; high = (share_high h).number }

-- they are told by whether it is counted, and by what it adds where it is
pub share_told : (counted : Kleene) (low high least greatest : ℤ) (at_least at_most : ℤ → List Literal)
    → share_ends (record { counted = counted; low = low; high = high; least = least; greatest = greatest; at_least = at_least; at_most = at_most }) ≡ share (told counted) low high
share_told (True by) low high least greatest at_least at_most = refl
share_told (False by) low high least greatest at_least at_most = refl
share_told Open low high least greatest at_least at_most = refl

pub share_is : (h : Share) → share_ends h ≡ share (told h.counted) h.low h.high
share_is h = share_told h.counted h.low h.high h.least h.greatest h.at_least h.at_most

-- ---- links

told_choice : (a b : Bool) (by other : List Literal) → told (if a then True by else (if b then Open else False other)) ≡ (if a then kleene.True else (if b then kleene.Open else kleene.False))
told_choice true b by other = refl
told_choice false true by other = refl
told_choice false false by other = refl

module _ (s : State) (i p : ℕ) (q : PortDomain) (at : port_at s i p ≡ Some (state_of_port q)) where
  -- what the port may link, as it is stored
  pub port_is : port_state s i p ≡ state_of_port q
  port_is = ap (λ o. option_map_or (λ q. q) o no_port) at

  -- the stored sets tell what is linked
  pub linked_told : (j : ℕ) → told (linked s i p j) ≡ linked_in q j
  linked_told j =
      told_choice (has_number (port_state s i p).required j) (has_number (port_state s i p).possible j) _ _
      ∙ ap₂ (λ a b. if a then kleene.True else (if b then kleene.Open else kleene.False))
      (ap (λ (x : PortState). has_number x.required j) port_is ∙ has_instance q.required j)
      (ap (λ (x : PortState). has_number x.possible j) port_is ∙ has_instance q.possible j)

  target_told : (m : Model) (target j : ℕ) (b : Bool) (by : List Literal) → told (if b then linked s i p j else False by) ≡ (if b then linked_in q j else kleene.False)
  target_told m target j true by = linked_told j
  target_told m target j false by = refl

  pub linked_at_told : (m : Model) (target j : ℕ) → told (linked_under m s i p target j) ≡ linked_at m s q target j
  linked_at_told m target j = target_told m target j (is_maybe_under m s target j) _

-- ---- all made instances and the rest

module _ (m : Model) (s : State) where
  -- what the rest adds, beside what made instances do
  abbrev pub with_rest : Ends → ℕ → ℕ → ℤ → ℤ → Ends
  with_rest sum fewest most low high = record {
    low = sum.low +ℤ int_min (pos fewest *ℤ low) (pos most *ℤ low);
    high = sum.high +ℤ int_max (pos fewest *ℤ high) (pos most *ℤ high);
  }

  module _ (f : ℕ → Share) (added : Added) (same : (j : ℕ) → share_ends (f j) ≡ share_of m s added j) where
    abbrev shared : List ℕ → List Range
    shared js = map share_range (map f js)

    low_same : (js : List ℕ) → (ranges_sum (shared js)).low.number ≡ (shares_sum m s added js).low
    low_same js =
        ap (λ rs. (ranges_sum rs).low.number) (map-map share_range f js)
        ∙ low_of_sum (λ j. share_range (f j)) js
        ∙ ap (λ (g : ℕ → ℤ). sum_of (map g js)) (fun_ext (λ j. ap (λ (x : Interval). x.low) (same j)))

    high_same : (js : List ℕ) → (ranges_sum (shared js)).high.number ≡ (shares_sum m s added js).high
    high_same js =
        ap (λ rs. (ranges_sum rs).high.number) (map-map share_range f js)
        ∙ high_of_sum (λ j. share_range (f j)) js
        ∙ ap (λ (g : ℕ → ℤ). sum_of (map g js)) (fun_ext (λ j. ap (λ (x : Interval). x.high) (same j)))

    -- shares that are those of what is added
    pub shares_same : (rest : Rest) → ends_of (tally (map f (made_numbers s)) rest)
        ≡ with_rest (shares_sum m s added (made_numbers s)) rest.fewest rest.most rest.low rest.high
    shares_same rest =
        ap₂ (λ a b. with_rest (record { low = a; high = b }) rest.fewest rest.most rest.low rest.high) (low_same (made_numbers s)) (high_same (made_numbers s))

  -- ---- instances under a type

  -- the instances that may still be made
  abbrev pub unmade : ℤ → ℤ → Unmade
  unmade low high = record { fewest = 0; most = m.instances - number_made s; low = low; high = high }

  pub number_tallied : (u : ℕ) → ends_of (tally (map (λ j. one (under_type m s u j)) (made_numbers s)) (unmade_rest m s (pos 1) (pos 1)))
      ≡ tally_ends m s (Instances u) (unmade (pos 1) (pos 1))
  number_tallied u =
      shares_same (λ j. one (under_type m s u j)) (Instances u) (λ j. share_is (one (under_type m s u j))) (unmade_rest m s (pos 1) (pos 1))

  pub total_tallied : (u a : ℕ) → ends_of (tally (map (λ j. value_under m s u a (under_type m s u j) j) (made_numbers s)) (unmade_rest m s (or_zero (least_at m u a)) (or_zero (greatest_at m u a))))
      ≡ tally_ends m s (Values u a) (unmade (or_zero (least_at m u a)) (or_zero (greatest_at m u a)))
  total_tallied u a =
      shares_same (λ j. value_under m s u a (under_type m s u j) j) (Values u a) (λ j. share_is (value_under m s u a (under_type m s u j) j))
      (unmade_rest m s (or_zero (least_at m u a)) (or_zero (greatest_at m u a)))

  -- ---- links

  module _ (i p : ℕ) (q : PortDomain) (at : port_at s i p ≡ Some (state_of_port q)) where
    -- the links to instances that aren't made yet
    abbrev pub fresh : ℤ → ℤ → Unmade
    fresh low high = record { fewest = q.fresh_low; most = q.fresh_high; low = low; high = high }

    links_same : (f : ℕ → Share) (added : Added) → ((j : ℕ) → share_ends (f j) ≡ share_of m s added j) → (low high : ℤ)
        → ends_of (tally (map f (made_numbers s)) (fresh_rest s i p low high)) ≡ tally_ends m s added (fresh low high)
    links_same f added same low high =
        shares_same f added same (fresh_rest s i p low high)
        ∙ ap (λ (x : PortState). with_rest (shares_sum m s added (made_numbers s)) x.fresh_low x.fresh_high low high) (port_is s i p q at)

    pub count_tallied : ends_of (tally (map (λ j. one (linked s i p j)) (made_numbers s)) (fresh_rest s i p (pos 1) (pos 1))) ≡ tally_ends m s (Links q) (fresh (pos 1) (pos 1))
    count_tallied =
        links_same (λ j. one (linked s i p j)) (Links q)
        (λ j. share_is (one (linked s i p j)) ∙ ap (λ k. share k (pos 1) (pos 1)) (linked_told s i p q at j)) (pos 1) (pos 1)

    pub count_of_tallied : (u : ℕ) (low high : ℤ) → ends_of (tally (map (λ j. one_under m s u (linked s i p j) j) (made_numbers s)) (fresh_rest s i p low high))
        ≡ tally_ends m s (LinksUnder q u) (fresh low high)
    count_of_tallied u low high =
        links_same (λ j. one_under m s u (linked s i p j) j) (LinksUnder q u)
        (λ j. share_is (one_under m s u (linked s i p j) j)
        ∙ ap (λ k. share k (one_if (is_surely_under m s u j)) (one_if (is_maybe_under m s u j))) (linked_told s i p q at j)) low high

    pub sum_tallied : (target a : ℕ) (low high : ℤ)
        → ends_of (tally (map (λ j. value_under m s target a (linked_under m s i p target j) j) (made_numbers s)) (fresh_rest s i p low high))
        ≡ tally_ends m s (LinkedValues q target a) (fresh low high)
    sum_tallied target a low high =
        links_same (λ j. value_under m s target a (linked_under m s i p target j) j) (LinkedValues q target a)
        (λ j. share_is (value_under m s target a (linked_under m s i p target j) j)
        ∙ ap (λ k. share k (low_at s j a) (high_at s j a)) (linked_at_told s i p q at m target j)) low high
