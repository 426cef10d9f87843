-- What shows what made instances and those not made yet add to a sum, a state entails.
use Rattle.std.proofs.Common.{◌≡◌, ℕ, ◌<◌, ◌==◌, ℤ, pos, ◌≤ℤ◌, Bool, true, false, cond, [], ◌∷◌, ◌++◌, map, Some, None, refl, sym, ap, ◌∙◌, subst, arith}
use Rattle.std.specs.Prelude.{IsTrue, int_le, int_lt, slice_get}
use Rattle.std.specs.Int.{int_min, int_max}
use Rattle.std.specs.Option.{option_map_or, option_and_then}
use Rattle.std.specs.Ordering.{int_eq}
use Rattle.std.specs.List.{list_all, list_any}
use Rattle.std.proofs.lemmas.Bool.{false≢true, and_parts}
use Rattle.std.proofs.lemmas.Bool.Decides.{nat_tests}
use Rattle.std.proofs.lemmas.Int.{ints, clamps}
use Rattle.std.proofs.lemmas.Simd.{map-map}
use Rattle.base_laws.proofs.Places.{find_at}
use Rattle.base_laws.proofs.Ranges.{range_with_len_lt}
use Rattle.base_laws.proofs.Tests.{list_any_at, list_any_from}
use Rattle.prod_model.specs.declared.model.Model.{Model}
use Rattle.prod_model.specs.declared.model.AttrAt.{AttrAt}
use Rattle.prod_model.specs.declared.model.AttrDecl.{AttrDecl}
use Rattle.prod_model.specs.declared.model.Domain.{Domain}
use Rattle.prod_model.specs.declared.model.Domain.TheVariants as domain
use Rattle.prod_model.specs.Forest.{is_a}
use Rattle.prod_model.specs.Taxonomy.{attribute_of, attributes_at}
use Rattle.prod_model.specs.Valid.{IsValid, narrows_domain}
use Rattle.prod_model.proofs.FirstDomains.{attribute_within_first}
use Rattle.config_value.specs.declared.literal.Literal.TheVariants as literal
use Rattle.config_value.specs.Literals.{has_attribute}
use Rattle.state_space.specs.Values.{Values, least, greatest}
use Rattle.state_space.specs.Ports.{PortState}
use Rattle.state_space.specs.Made.{MadeInstance, domain_of}
use Rattle.state_space.specs.State.{State, IsState, number_made, low_at, high_at, domain_at, whole_domain, first_attributes, values_of}
use Rattle.state_space.specs.Described.{entails_all}
use Rattle.state_values.specs.Kleene.{Kleene, True, False, Open, is_false}
use Rattle.state_values.specs.Ranges.{End, ranges_sum}
use Rattle.state_values.specs.Tallies.{Share, Rest, shows_low, shows_high, share_low, share_high, share_range, rest_range, tally}
use Rattle.state_values.specs.Sights.{made_numbers, is_surely_under, is_maybe_under, port_state, under_type, linked, least_at, greatest_at, or_zero, one, one_if, one_under, value_under, linked_under, fresh_rest, unmade_rest}
use Rattle.state_values.specs.WholeDomains.{AreDomainsWhole}
use Rattle.state_values.proofs.HeldForms.{IsRanged}
use Rattle.state_values.proofs.ReadsKleene.{TruthEntailed, RangeEntailed, joined, alone, chosen, sum_entailed, sums_entailed}
use Rattle.state_values.proofs.ReadsSights.{IsThere, there, has_attribute_below, kind_entailed, not_kind_entailed, maybe_of_surely, IsPortThere, port_state_is, linked_entailed, fewer_entailed, more_entailed, IsDomainThere, domain_there_of, at_least_entailed, at_most_entailed}

module _ (m : Model) (s : State) where
  -- ---- one instance's share

  -- What shows that it is counted is entailed, and, unless it isn't counted, what shows the numbers
  -- that the state has.
  pub record ShareEntailed (sh : Share) : Type 0 where
    pub counted : TruthEntailed m s sh.counted
    pub lows : is_false sh.counted ≡ false → (n : ℤ) → n ≤ℤ sh.low → int_le n sh.least ≡ false
        → entails_all m s (sh.at_least n)
    pub highs : is_false sh.counted ≡ false → (n : ℤ) → sh.high ≤ℤ n → int_le sh.greatest n ≡ false
        → entails_all m s (sh.at_most n)

  low_shown : (sh : Share) (n : ℤ) → ShareEntailed sh → is_false sh.counted ≡ false → n ≤ℤ sh.low
      → entails_all m s (shows_low sh n)
  low_shown sh n is counted less = by (int_le n sh.least) refl
    where
      by : (b : Bool) → int_le n sh.least ≡ b → entails_all m s (cond b [] (sh.at_least n))
      by true within = refl
      by false beyond = is.lows counted n less beyond

  high_shown : (sh : Share) (n : ℤ) → ShareEntailed sh → is_false sh.counted ≡ false → sh.high ≤ℤ n
      → entails_all m s (shows_high sh n)
  high_shown sh n is counted more = by (int_le sh.greatest n) refl
    where
      by : (b : Bool) → int_le sh.greatest n ≡ b → entails_all m s (cond b [] (sh.at_most n))
      by true within = refl
      by false beyond = is.highs counted n more beyond

  -- what shows an end is entailed
  abbrev EndEntailed : End → Type 0
  EndEntailed e = entails_all m s e.by

  share_low_entailed : (sh : Share) → ShareEntailed sh → EndEntailed (share_low sh)
  share_low_entailed sh is = by sh.counted refl is.counted
    where
      by : (o : Kleene) → sh.counted ≡ o → TruthEntailed m s o → EndEntailed (elim o [
        | True ls ↦ record { number = sh.low; by = cond (int_lt (pos 0) sh.low) (ls ++ shows_low sh sh.low) (shows_low sh sh.low) }
        | False ls ↦ record { number = pos 0; by = cond (int_le (pos 0) sh.least) [] ls }
        | Open ↦ record { number = int_min (pos 0) sh.low; by = shows_low sh (int_min (pos 0) sh.low) }
      ])
      by (True ls) is_true counted =
          let low = low_shown sh sh.low is (ap is_false is_true) (omega (arith, ints)) in
          chosen m s (int_lt (pos 0) sh.low) (ls ++ shows_low sh sh.low) (shows_low sh sh.low)
          (joined m s ls (shows_low sh sh.low) counted low) low
      by (False ls) so counted = chosen m s (int_le (pos 0) sh.least) [] ls refl counted
      by Open is_open counted =
          low_shown sh (int_min (pos 0) sh.low) is (ap is_false is_open) (omega (arith, ints, clamps))

  share_high_entailed : (sh : Share) → ShareEntailed sh → EndEntailed (share_high sh)
  share_high_entailed sh is = by sh.counted refl is.counted
    where
      by : (o : Kleene) → sh.counted ≡ o → TruthEntailed m s o → EndEntailed (elim o [
        | True ls ↦ record { number = sh.high; by = cond (int_lt sh.high (pos 0)) (ls ++ shows_high sh sh.high) (shows_high sh sh.high) }
        | False ls ↦ record { number = pos 0; by = cond (int_le sh.greatest (pos 0)) [] ls }
        | Open ↦ record { number = int_max (pos 0) sh.high; by = shows_high sh (int_max (pos 0) sh.high) }
      ])
      by (True ls) is_true counted =
          let high = high_shown sh sh.high is (ap is_false is_true) (omega (arith, ints)) in
          chosen m s (int_lt sh.high (pos 0)) (ls ++ shows_high sh sh.high) (shows_high sh sh.high)
          (joined m s ls (shows_high sh sh.high) counted high) high
      by (False ls) so counted = chosen m s (int_le sh.greatest (pos 0)) [] ls refl counted
      by Open is_open counted =
          high_shown sh (int_max (pos 0) sh.high) is (ap is_false is_open) (omega (arith, ints, clamps))

  -- ---- all shares and the rest

  pub record RestEntailed (r : Rest) : Type 0 where
    pub more : entails_all m s r.more
    pub fewer : entails_all m s r.fewer

  rest_entailed : (r : Rest) → RestEntailed r → RangeEntailed m s (rest_range r)
  rest_entailed r is = (
    chosen m s (int_eq r.low (pos 0)) [] _ refl (chosen m s (int_lt (pos 0) r.low) r.more r.fewer is.more is.fewer),
    chosen m s (int_eq r.high (pos 0)) [] _ refl (chosen m s (int_lt (pos 0) r.high) r.fewer r.more is.fewer is.more),
  )

  pub tally_entailed : (share : ℕ → Share) (r : Rest)
      → ((j : ℕ) → j < number_made s → ShareEntailed (share j)) → RestEntailed r
      → RangeEntailed m s (tally (map share (made_numbers s)) r)
  tally_entailed share r each rest =
      sum_entailed m s (ranges_sum (map share_range (map share (made_numbers s)))) (rest_range r)
      (subst (λ rs. RangeEntailed m s (ranges_sum rs)) (sym (map-map share_range share (made_numbers s)))
      (sums_entailed m s (λ j. share_range (share j)) (made_numbers s)
      (λ k j at.
      let is = each j (let below = range_with_len_lt 0 (number_made s) k j at in omega (arith, below)) in
      (share_low_entailed (share j) is, share_high_entailed (share j) is))))
      (rest_entailed r rest)

-- an open and a true one are not false, so where a test decides between false and another, it passed
module _ (m : Model) (s : State) (valid : IsValid m) (state : IsState m s) (whole : AreDomainsWhole m s) where
  -- a counted instance adds 1
  pub one_entailed : (o : Kleene) → TruthEntailed m s o → ShareEntailed m s (one o)
  one_entailed o is = record { counted = is; lows = λ so n less beyond. refl; highs = λ so n more beyond. refl }

  -- or 1 where it is under a type
  pub one_under_entailed : (u j : ℕ) (o : Kleene) → j < number_made s → TruthEntailed m s o
      → ShareEntailed m s (one_under m s u o j)
  one_under_entailed u j o below is = record {
    counted = is;
    lows = λ so n less beyond. by_low n (is_surely_under m s u j) refl less beyond;
    highs = λ so n more beyond. by_high n (is_maybe_under m s u j) refl more beyond;
  }
    where
      by_low : (n : ℤ) (b : Bool) → is_surely_under m s u j ≡ b → n ≤ℤ one_if b → int_le n (pos 0) ≡ false
          → entails_all m s (literal.Kind j u ∷ [])
      by_low n true surely less beyond = alone m s (literal.Kind j u) (kind_entailed m s valid state u j below surely)
      by_low n false surely less beyond = absurd (grind (arith, ints))

      by_high : (n : ℤ) (b : Bool) → is_maybe_under m s u j ≡ b → one_if b ≤ℤ n → int_le (pos 1) n ≡ false
          → entails_all m s (literal.NotKind j u ∷ [])
      by_high n true maybe more beyond = absurd (grind (arith, ints))
      by_high n false maybe more beyond = alone m s (literal.NotKind j u) (not_kind_entailed m s valid state u j below maybe)

  -- ---- values under a type

  -- the whole domain of an attribute with a range at a type begins no later and ends no earlier
  record IsWholeRange (a : ℕ) (low high : ℤ) : Type 0 where
    values : Values
    all_values : whole_domain m a ≡ Some values
    low_within : least values ≤ℤ low
    high_within : high ≤ℤ greatest values

  whole_range : (u a : ℕ) (q : AttrAt) → attribute_of m u a ≡ Some q → (r : IsRanged q) → IsWholeRange a r.low r.high
  whole_range u a q found r =
      let place = find_at (λ (b : AttrAt). b.id == a) (attributes_at m u) q found in
      let first = attribute_within_first m valid.declared u place.0 q place.1 in
      let same : q.id ≡ a = (let passes = place.2 in grind (arith, nat_tests)) in
      let stands : slice_get (first_attributes m) a ≡ Some first.0 = subst (λ k. slice_get (first_attributes m) k ≡ Some first.0) same first.1 in
      by first.0 stands first.0.domain refl (subst (λ d. IsTrue (narrows_domain d first.0.domain)) r.is first.2)
    where
      by : (d : AttrDecl) → slice_get (first_attributes m) a ≡ Some d → (e : Domain) → d.domain ≡ e
          → IsTrue (narrows_domain (domain.Range r.low r.high) e) → IsWholeRange a r.low r.high
      by d stands (domain.Range low high) is narrows =
          let parts = and_parts (int_le low r.low) (int_le r.high high) narrows in
          record {
            values = values_of (domain.Range low high);
            all_values = ap (λ o. option_map_or (λ (d : AttrDecl). Some (values_of d.domain)) o None) stands ∙ ap (λ e. Some (values_of e)) is;
            low_within = (let l = parts.0 in grind (arith, ints));
            high_within = (let h = parts.1 in grind (arith, ints));
          }
      by d stands (domain.Words words) is narrows = absurd (false≢true narrows)

  least_is : (u a : ℕ) (q : AttrAt) → attribute_of m u a ≡ Some q → (r : IsRanged q) → or_zero (least_at m u a) ≡ r.low
  least_is u a q found r =
      ap (λ o. or_zero (option_and_then (λ (q : AttrAt). elim q.domain [ domain.Range low high ↦ Some low | domain.Words words ↦ None ]) o)) found
      ∙ ap (λ d. or_zero (elim d [ domain.Range low high ↦ Some low | domain.Words words ↦ None ])) r.is

  greatest_is : (u a : ℕ) (q : AttrAt) → attribute_of m u a ≡ Some q → (r : IsRanged q) → or_zero (greatest_at m u a) ≡ r.high
  greatest_is u a q found r =
      ap (λ o. or_zero (option_and_then (λ (q : AttrAt). elim q.domain [ domain.Range low high ↦ Some high | domain.Words words ↦ None ]) o)) found
      ∙ ap (λ d. or_zero (elim d [ domain.Range low high ↦ Some high | domain.Words words ↦ None ])) r.is

  -- where some possible type of an instance has the attribute, all have it, or its domain is whole
  data HasAttribute (j a : ℕ) : Type 0 where
    shared : IsDomainThere m s valid state j a → HasAttribute j a
    kept : domain_at s j a ≡ whole_domain m a → HasAttribute j a

  attribute_here : (u j a : ℕ) (q : AttrAt) → j < number_made s → IsTrue (is_maybe_under m s u j)
      → attribute_of m u a ≡ Some q → HasAttribute j a
  attribute_here u j a q below maybe found =
      by (there m s valid state j below) maybe
    where
      by : (y : IsThere m s valid state j) → IsTrue (is_maybe_under m s u j) → HasAttribute j a
      by y maybe = by_all (list_all (λ t. has_attribute m t a) y.made.kinds) refl
        where
          some : IsTrue (list_any (λ t. has_attribute m t a) y.made.kinds)
          some =
              let kinds = ap (λ o. option_map_or (λ (x : MadeInstance). x.kinds) o []) y.at in
              let one = list_any_at (λ t. is_a m t u) y.made.kinds (subst (λ ks. IsTrue (list_any (λ t. is_a m t u) ks)) kinds maybe) in
              list_any_from (λ t. has_attribute m t a) y.made.kinds one.0 one.1 one.2 (has_attribute_below m valid one.1 u a q one.3 found)

          by_all : (b : Bool) → list_all (λ t. has_attribute m t a) y.made.kinds ≡ b → HasAttribute j a
          by_all true all = shared (domain_there_of m s valid state j a y all)
          by_all false not_all =
              kept (ap (λ o. option_and_then (λ x. domain_of x a) o) y.at ∙ whole j a y.made y.at some not_all)

  -- a counted instance, which may be under a type, adds its value of an attribute there
  pub value_under_entailed : (u a j : ℕ) (q : AttrAt) (o : Kleene) → attribute_of m u a ≡ Some q → IsRanged q
      → j < number_made s → TruthEntailed m s o → (is_false o ≡ false → IsTrue (is_maybe_under m s u j))
      → ShareEntailed m s (value_under m s u a o j)
  value_under_entailed u a j q o found r below is maybe = record {
    counted = is;
    lows = λ so n less beyond. by_low n less beyond (attribute_here u j a q below (maybe so) found);
    highs = λ so n more beyond. by_high n more beyond (attribute_here u j a q below (maybe so) found);
  }
    where
      by_low : (n : ℤ) → n ≤ℤ low_at s j a → int_le n (or_zero (least_at m u a)) ≡ false → HasAttribute j a
          → entails_all m s (literal.AtLeast j a n ∷ [])
      by_low n less beyond (shared y) = alone m s (literal.AtLeast j a n) (at_least_entailed m s valid state j a n y less)
      by_low n less beyond (kept is_whole) =
          let range = whole_range u a q found r in
          let low : low_at s j a ≡ least range.values = ap (λ o. option_map_or least o (pos 0)) (is_whole ∙ range.all_values) in
          let declared = least_is u a q found r in
          let within = range.low_within in
          let reached : n ≤ℤ or_zero (least_at m u a) = omega (arith, ints, less, low, declared, within) in
          absurd (grind (arith, ints))

      by_high : (n : ℤ) → high_at s j a ≤ℤ n → int_le (or_zero (greatest_at m u a)) n ≡ false → HasAttribute j a
          → entails_all m s (literal.AtMost j a n ∷ [])
      by_high n more beyond (shared y) = alone m s (literal.AtMost j a n) (at_most_entailed m s valid state j a n y more)
      by_high n more beyond (kept is_whole) =
          let range = whole_range u a q found r in
          let high : high_at s j a ≡ greatest range.values = ap (λ o. option_map_or greatest o (pos 0)) (is_whole ∙ range.all_values) in
          let declared = greatest_is u a q found r in
          let within = range.high_within in
          let reached : or_zero (greatest_at m u a) ≤ℤ n = omega (arith, ints, more, high, declared, within) in
          absurd (grind (arith, ints))

  -- an instance that is not surely outside a type may be under it
  pub maybe_under : (u j : ℕ) → j < number_made s → is_false (under_type m s u j) ≡ false → IsTrue (is_maybe_under m s u j)
  maybe_under u j below not_false = by (is_surely_under m s u j) refl (is_maybe_under m s u j) refl not_false
    where
      by : (b : Bool) → is_surely_under m s u j ≡ b → (d : Bool) → is_maybe_under m s u j ≡ d
          → is_false (cond b (True (literal.Kind j u ∷ [])) (cond d Open (False (literal.NotKind j u ∷ [])))) ≡ false
          → IsTrue (is_maybe_under m s u j)
      by true surely d maybe not_false = maybe_of_surely m s valid state u j below surely
      by false surely true maybe not_false = maybe
      by false surely false maybe not_false = absurd (false≢true (sym not_false))

  -- a link to an instance that may be under the target
  pub linked_under_entailed : (i p target j : ℕ) → IsPortThere m s valid state i p → j < number_made s
      → TruthEntailed m s (linked_under m s i p target j)
  linked_under_entailed i p target j y below = by (is_maybe_under m s target j) refl
    where
      by : (b : Bool) → is_maybe_under m s target j ≡ b
          → TruthEntailed m s (cond b (linked s i p j) (False (literal.NotKind j target ∷ [])))
      by true maybe = linked_entailed m s valid state i p j y below
      by false maybe = alone m s (literal.NotKind j target) (not_kind_entailed m s valid state target j below maybe)

  pub maybe_linked : (i p target j : ℕ) → is_false (linked_under m s i p target j) ≡ false
      → IsTrue (is_maybe_under m s target j)
  maybe_linked i p target j not_false = by (is_maybe_under m s target j) refl not_false
    where
      by : (b : Bool) → is_maybe_under m s target j ≡ b
          → is_false (cond b (linked s i p j) (False (literal.NotKind j target ∷ []))) ≡ false
          → IsTrue (is_maybe_under m s target j)
      by true maybe not_false = maybe
      by false maybe not_false = absurd (false≢true (sym not_false))

  -- ---- the rest

  pub fresh_entailed : (i p : ℕ) (low high : ℤ) → IsPortThere m s valid state i p
      → RestEntailed m s (fresh_rest s i p low high)
  fresh_entailed i p low high y = record {
    more = by ((port_state s i p).fresh_low == 0);
    fewer = alone m s (literal.FreshAtMost i p (number_made s) (port_state s i p).fresh_high)
        (fewer_entailed m s valid state i p (port_state s i p).fresh_high y (omega (arith, high_is)));
  }
    where
      low_is : (port_state s i p).fresh_low ≡ y.port.fresh_low
      low_is = ap (λ (q : PortState). q.fresh_low) (port_state_is m s valid state i p y)

      high_is : (port_state s i p).fresh_high ≡ y.port.fresh_high
      high_is = ap (λ (q : PortState). q.fresh_high) (port_state_is m s valid state i p y)

      by : (b : Bool) → entails_all m s (cond b [] (literal.FreshAtLeast i p (number_made s) (port_state s i p).fresh_low ∷ []))
      by true = refl
      by false = alone m s (literal.FreshAtLeast i p (number_made s) (port_state s i p).fresh_low)
          (more_entailed m s valid state i p (port_state s i p).fresh_low y (omega (arith, low_is)))

  pub unmade_entailed : (low high : ℤ) → RestEntailed m s (unmade_rest m s low high)
  unmade_entailed low high = record { more = refl; fewer = refl }
