-- What counts, sums and totals are seen to be.
use Rattle.std.proofs.Common.{◌≡◌, ◌≢◌, ℕ, ℤ, pos, ◌<◌, ◌∙◌, ap, sym, subst, refl, Option, Some, None, Bool, true, false, not, ◌&&◌, ◌==◌, List, length, zero-add, bit_and, ◌^◌, ltb-true, eqb-true, zero, suc, arith}
use Rattle.std.specs.Prelude.{IsTrue, IsSome, if◌then◌else◌}
use Rattle.std.specs.Int.{bit_at, w128, trailing_zeros}
use Rattle.std.specs.List.{list_any}
use Rattle.std.proofs.lemmas.Bool.{and_parts, and_from, false≢true}
use Rattle.std.specs.Option.{option_map}
use Rattle.std.proofs.lemmas.Option.{same_Some, none-some}
use Rattle.std.proofs.lemmas.Nat.Bits.{bit_at-trailing_zeros}
use Rattle.std.specs.Int.Bits.{and_lt}
use Rattle.base_laws.proofs.Ranges.{slice_get_range_with_len}
use Rattle.base_laws.proofs.Tests.{list_any_at, list_any_from}
use Rattle.domain_store.specs.Words.{has_word}
use Rattle.domain_store.proofs.Bits.{has_both, has_none}
use Rattle.port_wildcards.specs.declared.port_domain.PortDomain.{PortDomain}
use Rattle.prod_model.specs.declared.model.Model.{Model}
use Rattle.prod_model.specs.declared.model.PortAt.{PortAt}
use Rattle.prod_model.specs.declared.expr.Expr.TheOpen.{Count, CountOf, Sum, Total, Number}
use Rattle.prod_model.specs.Forest.{is_a, is_leaf, is_type, type_numbers}
use Rattle.prod_model.specs.Taxonomy.{attribute_of, port_of, declared_port_of, with_inverse}
use Rattle.state_values.proofs.OwnBounds.{port_declared}
use Rattle.prod_model.specs.TypeMasks.{IsMask}
use Rattle.prod_model.specs.Valid.{IsDeclared}
use Rattle.config_value.specs.declared.literal.Literal.{Literal}
use Rattle.state_space.specs.State.{State, IsState, number_made, domain_at, port_at}
use Rattle.partial_state.specs.Views.{state_of_port}
use Rattle.state_values.specs.declared.interval.Ends.{Ends}
use Rattle.state_values.specs.declared.kleene.Kleene.TheVariants as kleene
use Rattle.state_values.specs.declared.shares.Added.TheVariants.{Links, LinksUnder, LinkedValues, Instances, Values}
use Rattle.state_values.specs.declared.sums.Unmade.{Unmade}
use Rattle.state_values.specs.Kleene.{True, False, Open}
use Rattle.state_values.specs.Seen.{as_range}
use Rattle.state_values.specs.Sights.{is_surely_under, is_maybe_under, under_type, one_if, share_leaf, least_at, greatest_at, or_zero}
use Rattle.state_values.specs.Told.{told}
use Rattle.state_values.specs.steps.Ends.{ends_of}
use Rattle.state_values.specs.steps.Added.{linked_in, linked_at, tally_ends}
use Rattle.state_values.specs.steps.Forms.{form_seen}
use Rattle.state_values.proofs.PartsThere.{domain_there, maybe_there}
use Rattle.state_values.proofs.TallySeen.{unmade, fresh, number_tallied, total_tallied, count_tallied, count_of_tallied, sum_tallied}

-- ---- which instances have values that are counted

-- what is counted may be under the type
counted_maybe : (a b : Bool) (by other : List Literal) → (IsTrue a → IsTrue b) → told (if a then True by else (if b then Open else False other)) ≢ kleene.False → IsTrue b
counted_maybe true b by other maybe counted = maybe refl
counted_maybe false true by other maybe counted = refl
counted_maybe false false by other maybe counted = absurd (counted refl)

module _ (m : Model) (is : IsDeclared m) (s : State) (state : IsState m s) (a u j : ℕ) (known : IsSome (attribute_of m u a)) (made : j < number_made s) where
  -- a linked one that may be counted has the value
  pub linked_value : (q : PortDomain) → linked_at m s q u j ≢ kleene.False → IsSome (domain_at s j a)
  linked_value q counted = domain_there m is s state j made u (by (is_maybe_under m s u j) counted) a known
    where
      by : (b : Bool) → (if b then linked_in q j else kleene.False) ≢ kleene.False → IsTrue b
      by true counted = refl
      by false counted = absurd (counted refl)

  -- one under the type has it
  pub value_under_type : told (under_type m s u j) ≢ kleene.False → IsSome (domain_at s j a)
  value_under_type counted = domain_there m is s state j made u (counted_maybe (is_surely_under m s u j) (is_maybe_under m s u j) _ _ (maybe_there m is s state j made u) counted) a known

-- ---- ports as they are declared

-- a port is one that is declared, with its inverse beside it
pub declared_there : (m : Model) (t p : ℕ) (d : PortAt) → port_of m t p ≡ Some d
    → (e : PortAt) × (declared_port_of m t p ≡ Some e) × (d.target ≡ e.target)
declared_there m t p d found =
    by (declared_port_of m t p) refl (sym (port_declared m t p) ∙ found)
  where
    by : (o : Option PortAt) → declared_port_of m t p ≡ o → option_map (with_inverse m) o ≡ Some d
        → (e : PortAt) × (declared_port_of m t p ≡ Some e) × (d.target ≡ e.target)
    by None is mapped = absurd (none-some d mapped)
    by (Some e) is mapped =
        (e, is, sym (ap (λ (x : PortAt). x.target) (same_Some (with_inverse m e) d mapped)))

-- ---- what is seen

module _ (m : Model) (s : State) (t i : ℕ) (rest : Unmade) (seen : Ends) where
  pub number_is : (u : ℕ) → rest ≡ unmade m s (pos 1) (pos 1) → seen ≡ tally_ends m s (Instances u) rest → seen ≡ ends_of (as_range (form_seen m s t i (Number u)))
  number_is u rest_is seen_is = seen_is ∙ ap (tally_ends m s (Instances u)) rest_is ∙ sym (number_tallied m s u)

  pub total_is : (u a : ℕ) → rest ≡ unmade m s (or_zero (least_at m u a)) (or_zero (greatest_at m u a)) → seen ≡ tally_ends m s (Values u a) rest
      → seen ≡ ends_of (as_range (form_seen m s t i (Total u a)))
  total_is u a rest_is seen_is = seen_is ∙ ap (tally_ends m s (Values u a)) rest_is ∙ sym (total_tallied m s u a)

  module _ (p : ℕ) (q : PortDomain) (at : port_at s i p ≡ Some (state_of_port q)) where
    abbrev pub fresh_links : ℤ → ℤ → Unmade
    fresh_links = fresh m s i p q at

    pub count_is : rest ≡ fresh_links (pos 1) (pos 1) → seen ≡ tally_ends m s (Links q) rest → seen ≡ ends_of (as_range (form_seen m s t i (Count p)))
    count_is rest_is seen_is = seen_is ∙ ap (tally_ends m s (Links q)) rest_is ∙ sym (count_tallied m s i p q at)

    module _ (d : PortAt) (found : port_of m t p ≡ Some d) where
      pub count_of_is : (u : ℕ) → rest ≡ fresh_links (one_if (is_a m d.target u)) (one_if (share_leaf m u d.target)) → seen ≡ tally_ends m s (LinksUnder q u) rest
          → seen ≡ ends_of (as_range (form_seen m s t i (CountOf p u)))
      count_of_is u rest_is seen_is =
          let e = declared_there m t p d found in
          let low = one_if (is_a m e.0.target u) in
          let high = one_if (share_leaf m u e.0.target) in
          let rest_there : rest ≡ fresh_links low high =
          subst (λ k. rest ≡ fresh_links (one_if (is_a m k u)) (one_if (share_leaf m u k))) e.2 rest_is in
          rw e.1 (seen_is ∙ ap (tally_ends m s (LinksUnder q u)) rest_there
          ∙ sym (count_of_tallied m s i p q at u low high))

      pub sum_is : (a : ℕ) → rest ≡ fresh_links (or_zero (least_at m d.target a)) (or_zero (greatest_at m d.target a)) → seen ≡ tally_ends m s (LinkedValues q d.target a) rest
          → seen ≡ ends_of (as_range (form_seen m s t i (Sum p a)))
      sum_is a rest_is seen_is =
          let e = declared_there m t p d found in
          let low = or_zero (least_at m e.0.target a) in
          let high = or_zero (greatest_at m e.0.target a) in
          let rest_there : rest ≡ fresh_links low high =
          subst (λ k. rest ≡ fresh_links (or_zero (least_at m k a)) (or_zero (greatest_at m k a))) e.2 rest_is in
          let seen_there : seen ≡ tally_ends m s (LinkedValues q e.0.target a) rest =
          subst (λ k. seen ≡ tally_ends m s (LinkedValues q k a) rest) e.2 seen_is in
          rw e.1 (seen_there ∙ ap (tally_ends m s (LinkedValues q e.0.target a)) rest_there
          ∙ sym (sum_tallied m s i p q at e.0.target a low high))

-- ---- leaves under two types

leaf_low : (m : Model) (t : ℕ) → IsTrue (is_leaf m t) → t < length m.types
unfolding is_leaf
leaf_low m t leaf = ltb-true t (length m.types) (and_parts (is_type m t) _ leaf).0

-- two masks with a bit in common
both_not_none : (a b t : ℕ) → IsTrue (has_word a t) → IsTrue (has_word b t) → (bit_and a b ≡ 0) → ⊥
both_not_none a b t is is' none = false≢true (sym (has_none t) ∙ ap (λ n. has_word n t) (sym none) ∙ has_both a b t ∙ and_from _ _ is is')

not_zero : (n : ℕ) → (n == 0) ≡ false → 0 < n
not_zero zero some = absurd (false≢true (sym some))
not_zero (suc n) some = omega arith

-- the lowest bit that two masks have in common
below_both : (a b : ℕ) → (bit_and a b == 0) ≡ false → a < 2 ^ 128 → b < 2 ^ 128 → IsTrue (has_word (bit_and a b) (trailing_zeros w128 (bit_and a b)))
below_both a b some fit fits =
    let few : bit_and a b < 2 ^ 128 = and_lt 128 a b fit fits in
    ap (λ n. n == 1) (bit_at-trailing_zeros w128 (bit_and a b) (not_zero (bit_and a b) some) few).1

bit_set : (n : ℕ) (v : Bool) → n ≡ (if v then 1 else 0) → (n == 1) ≡ v
bit_set n true is = ap (λ k. k == 1) is
bit_set n false is = ap (λ k. k == 1) is

module _ (m : Model) (a b u target : ℕ) (first : IsMask a (λ t. is_leaf m t && is_a m t u)) (second : IsMask b (λ t. is_leaf m t && is_a m t target)) where
  abbrev passes : ℕ → Bool
  passes t = is_leaf m t && is_a m t u && is_a m t target

  -- a bit of both stands for a leaf under both
  in_both : (t : ℕ) → IsTrue (has_word a t) → IsTrue (has_word b t) → IsTrue (passes t) × IsTrue (is_leaf m t)
  in_both t has also =
      let one = and_parts (is_leaf m t) (is_a m t u) (sym (bit_set (bit_at a t) (is_leaf m t && is_a m t u) (first t)) ∙ has) in
      let other = and_parts (is_leaf m t) (is_a m t target) (sym (bit_set (bit_at b t) (is_leaf m t && is_a m t target) (second t)) ∙ also) in
      (and_from (is_leaf m t && is_a m t u) (is_a m t target) (and_from (is_leaf m t) (is_a m t u) one.0 one.1) other.1, one.0)

  -- and a leaf under both has its bit in both
  of_both : (t : ℕ) → IsTrue (passes t) → IsTrue (has_word a t) × IsTrue (has_word b t)
  of_both t pass =
      let both = and_parts (is_leaf m t && is_a m t u) (is_a m t target) pass in
      let one = and_parts (is_leaf m t) (is_a m t u) both.0 in (
        bit_set (bit_at a t) (is_leaf m t && is_a m t u) (first t) ∙ both.0,
        bit_set (bit_at b t) (is_leaf m t && is_a m t target) (second t) ∙ and_from (is_leaf m t) (is_a m t target) one.0 both.1,
      )

  -- Two masks of leaves have a bit in common exactly where a leaf is under both types.
  pub masks_share : a < 2 ^ 128 → b < 2 ^ 128 → not (bit_and a b == 0) ≡ share_leaf m u target
  masks_share fit fits = by (bit_and a b == 0) refl (list_any passes (type_numbers m.types)) refl
    where
      by : (c : Bool) → (bit_and a b == 0) ≡ c → (d : Bool) → list_any passes (type_numbers m.types) ≡ d → not c ≡ d
      by true none false is = refl
      by false some true is = refl
      by true none true is =
          let found = list_any_at passes (type_numbers m.types) is in
          let both = of_both found.1 found.3 in
          absurd (both_not_none a b found.1 both.0 both.1 (eqb-true (bit_and a b) 0 none))
      by false some false is =
          let t = trailing_zeros w128 (bit_and a b) in
          let common = and_parts (has_word a t) (has_word b t) (sym (has_both a b t) ∙ below_both a b some fit fits) in
          let pass = in_both t common.0 common.1 in
          absurd (false≢true (sym is ∙ list_any_from passes (type_numbers m.types) t t (slice_get_range_with_len 0 (length m.types) t (leaf_low m t pass.1) ∙ ap Some (zero-add t)) pass.0))
