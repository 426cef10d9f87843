-- What the type of an instance says of a range, and which reasons support it.
use Rattle.std.proofs.Common.{◌≡◌, ℕ, ℤ, pos, ◌<ℤ◌, true, [], ◌∷◌, refl, ap₂, sym, subst, arith}
use Rattle.std.specs.Prelude.{IsTrue, IsSome, None, int_lt, if◌then◌else◌}
use Rattle.std.specs.Option.{option_map_or}
use Rattle.std.proofs.lemmas.Bool.{and_parts, and_from}
use Rattle.std.proofs.lemmas.Int.{ints}
use Rattle.prod_model.specs.declared.model.AttrAt.{AttrAt}
use Rattle.prod_model.specs.declared.model.Domain.TheVariants.{Range}
use Rattle.prod_model.specs.Taxonomy.{attributes_at}
use Rattle.config_value.specs.declared.literal.Literal.TheVariants.{Kind, AtMost, AtLeast}
use Rattle.config_value.specs.Literals.{has_literal}
use Rattle.state_space.specs.Values.{least, greatest}
use Rattle.state_space.specs.State.{State, IsState, kinds_at, domain_at, low_at, high_at}
use Rattle.state_space.specs.Entails.{entails, fits}
use Rattle.state_space.specs.Descriptions.{values_description}
use Rattle.state_space.specs.Described.{entails_all}
use Rattle.state_space.proofs.ValidLaws.{valid_has_ids}
use Rattle.state_space.proofs.DescribedParts.{domain_there}
use Rattle.state_space.proofs.DescriptionLaws.{description_is_entailed}
use Rattle.branch_cut.proofs.FixedLaws.{all_have_attribute_at, attribute_there}
use Rattle.reason_trail.specs.Jobs.{Task, IsTask}
use Rattle.reason_trail.specs.Reasons.{Supports}
use Rattle.reason_trail.specs.Propagators.{IsFailure}
use Rattle.type_narrowing.specs.steps.Narrowing.{IsAmong, resting_on}
use Rattle.type_narrowing.proofs.Failures.{formed, fails}
use Rattle.type_narrowing.proofs.OfKind.{leaf, made, kind_entailed, of_kind, of_kind_alone, at_least_low, at_most_high, none_below, none_above}

int_lt_true : (a b : ℤ) → IsTrue (int_lt a b) → a <ℤ b
int_lt_true a b h = grind (arith, ints, h)

module _ (j : Task) (s : State) (i t id : ℕ) (low high : ℤ) (task : IsTask j) (state : IsState j.model s) (sole : kinds_at s i ≡ t ∷ [])
    (among : IsAmong (attributes_at j.model t) (record { id = id; domain = Range low high })) where
  abbrev attribute : AttrAt
  attribute = record { id = id; domain = Range low high }

  pub values_there : IsSome (domain_at s i id)
  values_there = attribute_there j.model s i t state sole among.0 attribute among.1

  -- its bounds may be changed
  pub least_fits : (n : ℤ) → IsTrue (fits j.model s (AtLeast i id n))
  unfolding fits
  least_fits n = all_have_attribute_at j.model s i t state sole among.0 attribute among.1

  pub most_fits : (n : ℤ) → IsTrue (fits j.model s (AtMost i id n))
  unfolding fits
  most_fits n = all_have_attribute_at j.model s i t state sole among.0 attribute among.1

  -- the type supports the ends of its range
  pub low_supported : Supports j None (resting_on (Kind i t ∷ [])) (AtLeast i id low)
  low_supported c subject has =
      at_least_low j.model c (valid_has_ids j.model task.valid) (formed j.model c subject.satisfied).shaped i t id low high among
      (of_kind_alone j.model c i t (leaf j.model s i t state sole) has)

  pub high_supported : Supports j None (resting_on (Kind i t ∷ [])) (AtMost i id high)
  high_supported c subject has =
      at_most_high j.model c (valid_has_ids j.model task.valid) (formed j.model c subject.satisfied).shaped i t id low high among
      (of_kind_alone j.model c i t (leaf j.model s i t state sole) has)

  -- what the ends of the values are is entailed
  ends_entailed : IsTrue (entails j.model s (AtLeast i id (low_at s i id))) × IsTrue (entails j.model s (AtMost i id (high_at s i id)))
  ends_entailed =
      let all = all_have_attribute_at j.model s i t state sole among.0 attribute among.1 in
      let domain = domain_there j.model s i id state all in
      let d = domain.0 in
      let told = (description_is_entailed j.model s i state (made j.model s i t state sole)).attribute id in
      let said = subst (entails_all j.model s) (ap₂ (λ b o. if b then option_map_or (values_description i id) o [] else []) all domain.1) told in
      let first = and_parts (entails j.model s (AtLeast i id (least d))) _ said in
      let second = and_parts (entails j.model s (AtMost i id (greatest d))) _ first.1 in (
        subst (λ o. IsTrue (entails j.model s (AtLeast i id (option_map_or least o (pos 0))))) (sym domain.1) first.0,
        subst (λ o. IsTrue (entails j.model s (AtMost i id (option_map_or greatest o (pos 0))))) (sym domain.1) second.0,
      )

  -- where the ends are apart from the range, that is a failure
  pub below_fails : IsTrue (int_lt (high_at s i id) low) → IsFailure j s (resting_on (Kind i t ∷ AtMost i id (high_at s i id) ∷ []))
  below_fails less = fails j s (Kind i t ∷ AtMost i id (high_at s i id) ∷ []) (λ c subject has.
      let first = and_parts (has_literal j.model c (Kind i t)) _ has in
      none_below j.model c (valid_has_ids j.model task.valid) (formed j.model c subject.satisfied).shaped i t id low high among
      (of_kind j.model c i t (leaf j.model s i t state sole) first.0) (high_at s i id) (int_lt_true (high_at s i id) low less)
      (and_parts (has_literal j.model c (AtMost i id (high_at s i id))) true first.1).0)
      (and_from (entails j.model s (Kind i t)) _ (kind_entailed j.model s i t state sole task.valid)
      (and_from (entails j.model s (AtMost i id (high_at s i id))) true ends_entailed.1 refl))

  pub above_fails : IsTrue (int_lt high (low_at s i id)) → IsFailure j s (resting_on (Kind i t ∷ AtLeast i id (low_at s i id) ∷ []))
  above_fails more = fails j s (Kind i t ∷ AtLeast i id (low_at s i id) ∷ []) (λ c subject has.
      let first = and_parts (has_literal j.model c (Kind i t)) _ has in
      none_above j.model c (valid_has_ids j.model task.valid) (formed j.model c subject.satisfied).shaped i t id low high among
      (of_kind j.model c i t (leaf j.model s i t state sole) first.0) (low_at s i id) (int_lt_true high (low_at s i id) more)
      (and_parts (has_literal j.model c (AtLeast i id (low_at s i id))) true first.1).0)
      (and_from (entails j.model s (Kind i t)) _ (kind_entailed j.model s i t state sole task.valid)
      (and_from (entails j.model s (AtLeast i id (low_at s i id))) true ends_entailed.0 refl))
