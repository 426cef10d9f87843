-- An instance of one possible type: what it is in a configuration, and its values there.
use Rattle.std.proofs.Common.{◌≡◌, ℕ, ◌<◌, ℤ, pos, ◌≤ℤ◌, ◌<ℤ◌, true, ◌&&◌, List, [], ◌∷◌, refl, ap, sym, subst, ◌∙◌, arith}
use Rattle.std.specs.Prelude.{IsTrue, ◌==◌, int_le, slice_get, slice_index_or}
use Rattle.std.specs.List.{list_all}
use Rattle.std.proofs.lemmas.Int.{ints}
use Rattle.std.proofs.lemmas.Bool.{and_parts, and_from, or_left, eq-eqb}
use Rattle.std.proofs.lemmas.Option.{slice_get-get_or, slice_get_within}
use Rattle.base_laws.specs.Places.{IsAt}
use Rattle.base_laws.proofs.Tests.{list_any_from, option_map_or_at, option_map_or_from}
use Rattle.prod_model.specs.declared.model.Model.{Model}
use Rattle.prod_model.specs.declared.model.AttrAt.{AttrAt}
use Rattle.prod_model.specs.declared.model.Domain.TheVariants.{Range}
use Rattle.prod_model.specs.Forest.{is_a, is_leaf}
use Rattle.prod_model.specs.Taxonomy.{attributes_at}
use Rattle.prod_model.specs.Valid.{IsValid}
use Rattle.prod_model.proofs.LeafLaws.{is_a_itself}
use Rattle.config_value.specs.declared.configuration.Instance.{Instance}
use Rattle.config_value.specs.declared.literal.Literal.TheVariants as literal
use Rattle.config_value.specs.Value.{value_of, under}
use Rattle.config_value.specs.ShapedSentences.{HasShape}
use Rattle.config_value.specs.Literals.{has_literal, has_attribute}
use Rattle.literal_book.specs.Nogoods.{has_literals}
use Rattle.state_space.specs.Sets.{has_number}
use Rattle.state_space.specs.Declared.{HasIds}
use Rattle.state_space.specs.State.{State, IsState, number_made, kinds_at}
use Rattle.state_space.specs.Entails.{entails}
use Rattle.state_space.specs.Described.{entails_all}
use Rattle.state_space.proofs.DescriptionLaws.{under_leaf}
use Rattle.state_space.proofs.EntailsLaws.{at_instance_same}
use Rattle.state_space.proofs.GenerationKept.{value_at_place}
use Rattle.branch_cut.proofs.BranchLaws.{made_with, leaf_at, all_kinds_at}
use Rattle.branch_cut.proofs.FixedLaws.{type_known}

-- ---- in a state

module _ (m : Model) (s : State) (i kind : ℕ) (state : IsState m s) (sole : kinds_at s i ≡ kind ∷ []) where
  possible : IsTrue (has_number (kinds_at s i) kind)
  possible = ap (λ ks. has_number ks kind) sole ∙ or_left (kind == kind) _ (eq-eqb kind kind refl)

  pub made : i < number_made s
  made = let x = made_with s i kind possible in slice_get_within s.made i x.0 x.1

  pub leaf : IsTrue (is_leaf m kind)
  leaf = leaf_at m s i kind state possible

  -- that it is of the type is entailed
  pub kind_entailed : IsValid m → IsTrue (entails m s (literal.Kind i kind))
  unfolding entails
  kind_entailed valid =
      let x = made_with s i kind possible in
      all_kinds_at s i x.0 (λ u. is_a m u kind) x.1
      ∙ (ap (list_all (λ u. is_a m u kind)) (sym x.2 ∙ sole)
      ∙ and_from (is_a m kind kind) true (is_a_itself m valid.declared.taxonomy.forest kind (type_known m s i kind state sole)) refl)

  pub kind_entailed_alone : IsValid m → entails_all m s (literal.Kind i kind ∷ [])
  kind_entailed_alone valid = and_from (entails m s (literal.Kind i kind)) true (kind_entailed valid) refl

-- ---- in a configuration

-- the instance of a number is of a leaf type
pub record IsOfKind (c : List Instance) (i t : ℕ) : Type 0 where
  pub instance : Instance
  pub there : IsAt c i instance
  pub kind : instance.kind ≡ t

pub of_kind : (m : Model) (c : List Instance) (i t : ℕ) → IsTrue (is_leaf m t) → IsTrue (has_literal m c (literal.Kind i t)) → IsOfKind c i t
unfolding has_literal
of_kind m c i t leaf has =
    let found = option_map_or_at (under m t) (slice_get c i) has in
    record { instance = found.0; there = found.1; kind = under_leaf m t found.0.kind leaf found.2 }

pub of_kind_alone : (m : Model) (c : List Instance) (i t : ℕ) → IsTrue (is_leaf m t) → IsTrue (has_literals m c (literal.Kind i t ∷ [])) → IsOfKind c i t
of_kind_alone m c i t leaf has = of_kind m c i t leaf (and_parts (has_literal m c (literal.Kind i t)) true has).0

-- ---- its values

int_le_from : (a b : ℤ) → a ≤ℤ b → IsTrue (int_le a b)
int_le_from a b h = grind (arith, ints, h)

module _ (m : Model) (c : List Instance) (valid : HasIds m) (shape : HasShape m c) (i t id : ℕ) (low high : ℤ)
    (among : (k : ℕ) × IsAt (attributes_at m t) k (record { id = id; domain = Range low high })) (of : IsOfKind c i t) where
  abbrev attribute : AttrAt
  attribute = record { id = id; domain = Range low high }

  abbrev value : ℤ
  value = value_of m of.instance id

  stands : IsAt (attributes_at m of.instance.kind) among.0 attribute
  stands = subst (λ u. IsAt (attributes_at m u) among.0 attribute) (sym of.kind) among.1

  pub has_it : IsTrue (has_attribute m of.instance.kind id)
  has_it = list_any_from (λ (b : AttrAt). b.id == id) (attributes_at m of.instance.kind) among.0 attribute stands (eq-eqb id id refl)

  -- its value is in the range of the type
  within : (low ≤ℤ value) × (value ≤ℤ high)
  within =
      let y = of.instance in
      let long = (shape.built i y of.there).each_attribute in
      let v = slice_index_or y.values among.0 (pos 0) in
      let there : IsAt y.values among.0 v = slice_get-get_or y.values among.0 (pos 0) (subst (λ n. among.0 < n) (sym long) (slice_get_within (attributes_at m y.kind) among.0 attribute stands)) in
      let same = value_at_place m c valid shape i y of.there among.0 attribute v stands there in
      subst (λ u. (low ≤ℤ u) × (u ≤ℤ high)) (sym same) (shape.values i among.0 y attribute v of.there stands there)

  pub at_least_low : IsTrue (has_literal m c (literal.AtLeast i id low))
  unfolding has_literal
  at_least_low = option_map_or_from (λ x. has_attribute m x.kind id && int_le low (value_of m x id)) (slice_get c i) of.instance of.there
      (and_from (has_attribute m of.instance.kind id) (int_le low value) has_it (int_le_from low value within.0))

  pub at_most_high : IsTrue (has_literal m c (literal.AtMost i id high))
  unfolding has_literal
  at_most_high = option_map_or_from (λ x. has_attribute m x.kind id && int_le (value_of m x id) high) (slice_get c i) of.instance of.there
      (and_from (has_attribute m of.instance.kind id) (int_le value high) has_it (int_le_from value high within.1))

  -- so it has no value below, and none above
  pub none_below : (n : ℤ) → n <ℤ low → ¬ IsTrue (has_literal m c (literal.AtMost i id n))
  unfolding has_literal
  none_below n less has =
      let said = (and_parts (has_attribute m of.instance.kind id) (int_le value n) (sym (at_instance_same c i of.instance (λ x. has_attribute m x.kind id && int_le (value_of m x id) n) of.there) ∙ has)).1 in
      past n low value less said within.0
    where
      past : (n low v : ℤ) → n <ℤ low → IsTrue (int_le v n) → low ≤ℤ v → ⊥
      past n low v less said first = grind (arith, ints, less, said, first)

  pub none_above : (n : ℤ) → high <ℤ n → ¬ IsTrue (has_literal m c (literal.AtLeast i id n))
  unfolding has_literal
  none_above n more has =
      let said = (and_parts (has_attribute m of.instance.kind id) (int_le n value) (sym (at_instance_same c i of.instance (λ x. has_attribute m x.kind id && int_le n (value_of m x id)) of.there) ∙ has)).1 in
      past n high value more said within.1
    where
      past : (n high v : ℤ) → high <ℤ n → IsTrue (int_le n v) → v ≤ℤ high → ⊥
      past n high v more said last = grind (arith, ints, more, said, last)
