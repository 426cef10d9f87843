-- What an instance of a shaped configuration holds of the attributes and ports of a type that it is under.
use Rattle.std.proofs.Common.{◌≡◌, ℕ, ◌==◌, List, [], length, get_or, Some, sym, ap, ◌∙◌, subst, arith}
use Rattle.std.specs.Prelude.{slice_index_or, IsTrue, ℤ, pos, ◌≤ℤ◌}
use Rattle.std.specs.Option.{option_map_or}
use Rattle.std.proofs.lemmas.Int.{ints}
use Rattle.std.proofs.lemmas.Option.{slice_get_within, slice_get-get_or}
use Rattle.prod_model.specs.declared.model.Model.{Model}
use Rattle.prod_model.specs.declared.model.AttrAt.{AttrAt}
use Rattle.prod_model.specs.declared.model.PortAt.{PortAt}
use Rattle.prod_model.specs.declared.model.Domain.{Domain}
use Rattle.prod_model.specs.declared.model.Domain.TheVariants.{Range, Words}
use Rattle.prod_model.specs.Forest.{is_a}
use Rattle.prod_model.specs.Taxonomy.{attribute_of, declared_port_of, attributes_at, declared_ports_at, ports_at, first_words}
use Rattle.prod_model.specs.Valid.{IsDeclared}
use Rattle.config_value.specs.declared.configuration.Instance.{Instance}
use Rattle.config_value.specs.Value.{value_of, links_of, value_at_instance, links_at_instance}
use Rattle.base_laws.specs.Places.{IsAt}
use Rattle.config_value.specs.ShapedSentences.{IsBetween, IsInstanceUnder, IsValueOf, HasShape}
use Rattle.base_laws.proofs.Places.{IsFirstAt, find_place, position_is}
use Rattle.prod_model.proofs.NarrowingLaws.{IsRangeWithin, IsAttributeWithin, IsPortWithin, attributes_narrow, declared_ports_narrow}

-- where the domain is a range, the value is in it
abbrev pub IsInRange : Domain → ℤ → Type 0
IsInRange (Range low high) v = (low ≤ℤ v) × (v ≤ℤ high)
IsInRange (Words words) v = Unit {0}

-- a value of a domain within a range is in the range
in_range : (wide d : Domain) (first : List (List ℕ)) (v : ℤ) → IsRangeWithin wide d → IsValueOf d first v → IsInRange wide v
in_range (Range wide_low wide_high) (Range low high) first v within value = (omega (arith, ints, within.0, value.0), omega (arith, ints, within.1, value.1))
in_range (Range wide_low wide_high) (Words words) first v within value = absurd within
in_range (Words wide) d first v within value = tt

-- in a list that is as long as another, something stands at each place of the other
there_is : {A B : Type 0} (xs : List A) (ys : List B) (k : ℕ) (y : B) → length xs ≡ length ys → IsAt ys k y → (otherwise : A)
    → IsAt xs k (get_or xs k otherwise)
there_is xs ys k y long there otherwise = slice_get-get_or xs k otherwise (omega (arith, slice_get_within ys k y there))

-- as many links as the port allows, and each to an instance under its target
pub record AreHeldLinks (m : Model) (c : List Instance) (p : PortAt) (links : List ℕ) : Type 0 where
  pub number : IsBetween p.low p.high (length links)
  pub each : (k j : ℕ) → IsAt links k j → IsInstanceUnder m c p.target j

module _ (m : Model) (c : List Instance) (is : IsDeclared m) (s : HasShape m c) (i : ℕ) (x : Instance) (at : IsAt c i x) (t : ℕ) (under : IsTrue (is_a m x.kind t)) where
  -- the value of an attribute of the type is in the attribute's range there
  pub held_value : (id : ℕ) (a : AttrAt) → attribute_of m t id ≡ Some a → IsInRange a.domain (value_at_instance m c id i)
  held_value id a found =
      let first : IsFirstAt (λ b. b.id == id) IsAttributeWithin a (attributes_at m x.kind) =
      find_place (λ b. b.id == id) IsAttributeWithin (λ a b within. ap (λ n. n == id) within.same_id) (attributes_at m t) (attributes_at m x.kind) a found
      (attributes_narrow m is x.kind t under) in
      let v = get_or x.values first.place (pos 0) in
      let stands : IsAt x.values first.place v = there_is x.values (attributes_at m x.kind) first.place first.there (s.built i x at).each_attribute first.stands (pos 0) in
      let value : value_at_instance m c id i ≡ v =
      ap (λ o. option_map_or (λ x. value_of m x id) o (pos 0)) at
      ∙ ap (λ o. option_map_or (λ k. slice_index_or x.values k (pos 0)) o (pos 0)) (position_is (λ b. b.id == id) (attributes_at m x.kind) first.place first.first) in
      subst (IsInRange a.domain) (sym value) (in_range a.domain first.there.domain (first_words m first.there.id) v first.related.within
      (s.values i first.place x first.there v at first.stands stands))

  -- the links of a port of the type are as many as the port allows there, and lead to instances under its target
  pub held_links : (id : ℕ) (p : PortAt) → declared_port_of m t id ≡ Some p → AreHeldLinks m c p (links_at_instance m c id i)
  held_links id p found =
      let first : IsFirstAt (λ q. q.id == id) (IsPortWithin m) p (ports_at m x.kind) =
      find_place (λ q. q.id == id) (IsPortWithin m) (λ p q within. ap (λ n. n == id) within.same_id) (declared_ports_at m t) (ports_at m x.kind) p found
      (declared_ports_narrow m is x.kind t under) in
      let ls = get_or x.links first.place [] in
      let stands : IsAt x.links first.place ls = there_is x.links (ports_at m x.kind) first.place first.there (s.built i x at).each_port first.stands [] in
      let links : links_at_instance m c id i ≡ ls =
      ap (λ o. option_map_or (λ x. links_of m x id) o []) at
      ∙ ap (λ o. option_map_or (λ k. slice_index_or x.links k []) o []) (position_is (λ q. q.id == id) (ports_at m x.kind) first.place first.first) in
      let held = s.links i first.place x first.there ls at first.stands stands in
      let within = first.related in
      let all : AreHeldLinks m c p ls = record {
        number = (omega (arith, within.low, held.number.0), omega (arith, within.high, held.number.1));
        each = λ k j to. let target = held.on_target k j to in
            record { instance = target.instance; there = target.there; of_type = within.target target.instance.kind target.of_type };
      } in
      subst (AreHeldLinks m c p) (sym links) all
