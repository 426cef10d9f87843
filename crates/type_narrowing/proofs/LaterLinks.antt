-- How many links to later instances a port has.
use Rattle.std.proofs.Common.{◌≡◌, ℕ, suc, ◌-◌, ◌<◌, ◌≤◌, Bool, true, false, not, ◌&&◌, List, [], ◌∷◌, length, refl, sym, subst, ◌∙◌, arith, leb-true, zero-le}
use Rattle.std.specs.Prelude.{IsTrue, ◌==◌, nat_le, slice_index_or}
use Rattle.std.specs.List.{filter, count_by}
use Rattle.std.proofs.lemmas.Bool.{and_parts, or_left, or_right, eqb-true, eq-eqb}
use Rattle.std.proofs.lemmas.Option.{slice_get-get_or, slice_get_within}
use Rattle.std.proofs.lemmas.List.Sums.{count_by-le-length}
use Rattle.base_laws.specs.Places.{IsAt}
use Rattle.base_laws.proofs.Tests.{list_any_at, list_any_from}
use Rattle.prod_model.specs.declared.model.Model.{Model}
use Rattle.prod_model.specs.declared.model.PortAt.{PortAt}
use Rattle.prod_model.specs.Taxonomy.{ports_at}
use Rattle.config_value.specs.declared.configuration.Instance.{Instance}
use Rattle.config_value.specs.Value.{links_of}
use Rattle.config_value.specs.Shaped.{ascends}
use Rattle.config_value.specs.ShapedSentences.{HasShape}
use Rattle.config_value.specs.Literals.{has_port}
use Rattle.state_space.specs.Sets.{has_number}
use Rattle.state_space.specs.Declared.{HasIds}
use Rattle.state_space.proofs.PortLaws.{has_number-filter, below_rest, ascends_rest, ascends-filter, count_by-parted, count_by-none}
use Rattle.state_space.proofs.GenerationKept.{links_at_place, port_links}
use Rattle.type_narrowing.specs.steps.Narrowing.{IsAmong}
use Rattle.type_narrowing.proofs.OfKind.{IsOfKind}

-- ---- ascending numbers

-- between two bounds there are no more than the bounds leave
few_between : (low high : ℕ) (xs : List ℕ) → IsTrue (ascends xs) → ((k : ℕ) → IsTrue (has_number xs k) → (low ≤ k) × (k < high)) → length xs ≤ high - low
few_between low high [] up between = zero-le
few_between low high (x ∷ xs) up between =
    let here = between x (or_left _ _ (eq-eqb x x refl)) in
    let rest = few_between (suc x) high xs (ascends_rest x xs up) (λ k there. let above = below_rest x xs up k there in (omega (arith, above), (between k (or_right _ _ there)).1)) in
    omega (arith, here.0, here.1, rest)

-- of numbers below a bound few are from another one on
few_later : (from high : ℕ) (xs : List ℕ) → IsTrue (ascends xs) → ((k : ℕ) → IsTrue (has_number xs k) → k < high) → count_by (nat_le from) xs ≤ high - from
few_later from high xs up below =
    let later = filter (nat_le from) xs in
    let few = few_between from high later (ascends-filter (nat_le from) xs up) (λ k there.
    let both = and_parts (has_number xs k) (nat_le from k) (sym (has_number-filter (nat_le from) xs k) ∙ there) in
    (leb-true from k both.1, below k both.0)) in
    let counted = count_by-le-length (nat_le from) later in
    let parted = count_by-parted (nat_le from) (nat_le from) xs in
    let none = count_by-none (λ k. nat_le from k && not (nat_le from k)) xs (λ k there. never (nat_le from k)) in
    omega (arith, few, counted, parted, none)
  where
    never : (b : Bool) → (b && not b) ≡ false
    never true = refl
    never false = refl

-- ---- the links of a port

module _ (m : Model) (c : List Instance) (valid : HasIds m) (shape : HasShape m c) (i : ℕ) (y : Instance) (there : IsAt c i y)
    (up : (p : ℕ) → IsTrue (ascends (links_of m y p))) where
  -- a port links no more later instances than are left
  pub later_left : (p made : ℕ) → IsTrue (has_port m y.kind p) → count_by (nat_le made) (links_of m y p) ≤ m.instances - made
  later_left p made has =
      let port = port_links m c valid shape i y there p has in
      let few = few_later made (length c) (links_of m y p) (up p) (λ k linked.
      let place = list_any_at (λ j. j == k) (links_of m y p) linked in
      let under = port.2.on_target place.0 place.1 place.2 in
      let below : place.1 < length c = slice_get_within c place.1 under.instance under.there in
      let same : place.1 ≡ k = eqb-true place.1 k place.3 in
      omega (arith, below, same)) in
      let size : length c ≤ m.instances = shape.size.1 in
      omega (arith, few, size)

-- ---- the links of a port that the only type of an instance has

module _ (m : Model) (c : List Instance) (valid : HasIds m) (shape : HasShape m c) (i t : ℕ) (port : PortAt)
    (among : IsAmong (ports_at m t) port) (of : IsOfKind c i t) where
  stands : IsAt (ports_at m of.instance.kind) among.0 port
  stands = subst (λ u. IsAt (ports_at m u) among.0 port) (sym of.kind) among.1

  pub has_it : IsTrue (has_port m of.instance.kind port.id)
  has_it = list_any_from (λ (q : PortAt). q.id == port.id) (ports_at m of.instance.kind) among.0 port stands (eq-eqb port.id port.id refl)

  -- they are no more than the type allows
  pub few_links : length (links_of m of.instance port.id) ≤ port.high
  few_links =
      let y = of.instance in
      let long = (shape.built i y of.there).each_port in
      let links = slice_index_or y.links among.0 [] in
      let there : IsAt y.links among.0 links = slice_get-get_or y.links among.0 [] (subst (λ n. among.0 < n) (sym long) (slice_get_within (ports_at m y.kind) among.0 port stands)) in
      let same = links_at_place m c valid shape i y of.there among.0 port links stands there in
      subst (λ ls. length ls ≤ port.high) (sym same) (shape.links i among.0 y port links of.there stands there).number.1
