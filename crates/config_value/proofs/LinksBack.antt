-- Links back by an inverse: what their test says, place by place.
use Rattle.std.proofs.Common.{◌≡◌, ℕ, ◌+◌, ◌==◌, Bool, true, false, List, [], length, Option, Some, None, unwrap_or, refl, sym, ap, ◌∙◌, subst, eqb-true, eq-eqb, zero-add}
use Rattle.std.specs.Prelude.{slice_get, slice_index_or, IsTrue}
use Rattle.std.specs.Option.{option_map_or}
use Rattle.std.specs.List.{list_any, list_all, position, enumerate_from}
use Rattle.std.proofs.lemmas.Bool.{false≢true}
use Rattle.std.proofs.lemmas.Option.{unwrap_or-slice_get, get_or_from_slice_get, none-some}
use lib.Pointwise.{pointwise}
use Rattle.prod_model.specs.declared.model.Model.{Model}
use Rattle.prod_model.specs.declared.model.PortAt.{PortAt}
use Rattle.prod_model.specs.Taxonomy.{ports_at}
use Rattle.config_value.specs.declared.configuration.Instance.{Instance}
use Rattle.config_value.specs.Value.{links_of, links_at_instance}
use Rattle.config_value.specs.Shaped.{links_back, has_links_back_of, has_links_back}
use Rattle.config_value.specs.ShapedSentences.{IsPortOfId, IsLinkedBy, IsBuilt}
use Rattle.base_laws.specs.Places.{IsAt}
use Rattle.base_laws.proofs.Finding.{IsFirstPassing, first_position, position_first}
use Rattle.base_laws.proofs.Ranges.{at_enumerate, enumerate_at}
use Rattle.base_laws.proofs.Tests.{list_all_at, list_all_from, list_any_at, list_any_from, pointwise_at, pointwise_from}

module _ (m : Model) (c : List Instance) (id i j : ℕ) where
  -- the links of the port at a place, where the test finds instance i among them
  at_links : (x : Instance) → IsAt c j x → (place : ℕ) → IsPortOfId m x.kind id place
      → IsTrue (list_any (λ k. k == i) (slice_index_or x.links place [])) → IsLinkedBy m c id i j
  at_links x there place port h =
      by (slice_get x.links place) refl (ap (list_any (λ k. k == i)) (unwrap_or-slice_get x.links place []) ∙ h)
    where
      by : (o : Option (List ℕ)) → slice_get x.links place ≡ o → list_any (λ k. k == i) (unwrap_or o []) ≡ true → IsLinkedBy m c id i j
      by None is h = absurd cc
      by (Some links) is h =
          let found = list_any_at (λ k. k == i) links h in
          record {
            instance = x;
            there = there;
            place = place;
            port = port;
            links = links;
            linked = is;
            link_place = found.0;
            leads = subst (λ n. IsAt links found.0 n) (eqb-true found.1 i found.3) found.2;
          }

  -- the port of the id, where the test finds one
  at_port : (x : Instance) → IsAt c j x → (o : Option ℕ) → position (λ p. p.id == id) (ports_at m x.kind) ≡ o
      → IsTrue (list_any (λ k. k == i) (option_map_or (λ k. slice_index_or x.links k []) o [])) → IsLinkedBy m c id i j
  at_port x there None is h = absurd cc
  at_port x there (Some place) is h =
      let first = position_first (λ (p : PortAt). p.id == id) (ports_at m x.kind) place is in
      let port : IsPortOfId m x.kind id place = record {
        port = first.0;
        stands = first.1.there;
        of_id = eqb-true first.0.id id first.1.passes;
        none_before = λ k p lower at same. absurd (false≢true (sym (first.1.none_lower k p lower at) ∙ eq-eqb p.id id same));
      } in
      at_links x there place port h

  -- where the test passes, the instance links back
  pub links_back_at : IsTrue (links_back m c id i j) → IsLinkedBy m c id i j
  links_back_at h = by (slice_get c j) refl h
    where
      by : (o : Option Instance) → slice_get c j ≡ o → IsTrue (list_any (λ k. k == i) (option_map_or (λ x. links_of m x id) o [])) → IsLinkedBy m c id i j
      by None is h = absurd cc
      by (Some x) is h = at_port x is (position (λ p. p.id == id) (ports_at m x.kind)) refl h

  -- an instance that links back passes the test
  pub links_back_from : IsLinkedBy m c id i j → IsTrue (links_back m c id i j)
  links_back_from back =
      let x = back.instance in
      let first : IsFirstPassing (λ (p : PortAt). p.id == id) (ports_at m x.kind) back.place back.port.port = record {
        there = back.port.stands;
        passes = eq-eqb back.port.port.id id back.port.of_id;
        none_lower = λ k p lower at. other p (back.port.none_before k p lower at);
      } in
      let links : links_at_instance m c id j ≡ back.links =
      ap (λ o. option_map_or (λ x. links_of m x id) o []) back.there
      ∙ ap (λ o. option_map_or (λ k. slice_index_or x.links k []) o []) (first_position (λ p. p.id == id) (ports_at m x.kind) back.place back.port.port first)
      ∙ get_or_from_slice_get x.links back.place back.links [] back.linked in
      ap (list_any (λ k. k == i)) links ∙ list_any_from (λ k. k == i) back.links back.link_place i back.leads (eq-eqb i i refl)
    where
      other : (p : PortAt) → ¬ (p.id ≡ id) → (p.id == id) ≡ false
      other p differs = by (p.id == id) refl
        where
          by : (b : Bool) → (p.id == id) ≡ b → b ≡ false
          by true is = absurd (differs (eqb-true p.id id is))
          by false is = refl

module _ (m : Model) (c : List Instance) where
  -- the test of one instance
  abbrev instance_links_back : ℕ × Instance → Bool
  instance_links_back e = pointwise (has_links_back_of m c e.0) (ports_at m e.1.kind) e.1.links

  -- where the test of all passes, so does that of each port of each instance
  pub has_links_back_at : IsTrue (has_links_back m c) → (i k : ℕ) (x : Instance) (p : PortAt) (links : List ℕ) → IsAt c i x → IsAt (ports_at m x.kind) k p
      → IsAt x.links k links → IsTrue (has_links_back_of m c i p links)
  unfolding has_links_back
  has_links_back_at h i k x p links stands port linked =
      let e : 0 + i ≡ i = zero-add i in
      let test = list_all_at instance_links_back (enumerate_from 0 c) h i (0 + i, x) (at_enumerate 0 c i x stands) in
      subst (λ n. IsTrue (has_links_back_of m c n p links)) e (pointwise_at (has_links_back_of m c (0 + i)) (ports_at m x.kind) x.links test k p links port linked)

  -- and the other way round, where each has as many lists of links as its type has ports
  pub has_links_back_from : ((i : ℕ) (x : Instance) → IsAt c i x → IsBuilt m x)
      → ((i k : ℕ) (x : Instance) (p : PortAt) (links : List ℕ) → IsAt c i x → IsAt (ports_at m x.kind) k p → IsAt x.links k links → IsTrue (has_links_back_of m c i p links))
      → IsTrue (has_links_back m c)
  unfolding has_links_back
  has_links_back_from built each = list_all_from instance_links_back (enumerate_from 0 c) (λ n e at.
      let here = enumerate_at 0 c n e at in
      let number : n ≡ e.0 = sym (here.0 ∙ zero-add n) in
      let stands : IsAt c e.0 e.1 = subst (λ k. IsAt c k e.1) number here.1 in
      pointwise_from (has_links_back_of m c e.0) (ports_at m e.1.kind) e.1.links (sym (built e.0 e.1 stands).each_port) (λ k p links port linked.
      each e.0 k e.1 p links stands port linked))

-- the links of a port pass where each linked instance passes, if the port has an inverse
pub each_links_back : (m : Model) (c : List Instance) (i : ℕ) (p : PortAt) (links : List ℕ)
    → ((id h j : ℕ) → p.inverse ≡ Some id → IsAt links h j → IsTrue (links_back m c id i j)) → IsTrue (has_links_back_of m c i p links)
each_links_back m c i p links each = by p.inverse (λ id. each id)
  where
    by : (o : Option ℕ) → ((id h j : ℕ) → o ≡ Some id → IsAt links h j → IsTrue (links_back m c id i j))
        → option_map_or (λ q. list_all (links_back m c q i) links) o true ≡ true
    by None each = refl
    by (Some id) each = list_all_from (links_back m c id i) links (λ h j at. each id h j refl at)

-- where they pass and the port has an inverse, each linked instance passes
pub links_back_each : (m : Model) (c : List Instance) (i : ℕ) (p : PortAt) (links : List ℕ) → IsTrue (has_links_back_of m c i p links)
    → (id h j : ℕ) → p.inverse ≡ Some id → IsAt links h j → IsTrue (links_back m c id i j)
links_back_each m c i p links test id h j inverse at =
    list_all_at (links_back m c id i) links (sym (ap (λ o. option_map_or (λ q. list_all (links_back m c q i) links) o true) inverse) ∙ test) h j at
