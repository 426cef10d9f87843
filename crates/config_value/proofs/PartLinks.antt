-- Part links by their places, and how many lead to an instance.
use Rattle.std.proofs.Common.{◌≡◌, ◌∙◌, ℕ, ◌==◌, Bool, true, false, List, [], length, Some, refl, sym, ap, ap₂, subst, eqb-true, eq-eqb, arith, if◌then◌else◌}
use Rattle.std.specs.Prelude.{IsTrue}
use Rattle.std.specs.List.{flat_map, zip}
use Rattle.std.proofs.lemmas.Option.{none-some}
use Rattle.base_laws.specs.Places.{IsAt}
use Rattle.base_laws.proofs.Counts.{PassesOnce, PassesNowhere}
use Rattle.base_laws.proofs.Lists.{zip_first, zip_second, slice_get_zip}
use Rattle.base_laws.proofs.Triples.{Triple, StandsAt, place_of, triple_at, at_triple, same_place, same_triple}
use Rattle.prod_model.specs.declared.model.Model.{Model}
use Rattle.prod_model.specs.declared.model.PortAt.{PortAt}
use Rattle.prod_model.specs.declared.model.PortKind.{PortKind}
use Rattle.prod_model.specs.declared.model.PortKind.TheVariants.{Part, Shared}
use Rattle.prod_model.specs.Taxonomy.{ports_at}
use Rattle.config_value.specs.declared.configuration.Instance.{Instance}
use Rattle.config_value.specs.Shaped.{is_part, part_links}
use Rattle.config_value.specs.Links.{LinkPlace, IsLinkTo, IsPartLink}
use Rattle.config_value.proofs.LinkTriples.{triple_of, link_place, same_link_place}

-- a port whose links are to parts is of that kind
is_part_kind : (p : PortAt) → is_part p ≡ true → p.kind ≡ Part
is_part_kind p h = by p.kind h
  where
    by : (k : PortKind) → elim k [ Part ↦ true | Shared ↦ false ] ≡ true → k ≡ Part
    by Part h = refl
    by Shared h = absurd cc

kind_is_part : (p : PortAt) → p.kind ≡ Part → is_part p ≡ true
kind_is_part p is = ap (λ k. elim k [ Part ↦ true | Shared ↦ false ]) is

module _ (m : Model) (c : List Instance) where
  -- each port of an instance with its links
  abbrev ports_with_links : Instance → List (PortAt × List ℕ)
  ports_with_links x = zip (ports_at m x.kind) x.links

  abbrev links_of_part : Instance → PortAt × List ℕ → List ℕ
  links_of_part x pair = if is_part pair.0 then pair.1 else []

  -- a part link stands among all part links
  stands : (j : ℕ) (l : LinkPlace) → IsPartLink m c j l → StandsAt ports_with_links links_of_part c (triple_of l) j
  stands j l is =
      let Has : Bool → Type 0 = λ b. IsAt (if b then is.link.links else []) l.place j in
      record {
        owner = is.link.instance;
        owns = is.link.stands;
        list = (is.port, is.link.links);
        listed = slice_get_zip (ports_at m is.link.instance.kind) is.link.instance.links l.port is.port is.link.links is.declared is.link.linked;
        there = subst Has (sym (kind_is_part is.port is.part)) is.link.leads;
      }

  -- what stands among all part links is one
  linked : (t : Triple) (j : ℕ) → StandsAt ports_with_links links_of_part c t j → IsPartLink m c j (link_place t)
  linked t j s = by (is_part s.list.0) refl s.there
    where
      by : (b : Bool) → is_part s.list.0 ≡ b → IsAt (if b then s.list.1 else []) t.third j → IsPartLink m c j (link_place t)
      by true part there = record {
        link = record {
          instance = s.owner;
          stands = s.owns;
          links = s.list.1;
          linked = zip_second (ports_at m s.owner.kind) s.owner.links t.second s.list s.listed;
          leads = there;
        };
        port = s.list.0;
        declared = zip_first (ports_at m s.owner.kind) s.owner.links t.second s.list s.listed;
        part = is_part_kind s.list.0 part;
      }
      by false other there = absurd (none-some j there)

  -- where no two part links lead to an instance, it stands once among all part links
  pub parts_once : (j : ℕ) → ((a b : LinkPlace) → IsPartLink m c j a → IsPartLink m c j b → a ≡ b) → PassesOnce (λ k. k == j) (part_links m c)
  parts_once j one n o x y at_x at_y first second =
      let Leads : ℕ → Triple → Type 0 = λ k t. StandsAt ports_with_links links_of_part c t k in
      let p = at_triple ports_with_links links_of_part c n x at_x in
      let q = at_triple ports_with_links links_of_part c o y at_y in
      let To : Triple → ℕ → Type 0 = λ t k. Leads k t in
      let s = subst (To p.triple) (eqb-true x j first) p.stands in
      let t = subst (To q.triple) (eqb-true y j second) q.stands in
      let same : p.triple ≡ q.triple = ap triple_of (one (link_place p.triple) (link_place q.triple) (linked p.triple j s) (linked q.triple j t)) in
      p.is ∙ same_place ports_with_links links_of_part c p.triple q.triple x y p.stands q.stands same ∙ sym q.is

  -- and the other way round
  pub once_parts : (j : ℕ) → PassesOnce (λ k. k == j) (part_links m c) → (a b : LinkPlace) → IsPartLink m c j a → IsPartLink m c j b → a ≡ b
  once_parts j once a b first second =
      let s = stands j a first in
      let t = stands j b second in
      let leads : IsTrue (j == j) = eq-eqb j j refl in
      let same = once (place_of ports_with_links links_of_part c s.owner (triple_of a)) (place_of ports_with_links links_of_part c t.owner (triple_of b)) j j
      (triple_at ports_with_links links_of_part c (triple_of a) j s) (triple_at ports_with_links links_of_part c (triple_of b) j t) leads leads in
      same_link_place a b (same_triple ports_with_links links_of_part c (triple_of a) (triple_of b) j j s t same)

  -- where no part link leads to an instance, it doesn't stand among them
  pub parts_nowhere : (j : ℕ) → ((a : LinkPlace) → ¬ IsPartLink m c j a) → PassesNowhere (λ k. k == j) (part_links m c)
  parts_nowhere j none n x at_x leads =
      let p = at_triple ports_with_links links_of_part c n x at_x in
      let To : ℕ → Type 0 = λ k. StandsAt ports_with_links links_of_part c p.triple k in
      none (link_place p.triple) (linked p.triple j (subst To (eqb-true x j leads) p.stands))

  pub nowhere_parts : (j : ℕ) → PassesNowhere (λ k. k == j) (part_links m c) → (a : LinkPlace) → ¬ IsPartLink m c j a
  nowhere_parts j nowhere a is =
      let s = stands j a is in
      nowhere (place_of ports_with_links links_of_part c s.owner (triple_of a)) j (triple_at ports_with_links links_of_part c (triple_of a) j s) (eq-eqb j j refl)
