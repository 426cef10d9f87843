-- First mentions by the places of links are the first links that lead to an instance, of all links in order.
use Rattle.std.proofs.Common.{◌≡◌, ◌∙◌, ℕ, ◌<◌, ◌+◌, ◌==◌, true, false, Bool, List, map, refl, sym, ap, subst, eqb-true, eq-eqb, ne_eqb, zero-add, arith, Some}
use Rattle.std.specs.List.{enumerate_from}
use Rattle.std.proofs.lemmas.Bool.{cases_Bool}
use Rattle.std.proofs.Common.{inl, inr}
use Rattle.base_laws.specs.Places.{IsAt}
use Rattle.base_laws.proofs.Places.{map_at, at_map}
use Rattle.base_laws.proofs.Ranges.{at_enumerate, enumerate_at}
use Rattle.base_laws.proofs.Finding.{IsFirstPassing}
use Rattle.base_laws.proofs.Triples.{Triple, StandsAt, place_of, triple_at, at_triple, earlier_place, earlier_triple}
use Rattle.config_value.specs.declared.configuration.Instance.{Instance}
use Rattle.config_value.specs.Numbered.{Link, all_links}
use Rattle.config_value.specs.Links.{LinkPlace, IsLinkTo, IsLinkBefore, IsFirstMention}
use Rattle.config_value.proofs.LinkTriples.{triple_of, link_place}
use Rattle.config_value.proofs.Mention.{leads_to}

module _ (c : List Instance) where
  -- the lists of links of an instance, each by its port
  abbrev ports_of : ℕ × Instance → List (List ℕ)
  ports_of e = e.1.links

  abbrev links_from : ℕ × Instance → List ℕ → List Link
  links_from e links = map (λ j. record { from = e.0; to = j }) links

  -- a link stands among all links
  abbrev stands : (j : ℕ) (l : LinkPlace) → IsLinkTo c j l → StandsAt ports_of links_from (enumerate_from 0 c) (triple_of l) (record { from = l.from; to = j })
  stands j l is = record {
    owner = (l.from, is.instance);
    owns = at_enumerate 0 c l.from is.instance is.stands ∙ ap (λ k. Some (k, is.instance)) (zero-add l.from);
    list = is.links;
    listed = is.linked;
    there = at_map (λ k. record { from = l.from; to = k }) is.links l.place j is.leads;
  }

  -- what stands among all links leads to its instance, from the one that it names
  abbrev linked : (t : Triple) (w : Link) → StandsAt ports_of links_from (enumerate_from 0 c) t w → IsLinkTo c w.to (link_place t) × (w.from ≡ t.first)
  linked t w s =
      let numbered = enumerate_at 0 c t.first s.owner s.owns in
      let to = map_at (λ j. record { from = s.owner.0; to = j }) s.list t.third w s.there in
      let At : ℕ → Type 0 = λ k. IsAt s.list t.third k in (
        record {
          instance = s.owner.1;
          stands = numbered.1;
          links = s.list;
          linked = s.listed;
          leads = subst At (ap (λ l. l.to) to.2) to.1;
        },
        ap (λ l. l.from) (sym to.2) ∙ numbered.0 ∙ zero-add t.first,
      )

  -- the place of a link among all links
  abbrev pub number_of : (j : ℕ) (l : LinkPlace) → IsLinkTo c j l → ℕ
  number_of j l is = place_of ports_of links_from (enumerate_from 0 c) (l.from, is.instance) (triple_of l)

  -- links that come before have lower places, and the other way round
  pub lower_number : (i j : ℕ) (a b : LinkPlace) (first : IsLinkTo c i a) (second : IsLinkTo c j b)
      → number_of i a first < number_of j b second → IsLinkBefore a b
  lower_number i j a b first second =
      earlier_triple ports_of links_from (enumerate_from 0 c) (triple_of a) (triple_of b) (record { from = a.from; to = i })
      (record { from = b.from; to = j }) (stands i a first) (stands j b second)

  pub number_lower : (i j : ℕ) (a b : LinkPlace) (first : IsLinkTo c i a) (second : IsLinkTo c j b)
      → IsLinkBefore a b → number_of i a first < number_of j b second
  number_lower i j a b first second =
      earlier_place ports_of links_from (enumerate_from 0 c) (triple_of a) (triple_of b) (record { from = a.from; to = i })
      (record { from = b.from; to = j }) (stands i a first) (stands j b second)

  -- a link of all is at a place
  pub record IsPlaced (n : ℕ) (w : Link) : Type 0 where
    pub place : LinkPlace
    pub leads : IsLinkTo c w.to place
    pub from : w.from ≡ place.from
    pub number : n ≡ number_of w.to place leads

  placed : (n : ℕ) (w : Link) → IsAt (all_links c) n w → IsPlaced n w
  placed n w there =
      let found = at_triple ports_of links_from (enumerate_from 0 c) n w there in
      let is = linked found.triple w found.stands in
      let numbered = enumerate_at 0 c found.triple.first found.stands.owner found.stands.owns in
      let own : found.stands.owner.0 ≡ found.triple.first = numbered.0 ∙ zero-add found.triple.first in
      record {
        place = link_place found.triple;
        leads = is.0;
        from = is.1;
        number = found.is
            ∙ ap (λ k. place_of ports_of links_from (enumerate_from 0 c) (k, found.stands.owner.1) found.triple) own;
      }

  -- the first link that leads to an instance is its first mention
  pub record IsMentioned (j n : ℕ) (w : Link) : Type 0 where
    pub mention : LinkPlace
    pub first : IsFirstMention c j mention
    pub from : w.from ≡ mention.from
    pub number : n ≡ number_of j mention first.is

  pub first_mentioned : (j n : ℕ) (w : Link) → IsFirstPassing (leads_to j) (all_links c) n w → IsMentioned j n w
  first_mentioned j n w first =
      let at = placed n w first.there in
      let to : w.to ≡ j = eqb-true w.to j first.passes in
      let Leads : ℕ → Type 0 = λ k. IsLinkTo c k at.place in
      let is : IsLinkTo c j at.place = record {
        instance = at.leads.instance;
        stands = at.leads.stands;
        links = at.leads.links;
        linked = at.leads.linked;
        leads = let At : ℕ → Type 0 = λ k. IsAt at.leads.links at.place.place k in subst At to at.leads.leads;
      } in
      let number : n ≡ number_of j at.place is = at.number in
      record {
        mention = at.place;
        first = record {
          is = is;
          none_before = λ l leads before.
              let lower = number_lower j j l at.place leads is before in
              let passes : leads_to j (record { from = l.from; to = j }) ≡ true = eq-eqb j j refl in
              let fails = first.none_lower (number_of j l leads) (record { from = l.from; to = j }) (omega arith)
              (triple_at ports_of links_from (enumerate_from 0 c) (triple_of l) (record { from = l.from; to = j }) (stands j l leads)) in
              absurd cc;
        };
        from = at.from;
        number = number;
      }

  -- and the other way round
  pub mention_first : (j : ℕ) (l : LinkPlace) (first : IsFirstMention c j l)
      → IsFirstPassing (leads_to j) (all_links c) (number_of j l first.is) (record { from = l.from; to = j })
  mention_first j l first = record {
    there = triple_at ports_of links_from (enumerate_from 0 c) (triple_of l) (record { from = l.from; to = j }) (stands j l first.is);
    passes = eq-eqb j j refl;
    none_lower = λ k w lower at. elim (cases_Bool (leads_to j w)) [
      | inl leads ↦
          (let it = placed k w at in
          let to : w.to ≡ j = eqb-true w.to j leads in
          let is : IsLinkTo c j it.place = record {
            instance = it.leads.instance;
            stands = it.leads.stands;
            links = it.leads.links;
            linked = it.leads.linked;
            leads = let At : ℕ → Type 0 = λ i. IsAt it.leads.links it.place.place i in subst At to it.leads.leads;
          } in
          let number : k ≡ number_of j it.place is = it.number in
          absurd (first.none_before it.place is (lower_number j j it.place l is first.is (omega arith))))
      | inr fails ↦ fails
    ];
  }
