-- What is required or excluded narrows a port.
use Rattle.std.proofs.Common.{◌≡◌, ℕ, Bool, true, false, not, ◌==◌, refl, ap, sym, ◌∙◌, subst, inl, inr, eqb-true, eq-eqb, le_refl}
use Rattle.std.specs.Prelude.{IsTrue, ◌↔◌}
use Rattle.std.proofs.lemmas.Bool.{and_parts, and_from, or_cases, or_left, or_right, false≢true}
use Rattle.instance_set.specs.declared.set.InstanceSet.{InstanceSet}
use Rattle.instance_set.specs.InstanceSets.{is_member}
use Rattle.domain_store.specs.declared.change.Change.TheVariants.{Same, Smaller, Empty}
use Rattle.port_wildcards.specs.declared.port_domain.PortDomain.{PortDomain}
use Rattle.port_wildcards.specs.Ports.{PortLinks, is_linked, IsPort, NarrowsLinks, Gains, Loses, with_required, with_possible}
use Rattle.port_wildcards.specs.Allowed.{IsAllowed}
use Rattle.port_wildcards.proofs.Sets.{has-members}
use Rattle.port_wildcards.proofs.Narrowed.{links_to, least_allowed, most_allowed, narrows_empty, narrows_same, narrows_smaller}

not_from : (b : Bool) → ¬ IsTrue b → IsTrue (not b)
not_from true fails = absurd (fails refl)
not_from false fails = refl

not_both : (b : Bool) → IsTrue (not b) → ¬ IsTrue b
not_both true fails passes = false≢true fails
not_both false fails passes = false≢true passes

module _ (q : PortDomain) (j : ℕ) (formed : IsPort q) where
  abbrev least : PortLinks
  least = links_to q.required q.fresh_low

  abbrev most : PortLinks
  most = links_to q.possible q.fresh_low

  least_is : IsAllowed q least
  least_is = least_allowed q q.fresh_low formed (le_refl q.fresh_low) formed.ordered

  most_is : IsAllowed q most
  most_is = most_allowed q q.fresh_low formed (le_refl q.fresh_low) formed.ordered

  -- ---- j must be linked

  pub required_empty : is_member q.possible j ≡ false → NarrowsLinks (λ l. is_linked l j) Empty q q
  required_empty out = narrows_empty (λ l. is_linked l j) q least least_is (λ l a linked. false≢true (sym out ∙ a.possible j linked))

  pub required_same : is_member q.required j ≡ true → NarrowsLinks (λ l. is_linked l j) Same q q
  required_same inside = narrows_same (λ l. is_linked l j) q least least_is (λ l a. a.required j inside)

  module _ (s : InstanceSet) (gains : Gains j q.required s) (inside : is_member q.possible j ≡ true) (out : is_member q.required j ≡ false) where
    required_exact : (l : PortLinks) → IsAllowed (with_required s q) l ↔ (IsAllowed q l × IsTrue (is_linked l j))
    required_exact l = (
      λ a. (
        record {
          required = λ k there. a.required k (gains k ∙ or_left _ _ there);
          possible = a.possible;
          enough = a.enough;
          few = a.few;
        },
        a.required j (gains j ∙ or_right _ _ (eq-eqb j j refl)),
      ),
      λ both. record {
        required = λ k there. elim (or_cases (is_member q.required k) (k == j) (sym (gains k) ∙ there)) [
          | inl before ↦ both.0.required k before
          | inr here ↦ subst (λ i. IsTrue (is_linked l i)) (sym (eqb-true k j here)) both.1
        ];
        possible = both.0.possible;
        enough = both.0.enough;
        few = both.0.few;
      },
    )

    pub required_smaller : NarrowsLinks (λ l. is_linked l j) Smaller q (with_required s q)
    required_smaller =
        narrows_smaller (λ l. is_linked l j) q (with_required s q) most least most_is (has-members q.possible j ∙ inside)
        least_is (λ linked. false≢true (sym out ∙ (sym (has-members q.required j) ∙ linked))) required_exact

  -- ---- j may not be linked

  pub excluded_empty : is_member q.required j ≡ true → NarrowsLinks (λ l. not (is_linked l j)) Empty q q
  excluded_empty inside =
      narrows_empty (λ l. not (is_linked l j)) q least least_is (λ l a h. not_both (is_linked l j) h (a.required j inside))

  pub excluded_same : is_member q.possible j ≡ false → NarrowsLinks (λ l. not (is_linked l j)) Same q q
  excluded_same out = narrows_same (λ l. not (is_linked l j)) q least least_is (λ l a.
      not_from (is_linked l j) (λ linked. false≢true (sym out ∙ a.possible j linked)))

  module _ (s : InstanceSet) (loses : Loses j q.possible s) (inside : is_member q.possible j ≡ true) (out : is_member q.required j ≡ false) where
    excluded_exact : (l : PortLinks) → IsAllowed (with_possible s q) l ↔ (IsAllowed q l × IsTrue (not (is_linked l j)))
    excluded_exact l = (
      λ a. (
        record {
          required = a.required;
          possible = λ k linked. (and_parts _ _ (sym (loses k) ∙ a.possible k linked)).0;
          enough = a.enough;
          few = a.few;
        },
        not_from (is_linked l j) (λ linked.
            not_both (j == j) (and_parts _ _ (sym (loses j) ∙ a.possible j linked)).1 (eq-eqb j j refl)),
      ),
      λ both. record {
        required = both.0.required;
        possible = λ k linked. loses k ∙ and_from _ _ (both.0.possible k linked) (not_from (k == j) (λ here.
            not_both (is_linked l j) both.1 (subst (λ i. IsTrue (is_linked l i)) (eqb-true k j here) linked)));
        enough = both.0.enough;
        few = both.0.few;
      },
    )

    pub excluded_smaller : NarrowsLinks (λ l. not (is_linked l j)) Smaller q (with_possible s q)
    excluded_smaller =
        narrows_smaller (λ l. not (is_linked l j)) q (with_possible s q) least most least_is (ap not (has-members q.required j ∙ out))
        most_is (λ h. not_both (is_linked most j) h (has-members q.possible j ∙ inside)) excluded_exact
