-- What a port allows where the next instance is made, and where nothing is left open.
use Rattle.std.proofs.Common.{◌≡◌, ℕ, ◌-◌, ◌≤◌, ◌==◌, refl, sym, ◌∙◌, subst, inl, inr, arith, eqb-true, eq-eqb}
use Rattle.std.specs.Prelude.{IsTrue}
use Rattle.std.specs.Cmp.Derive.{one_truth}
use Rattle.std.proofs.lemmas.Bool.{or_cases, or_left, or_right, false≢true}
use Rattle.instance_set.specs.InstanceSets.{is_member}
use Rattle.port_wildcards.specs.declared.port_domain.PortDomain.{PortDomain}
use Rattle.port_wildcards.specs.Ports.{PortLinks, is_linked, allows, IsPort, IsClosed, Gains}
use Rattle.port_wildcards.specs.Allowed.{IsAllowed, WholeAllowsOne}
use Rattle.port_wildcards.specs.Made.{LeadsTo, MakesHere, MakesElsewhere}
use Rattle.port_wildcards.proofs.Narrowed.{allowed_sentences}

-- what is allowed before is after, by sentences
by_sentences : (old new : PortDomain) (l l' : PortLinks) → (IsAllowed old l → IsAllowed new l') → IsTrue (allows old l) → IsTrue (allows new l')
by_sentences old new l l' follows h = (allowed_sentences new l').1 (follows ((allowed_sentences old l).0 h))

module _ (j : ℕ) (old new : PortDomain) where
  -- what is linked after is possible after
  leads_possible : Gains j old.possible new.possible → (l l' : PortLinks) → LeadsTo j l l' → IsAllowed old l
      → (k : ℕ) → IsTrue (is_linked l' k) → IsTrue (is_member new.possible k)
  leads_possible gains l l' leads a k there = elim (or_cases (is_linked l k) (k == j) (sym (leads.linked k) ∙ there)) [
    | inl before ↦ gains k ∙ or_left _ _ (a.possible k before)
    | inr here ↦ gains k ∙ or_right _ _ here
  ]

  pub makes_here : Gains j old.required new.required → Gains j old.possible new.possible → new.fresh_low ≡ old.fresh_low - 1
      → new.fresh_high ≡ old.fresh_high - 1 → 1 ≤ old.fresh_high → IsPort old → MakesHere j old new
  makes_here required possible low high some formed = record {
    kept = λ l l' leads. by_sentences old new l l' (λ a. record {
      required = λ k there. elim (or_cases (is_member old.required k) (k == j) (sym (required k) ∙ there)) [
        | inl before ↦ leads.linked k ∙ or_left _ _ (a.required k before)
        | inr here ↦ leads.linked k ∙ or_right _ _ here
      ];
      possible = leads_possible possible l l' leads a;
      enough = omega (arith, low, leads.later, a.enough);
      few = omega (arith, high, some, leads.later, a.few);
    });
    linked = λ l h. ((allowed_sentences new l).0 h).required j (required j ∙ or_right _ _ (eq-eqb j j refl));
    only = λ none l l' leads apart. by_sentences new old l' l (λ a. record {
      required = λ k there. elim (or_cases (is_linked l k) (k == j) (sym (leads.linked k) ∙ a.required k (required k ∙ or_left _ _ there))) [
        | inl linked ↦ linked
        | inr here ↦ absurd (false≢true (sym none ∙ formed.within j (subst (λ i. IsTrue (is_member old.required i)) (eqb-true k j here) there)))
      ];
      possible = λ k linked. elim (or_cases (is_member old.possible k) (k == j) (sym (possible k) ∙ a.possible k (leads.linked k ∙ or_left _ _ linked))) [
        | inl before ↦ before
        | inr here ↦ absurd (false≢true (sym apart ∙ subst (λ i. IsTrue (is_linked l i)) (eqb-true k j here) linked))
      ];
      enough = omega (arith, low, leads.later, a.enough);
      few = omega (arith, high, some, leads.later, a.few);
    });
  }

  pub makes_elsewhere : new.required ≡ old.required → Gains j old.possible new.possible → new.fresh_low ≡ old.fresh_low - 1
      → new.fresh_high ≡ old.fresh_high → MakesElsewhere j old new
  makes_elsewhere required possible low high = record {
    apart = λ l. by_sentences old new l l (λ a. record {
      required = λ k there. a.required k (stays k there);
      possible = λ k linked. possible k ∙ or_left _ _ (a.possible k linked);
      enough = omega (arith, low, a.enough);
      few = omega (arith, high, a.few);
    });
    linked = λ l l' leads. by_sentences old new l l' (λ a. record {
      required = λ k there. leads.linked k ∙ or_left _ _ (a.required k (stays k there));
      possible = leads_possible possible l l' leads a;
      enough = omega (arith, low, leads.later, a.enough);
      few = omega (arith, high, leads.later, a.few);
    });
  }
    where
      stays : (k : ℕ) → IsTrue (is_member new.required k) → IsTrue (is_member old.required k)
      stays k = subst (λ s. IsTrue (is_member s k) → IsTrue (is_member old.required k)) (sym required) (λ h. h)

-- a closed port stays as it is, since none of its links is a later one
pub closed_elsewhere : (j : ℕ) (q : PortDomain) → IsClosed q → MakesElsewhere j q q
closed_elsewhere j q closed = record {
  apart = λ l h. h;
  linked = λ l l' leads h. let a = (allowed_sentences q l).0 h in absurd (omega (arith, closed, leads.later, a.few));
}

-- where nothing is left open there is one set of links
pub whole_allows_one : WholeAllowsOne
whole_allows_one q l formed whole = (
  λ h.
      let a = (allowed_sentences q l).0 h in
      (λ j. one_truth _ _ (λ linked. whole.1 j (a.possible j linked)) (a.required j), omega (arith, whole.0, a.few)),
  λ only. (allowed_sentences q l).1 (record {
    required = λ j there. only.0 j ∙ there;
    possible = λ j linked. formed.within j (sym (only.0 j) ∙ linked);
    enough = omega (arith, formed.ordered, whole.0, only.1);
    few = omega (arith, only.1);
  }),
)
