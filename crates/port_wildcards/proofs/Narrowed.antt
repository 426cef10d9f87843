-- The narrowings of a port, by what it allows before and after.
use Rattle.std.proofs.Common.{ℕ, ◌≤◌, Bool, ◌&&◌, nat_le, refl, sym, ◌∙◌, leb-true, le-leb}
use Rattle.std.specs.Prelude.{IsTrue, ◌↔◌}
use Rattle.std.specs.List.{list_all}
use Rattle.std.specs.Cmp.Derive.{one_truth}
use Rattle.std.proofs.lemmas.Bool.{and_parts, and_from}
use Rattle.instance_set.specs.declared.set.InstanceSet.{InstanceSet}
use Rattle.instance_set.specs.InstanceSets.{is_member, members}
use Rattle.domain_store.specs.declared.change.Change.TheVariants.{Same, Smaller, Empty}
use Rattle.port_wildcards.specs.declared.port_domain.PortDomain.{PortDomain}
use Rattle.port_wildcards.specs.Ports.{PortLinks, is_linked, allows, IsPort, NarrowsLinks}
use Rattle.port_wildcards.specs.Allowed.{IsAllowed, AllowedSentences}
use Rattle.port_wildcards.proofs.Sets.{all_has, all_from_has, has-members}

abbrev has_required : PortDomain → PortLinks → Bool
has_required q l = list_all (is_linked l) (members q.required)

abbrev has_possible : PortDomain → PortLinks → Bool
has_possible q l = list_all (is_member q.possible) l.to_made

abbrev has_count : PortDomain → PortLinks → Bool
has_count q l = nat_le q.fresh_low l.later && nat_le l.later q.fresh_high

-- the test of links, in sentences
pub allowed_sentences : AllowedSentences
unfolding allows
allowed_sentences q l = (
  λ h.
      let parts = and_parts (has_required q l) (has_possible q l && has_count q l) h in
      let rest = and_parts (has_possible q l) (has_count q l) parts.1 in
      let bounds = and_parts (nat_le q.fresh_low l.later) (nat_le l.later q.fresh_high) rest.1 in
      record {
        required = λ j there. all_has (is_linked l) (members q.required) j parts.0 (has-members q.required j ∙ there);
        possible = λ j there. all_has (is_member q.possible) l.to_made j rest.0 there;
        enough = leb-true q.fresh_low l.later bounds.0;
        few = leb-true l.later q.fresh_high bounds.1;
      },
  λ a.
      and_from (has_required q l) (has_possible q l && has_count q l)
      (all_from_has (is_linked l) (members q.required) (λ j there. a.required j (sym (has-members q.required j) ∙ there)))
      (and_from (has_possible q l) (has_count q l)
      (all_from_has (is_member q.possible) l.to_made (λ j there. a.possible j there))
      (and_from _ _ (le-leb q.fresh_low l.later a.enough) (le-leb l.later q.fresh_high a.few))),
)

-- the links to all instances of a set, and to some later ones
abbrev pub links_to : InstanceSet → ℕ → PortLinks
links_to s n = record { to_made = members s; later = n }

-- what a port requires it may link alone
pub least_allowed : (q : PortDomain) (n : ℕ) → IsPort q → q.fresh_low ≤ n → n ≤ q.fresh_high → IsAllowed q (links_to q.required n)
least_allowed q n formed enough few = record {
  required = λ j there. has-members q.required j ∙ there;
  possible = λ j there. formed.within j (sym (has-members q.required j) ∙ there);
  enough = enough;
  few = few;
}

-- and all that is possible
pub most_allowed : (q : PortDomain) (n : ℕ) → IsPort q → q.fresh_low ≤ n → n ≤ q.fresh_high → IsAllowed q (links_to q.possible n)
most_allowed q n formed enough few = record {
  required = λ j there. has-members q.possible j ∙ formed.within j there;
  possible = λ j there. sym (has-members q.possible j) ∙ there;
  enough = enough;
  few = few;
}

module _ (test : PortLinks → Bool) (q : PortDomain) where
  allowed : (l : PortLinks) → IsTrue (allows q l) → IsAllowed q l
  allowed l = (allowed_sentences q l).0

  -- nothing that is allowed passes
  pub narrows_empty : (l : PortLinks) → IsAllowed q l → ((l : PortLinks) → IsAllowed q l → ¬ IsTrue (test l)) → NarrowsLinks test Empty q q
  narrows_empty l0 some none = record {
    empty = (λ e l there. none l (allowed l there), λ e. refl);
    same = (λ e. absurd cc, λ each. absurd (none l0 some (each l0 ((allowed_sentences q l0).1 some))));
    unchanged = λ e. refl;
    narrowed = λ e. absurd (e refl);
  }

  -- all that is allowed passes
  pub narrows_same : (l : PortLinks) → IsAllowed q l → ((l : PortLinks) → IsAllowed q l → IsTrue (test l)) → NarrowsLinks test Same q q
  narrows_same l0 some all = record {
    empty = (λ e. absurd cc, λ none. absurd (none l0 ((allowed_sentences q l0).1 some) (all l0 some)));
    same = (λ e l there. all l (allowed l there), λ e. refl);
    unchanged = λ e. refl;
    narrowed = λ e l. one_truth _ _ (λ there. and_from _ _ there (all l (allowed l there))) (λ both. (and_parts _ _ both).0);
  }

  -- some that is allowed passes and some fails, and what passes is left
  pub narrows_smaller : (new : PortDomain) (passing failing : PortLinks) → IsAllowed q passing → IsTrue (test passing) → IsAllowed q failing → ¬ IsTrue (test failing)
      → ((l : PortLinks) → IsAllowed new l ↔ (IsAllowed q l × IsTrue (test l))) → NarrowsLinks test Smaller q new
  narrows_smaller new passing failing some passes other fails exact = record {
    empty = (λ e. absurd cc, λ none. absurd (none passing ((allowed_sentences q passing).1 some) passes));
    same = (λ e. absurd cc, λ each. absurd (fails (each failing ((allowed_sentences q failing).1 other))));
    unchanged = λ e. absurd (e refl);
    narrowed = λ e l. one_truth _ _
        (λ there. let both = (exact l).0 ((allowed_sentences new l).0 there) in and_from _ _ ((allowed_sentences q l).1 both.0) both.1)
        (λ both. let parts = and_parts _ _ both in (allowed_sentences new l).1 ((exact l).1 (allowed l parts.0, parts.1)));
  }
