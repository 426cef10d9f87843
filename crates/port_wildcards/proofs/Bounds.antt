-- Bounds on the later links narrow a port.
use Rattle.std.proofs.Common.{ℕ, ◌<◌, ◌≤◌, nat_le, arith, leb-true, le-leb, le_refl}
use Rattle.std.specs.Prelude.{IsTrue, ◌↔◌}
use Rattle.domain_store.specs.declared.change.Change.TheVariants.{Same, Smaller, Empty}
use Rattle.port_wildcards.specs.declared.port_domain.PortDomain.{PortDomain}
use Rattle.port_wildcards.specs.Ports.{PortLinks, IsPort, NarrowsLinks, with_fresh}
use Rattle.port_wildcards.specs.Allowed.{IsAllowed}
use Rattle.port_wildcards.proofs.Narrowed.{links_to, least_allowed, narrows_empty, narrows_same, narrows_smaller}

module _ (q : PortDomain) (n : ℕ) (formed : IsPort q) where
  abbrev fewest : PortLinks
  fewest = links_to q.required q.fresh_low

  abbrev greatest : PortLinks
  greatest = links_to q.required q.fresh_high

  fewest_is : IsAllowed q fewest
  fewest_is = least_allowed q q.fresh_low formed (le_refl q.fresh_low) formed.ordered

  greatest_is : IsAllowed q greatest
  greatest_is = least_allowed q q.fresh_high formed formed.ordered (le_refl q.fresh_high)

  -- ---- at most n

  pub at_most_empty : n < q.fresh_low → NarrowsLinks (λ l. nat_le l.later n) Empty q q
  at_most_empty below = narrows_empty (λ l. nat_le l.later n) q fewest fewest_is (λ l a h. omega (arith, below, a.enough, leb-true l.later n h))

  pub at_most_same : q.fresh_high ≤ n → NarrowsLinks (λ l. nat_le l.later n) Same q q
  at_most_same above = narrows_same (λ l. nat_le l.later n) q fewest fewest_is (λ l a. le-leb l.later n (omega (arith, above, a.few)))

  at_most_exact : n < q.fresh_high → (l : PortLinks) → IsAllowed (with_fresh q.fresh_low n q) l ↔ (IsAllowed q l × IsTrue (nat_le l.later n))
  at_most_exact below l = (
    λ a. (
      record { required = a.required; possible = a.possible; enough = a.enough; few = omega (arith, below, a.few) },
      le-leb l.later n a.few,
    ),
    λ both. record {
      required = both.0.required;
      possible = both.0.possible;
      enough = both.0.enough;
      few = leb-true l.later n both.1;
    },
  )

  pub at_most_smaller : q.fresh_low ≤ n → n < q.fresh_high → NarrowsLinks (λ l. nat_le l.later n) Smaller q (with_fresh q.fresh_low n q)
  at_most_smaller enough below =
      narrows_smaller (λ l. nat_le l.later n) q (with_fresh q.fresh_low n q) fewest greatest fewest_is (le-leb q.fresh_low n enough)
      greatest_is (λ h. omega (arith, below, leb-true q.fresh_high n h)) (at_most_exact below)

  -- ---- at least n

  pub at_least_empty : q.fresh_high < n → NarrowsLinks (λ l. nat_le n l.later) Empty q q
  at_least_empty above = narrows_empty (λ l. nat_le n l.later) q fewest fewest_is (λ l a h. omega (arith, above, a.few, leb-true n l.later h))

  pub at_least_same : n ≤ q.fresh_low → NarrowsLinks (λ l. nat_le n l.later) Same q q
  at_least_same below = narrows_same (λ l. nat_le n l.later) q fewest fewest_is (λ l a. le-leb n l.later (omega (arith, below, a.enough)))

  at_least_exact : q.fresh_low < n → (l : PortLinks) → IsAllowed (with_fresh n q.fresh_high q) l ↔ (IsAllowed q l × IsTrue (nat_le n l.later))
  at_least_exact above l = (
    λ a. (
      record { required = a.required; possible = a.possible; enough = omega (arith, above, a.enough); few = a.few },
      le-leb n l.later a.enough,
    ),
    λ both. record {
      required = both.0.required;
      possible = both.0.possible;
      enough = leb-true n l.later both.1;
      few = both.0.few;
    },
  )

  pub at_least_smaller : n ≤ q.fresh_high → q.fresh_low < n → NarrowsLinks (λ l. nat_le n l.later) Smaller q (with_fresh n q.fresh_high q)
  at_least_smaller few above =
      narrows_smaller (λ l. nat_le n l.later) q (with_fresh n q.fresh_high q) greatest fewest greatest_is (le-leb n q.fresh_high few)
      fewest_is (λ h. omega (arith, above, leb-true n q.fresh_low h)) (at_least_exact above)
