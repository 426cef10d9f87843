-- The links that a port may have, in sentences.
use Rattle.std.specs.Prelude.{◌≡◌, ℕ, ◌≤◌, ◌↔◌, IsTrue}
use Rattle.instance_set.specs.InstanceSets.{is_member}
use Rattle.port_wildcards.specs.declared.port_domain.PortDomain.{PortDomain}
use Rattle.port_wildcards.specs.Ports.{PortLinks, is_linked, allows, IsPort, IsWhole}

-- The links have what is required and lie within what is possible, and as many of them are later
-- ones as the bounds allow.
pub record IsAllowed (q : PortDomain) (l : PortLinks) : Type 0 where
  pub required : (j : ℕ) → IsTrue (is_member q.required j) → IsTrue (is_linked l j)
  pub possible : (j : ℕ) → IsTrue (is_linked l j) → IsTrue (is_member q.possible j)
  pub enough : q.fresh_low ≤ l.later
  pub few : l.later ≤ q.fresh_high

-- the test of links is passed exactly where the sentences hold
abbrev pub AllowedSentences : Type 0
AllowedSentences = (q : PortDomain) (l : PortLinks) → IsTrue (allows q l) ↔ IsAllowed q l

-- A port with nothing left open allows the links to what is required, and no others.
abbrev pub WholeAllowsOne : Type 0
WholeAllowsOne = (q : PortDomain) (l : PortLinks) → IsPort q → IsWhole q
    → IsTrue (allows q l) ↔ (((j : ℕ) → is_linked l j ≡ is_member q.required j) × (l.later ≡ 0))
