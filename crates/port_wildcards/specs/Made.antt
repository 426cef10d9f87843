-- What becomes of the links of a port where the next instance is made.
use Rattle.std.specs.Prelude.{◌≡◌, ℕ, suc, ◌==◌, ◌||◌, false, IsTrue}
use Rattle.instance_set.specs.InstanceSets.{is_member}
use Rattle.port_wildcards.specs.declared.port_domain.PortDomain.{PortDomain}
use Rattle.port_wildcards.specs.Ports.{PortLinks, is_linked, allows}

-- The same links before and after instance j is made: one of the later ones leads to j.
pub record LeadsTo (j : ℕ) (before after : PortLinks) : Type 0 where
  pub linked : (k : ℕ) → is_linked after k ≡ (is_linked before k || (k == j))
  pub later : before.later ≡ suc after.later

-- The new instance j is made for this port.
pub record MakesHere (j : ℕ) (old new : PortDomain) : Type 0 where
  -- what was allowed still is, with a later link that leads to j
  pub kept : (l l' : PortLinks) → LeadsTo j l l' → IsTrue (allows old l) → IsTrue (allows new l')
  -- all that is allowed links j
  pub linked : (l : PortLinks) → IsTrue (allows new l) → IsTrue (is_linked l j)
  -- and nothing is allowed that was not
  pub only : is_member old.possible j ≡ false → (l l' : PortLinks) → LeadsTo j l l'
      → is_linked l j ≡ false → IsTrue (allows new l') → IsTrue (allows old l)

-- The new instance j is made for another port. This one may link it or not.
pub record MakesElsewhere (j : ℕ) (old new : PortDomain) : Type 0 where
  pub apart : (l : PortLinks) → IsTrue (allows old l) → IsTrue (allows new l)
  pub linked : (l l' : PortLinks) → LeadsTo j l l' → IsTrue (allows old l) → IsTrue (allows new l')
