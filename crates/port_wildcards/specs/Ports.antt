-- What a port may link: instances that are made, and instances that are not made yet.
use Rattle.std.specs.Prelude.{◌≡◌, ℕ, ◌≤◌, ◌==◌, ◌&&◌, ◌||◌, Bool, not, nat_le, List}
use Rattle.std.specs.List.{list_all, list_any}
use Rattle.instance_set.specs.declared.set.InstanceSet.{InstanceSet}
use Rattle.instance_set.specs.InstanceSets.{is_member, members, IsWithin}
use Rattle.domain_store.specs.declared.change.Change.{Change}
use Rattle.port_wildcards.specs.declared.port_domain.PortDomain.{PortDomain}
use Rattle.domain_store.specs.Narrowing.{Narrows}

-- the links of a port: the made instances that it links, and how many later ones
pub record PortLinks : Type 0 where
  pub to_made : List ℕ
  pub later : ℕ

-- made instance j is linked
abbrev pub is_linked : PortLinks → ℕ → Bool
is_linked l j = list_any (λ k. k == j) l.to_made

-- Whether a port may have these links: the required instances are linked, only possible ones are,
-- and as many later ones as the bounds allow.
unfoldable pub allows : PortDomain → PortLinks → Bool
allows q l = list_all (is_linked l) (members q.required)
    && (list_all (is_member q.possible) l.to_made
    && (nat_le q.fresh_low l.later && nat_le l.later q.fresh_high))

-- what is required is possible, and the bounds are in order
pub record IsPort (q : PortDomain) : Type 0 where
  pub within : IsWithin q.required q.possible
  pub ordered : q.fresh_low ≤ q.fresh_high

-- a narrowing of what a port may link
abbrev pub NarrowsLinks : (PortLinks → Bool) → Change → PortDomain → PortDomain → Type 0
NarrowsLinks = Narrows allows

-- no link leads to a later instance
abbrev pub IsClosed : PortDomain → Type 0
IsClosed q = q.fresh_high ≡ 0

-- nothing is left open: no later instance is linked, and each possible one is
abbrev pub IsWhole : PortDomain → Type 0
IsWhole q = IsClosed q × IsWithin q.possible q.required

-- the set has j beside what it had
abbrev pub Gains : ℕ → InstanceSet → InstanceSet → Type 0
Gains j old new = (k : ℕ) → is_member new k ≡ (is_member old k || (k == j))

-- the set has no longer j, and all else that it had
abbrev pub Loses : ℕ → InstanceSet → InstanceSet → Type 0
Loses j old new = (k : ℕ) → is_member new k ≡ (is_member old k && not (k == j))

-- the port with other required instances
abbrev pub with_required : InstanceSet → PortDomain → PortDomain
with_required s q = record q { required = s }

-- the port with other possible instances
abbrev pub with_possible : InstanceSet → PortDomain → PortDomain
with_possible s q = record q { possible = s }

-- the port with other bounds
abbrev pub with_fresh : ℕ → ℕ → PortDomain → PortDomain
with_fresh low high q = record q { fresh_low = low; fresh_high = high }
