-- The links of a configuration, by their places, and which of them comes first.
use Rattle.std.specs.Prelude.{◌≡◌, ◌⊎◌, ℕ, ◌<◌, List}
use Rattle.base_laws.specs.Places.{IsAt}
use Rattle.prod_model.specs.First.{IsFirst}
use Rattle.prod_model.specs.declared.model.Model.{Model}
use Rattle.prod_model.specs.declared.model.PortAt.{PortAt}
use Rattle.prod_model.specs.declared.model.PortKind.TheVariants.{Part}
use Rattle.prod_model.specs.Taxonomy.{ports_at}
use Rattle.config_value.specs.declared.configuration.Instance.{Instance}

-- the place of a link: the instance that it comes from, the port there, and its place among the
-- port's links
pub record LinkPlace : Type 0 where
  pub from : ℕ
  pub port : ℕ
  pub place : ℕ

-- the link at this place leads to instance j
pub record IsLinkTo (c : List Instance) (j : ℕ) (l : LinkPlace) : Type 0 where
  pub instance : Instance
  pub stands : IsAt c l.from instance
  pub links : List ℕ
  pub linked : IsAt instance.links l.port links
  pub leads : IsAt links l.place j

-- the link at this place is one of a part port, and leads to instance j
pub record IsPartLink (m : Model) (c : List Instance) (j : ℕ) (l : LinkPlace) : Type 0 where
  pub link : IsLinkTo c j l
  pub port : PortAt
  pub declared : IsAt (ports_at m link.instance.kind) l.port port
  pub part : port.kind ≡ Part

-- by the instances that they come from, then by the ports, then by the places there
abbrev pub IsLinkBefore : LinkPlace → LinkPlace → Type 0
IsLinkBefore a b =
    (a.from < b.from) ⊎ ((a.from ≡ b.from)
    × ((a.port < b.port) ⊎ ((a.port ≡ b.port) × (a.place < b.place))))

-- the first mention of an instance: of the links that lead to it, the one before which none is
abbrev pub IsFirstMention : List Instance → ℕ → LinkPlace → Type 0
IsFirstMention c j = IsFirst (IsLinkTo c j) IsLinkBefore
