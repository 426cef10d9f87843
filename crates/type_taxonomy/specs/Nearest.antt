-- What a declaration has to narrow: that of its name in the nearest ancestor that declares it.
use Rattle.std.specs.Prelude.{◌≡◌, ℕ, ◌≤◌, ◌⊎◌, Bool, ◌||◌, IsTrue, List, Option, Some, None, slice_get}
use Rattle.std.specs.List.{list_any, find, filter_map}
use Rattle.prod_model.specs.declared.model.Model.{Model}
use Rattle.prod_model.specs.declared.model.TypeDecl.{TypeDecl}
use Rattle.prod_model.specs.declared.model.AttrDecl.{AttrDecl}
use Rattle.prod_model.specs.declared.model.PortDecl.{PortDecl}
use Rattle.prod_model.specs.Forest.{ancestors, is_a}
use Rattle.prod_model.specs.Names.{same_text}
use Rattle.prod_model.specs.Valid.{narrows_domain}

-- a type declares the name, as an attribute or as a port
abbrev pub declares : List ℕ → TypeDecl → Bool
declares name d =
    list_any (λ a. same_text a.name name) d.attributes
    || list_any (λ p. same_text p.name name) d.ports

-- the nearest ancestor of a type that declares the name
abbrev pub nearest : List TypeDecl → ℕ → List ℕ → Option TypeDecl
nearest types t name = find (declares name) (filter_map (slice_get types) (ancestors types t))

-- no ancestor of the type declares the name
abbrev pub IsNewName : List TypeDecl → ℕ → List ℕ → Type 0
IsNewName types t name = nearest types t name ≡ None

-- ---- attributes

-- the nearest ancestor that declares the name declares this attribute under it
pub record IsNearestAttribute (types : List TypeDecl) (t : ℕ) (name : List ℕ) (b : AttrDecl)
    : Type 0 where
  pub ancestor : TypeDecl
  pub is_nearest : nearest types t name ≡ Some ancestor
  pub is_declared : find (λ a. same_text a.name name) ancestor.attributes ≡ Some b

-- the nearest declaration of the attribute's name is an attribute, whose domain its own lies within
pub record NarrowsAttribute (m : Model) (t : ℕ) (a : AttrDecl) : Type 0 where
  pub wide : AttrDecl
  pub inherited : IsNearestAttribute m.types t a.name wide
  pub within : IsTrue (narrows_domain a.domain wide.domain)

-- the attribute, which type t declares, is new there or narrows the nearest declaration of its name
abbrev pub AttributeNarrows : Model → ℕ → AttrDecl → Type 0
AttributeNarrows m t a = IsNewName m.types t a.name ⊎ NarrowsAttribute m t a

-- ---- ports

-- the nearest ancestor that declares the name declares this port under it
pub record IsNearestPort (types : List TypeDecl) (t : ℕ) (name : List ℕ) (q : PortDecl)
    : Type 0 where
  pub ancestor : TypeDecl
  pub is_nearest : nearest types t name ≡ Some ancestor
  pub is_declared : find (λ p. same_text p.name name) ancestor.ports ≡ Some q

-- the first port is of the second one's kind, with its pair within and its target under that one's
pub record LiesWithin (m : Model) (p q : PortDecl) : Type 0 where
  pub kind : p.kind ≡ q.kind
  pub low : q.low ≤ p.low
  pub high : p.high ≤ q.high
  pub target : IsTrue (is_a m p.target q.target)

-- the nearest declaration of the port's name is a port, within which it lies
pub record NarrowsPort (m : Model) (t : ℕ) (p : PortDecl) : Type 0 where
  pub wide : PortDecl
  pub inherited : IsNearestPort m.types t p.name wide
  pub within : LiesWithin m p wide

-- the port, which type t declares, is new there or narrows the nearest declaration of its name
abbrev pub PortNarrows : Model → ℕ → PortDecl → Type 0
PortNarrows m t p = IsNewName m.types t p.name ⊎ NarrowsPort m t p
