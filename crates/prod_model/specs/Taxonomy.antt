-- What each type has of attributes and ports, inherited ones included.
use Rattle.std.specs.Prelude.{◌≡◌, ℕ, ◌+◌, Bool, not, ◌==◌, List, [], ◌∷◌, ◌++◌, map, length, reverse, slice_get, sum_by, None}
use Rattle.std.specs.declared.option.Option.{Option}
use Rattle.std.specs.Option.{option_map_or, option_map, option_and_then}
use Rattle.std.specs.List.{list_any, filter, find, flat_map, fold, range_with_len}
use Rattle.prod_model.specs.declared.model.Model.{Model}
use Rattle.prod_model.specs.declared.model.TypeDecl.{TypeDecl}
use Rattle.prod_model.specs.declared.model.AttrDecl.{AttrDecl}
use Rattle.prod_model.specs.declared.model.PortDecl.{PortDecl}
use Rattle.prod_model.specs.declared.model.AttrAt.{AttrAt}
use Rattle.prod_model.specs.declared.model.PortAt.{PortAt}
use Rattle.prod_model.specs.declared.model.Domain.{Domain}
use Rattle.prod_model.specs.declared.model.Domain.TheVariants.{Range, Words}
use Rattle.prod_model.specs.declared.model.Tables.{Tables}
use Rattle.prod_model.specs.Names.{same_text}
use Rattle.prod_model.specs.Forest.{line, ancestors, type_numbers}

-- an attribute or a port under its name
pub record Named (A : Type 0) : Type 0 where
  pub name : List ℕ
  pub what : A

-- ---- declarations, alike for attributes and ports

module _ {D : Type 0} (declared : TypeDecl → List D) (name_of : D → List ℕ) where
  -- the declarations of a type
  abbrev pub declarations_of : List TypeDecl → ℕ → List D
  declarations_of types t = option_map_or declared (slice_get types t) []

  -- an ancestor of the type declares the name
  abbrev pub is_declared_above : List TypeDecl → ℕ → List ℕ → Bool
  is_declared_above types t name =
      list_any (λ e. same_text name (name_of e))
      (flat_map (declarations_of types) (ancestors types t))

  -- Those that are new in the type: no ancestor declares the name. It is meant for valid models,
  -- where no attribute has the name of an inherited port, nor a port that of an inherited
  -- attribute.
  abbrev pub new_declarations : List TypeDecl → ℕ → List D
  new_declarations types t =
      filter (λ d. not (is_declared_above types t (name_of d))) (declarations_of types t)

  -- the new declarations of all types, in file order: the id of a declaration is its place here
  abbrev pub all_new_declarations : List TypeDecl → List D
  all_new_declarations types = flat_map (new_declarations types) (type_numbers types)

  -- how many are new in the types before this one
  abbrev pub first_id : List TypeDecl → ℕ → ℕ
  first_id types t = sum_by (λ u. length (new_declarations types u)) (range_with_len 0 t)

-- ---- entries: made by a new declaration with its id, and narrowed by a declaration of its name

module _ {D A : Type 0} (declared : TypeDecl → List D) (name_of : D → List ℕ)
    (made : ℕ → D → A) (narrowed : D → A → A) where
  -- each declaration under its name, made with the ids from this one on
  abbrev pub new_entries : ℕ → List D → List (Named A)
  new_entries id [] = []
  new_entries id (d ∷ ds) =
      record { name = name_of d; what = made id d } ∷ new_entries (id + 1) ds

  -- an inherited entry, narrowed where one of the declarations has its name
  abbrev pub kept_entry : List D → Named A → Named A
  kept_entry ds e =
      option_map_or (λ d. record { name = e.name; what = narrowed d e.what })
      (find (λ d. same_text (name_of d) e.name) ds) e

  -- What the parent has, in the parent's order and narrowed in place, and then what is new, in
  -- file order.
  abbrev pub extended_entries : List TypeDecl → List (Named A) → ℕ → List (Named A)
  extended_entries types inherited t =
      map (kept_entry (declarations_of declared name_of types t)) inherited
      ++ new_entries (first_id declared name_of types t) (new_declarations declared name_of types t)

  -- from the first of its ancestors down to the type, beginning with nothing
  abbrev pub entries_of : List TypeDecl → ℕ → List (Named A)
  entries_of types t = fold (extended_entries types) [] (reverse (line types t))

-- ---- attributes and ports

-- the attribute of a new declaration
abbrev pub made_attribute : ℕ → AttrDecl → AttrAt
made_attribute id d = record { id = id; domain = d.domain }

-- the port of a declaration, without its inverse
abbrev pub made_port : ℕ → PortDecl → PortAt
made_port id d = record {
  id = id;
  kind = d.kind;
  target = d.target;
  low = d.low;
  high = d.high;
  inverse = None;
}

-- the attributes of a type under their names, inherited ones first: a narrowing keeps the id
unfoldable pub attributes_of : List TypeDecl → ℕ → List (Named AttrAt)
attributes_of =
    entries_of (λ d. d.attributes) (λ d. d.name) made_attribute (λ d a. made_attribute a.id d)

-- the ports of a type under their names as they are declared, without their inverses: inherited
-- ones first, and a narrowing keeps the id
unfoldable pub ports_of : List TypeDecl → ℕ → List (Named PortAt)
ports_of = entries_of (λ d. d.ports) (λ d. d.name) made_port (λ d p. made_port p.id d)

-- the attributes of a type, inherited ones first
abbrev pub attributes_at : Model → ℕ → List AttrAt
attributes_at m t = map (λ a. a.what) (attributes_of m.types t)

-- the ports of a type as they are declared, inherited ones first
abbrev pub declared_ports_at : Model → ℕ → List PortAt
declared_ports_at m t = map (λ p. p.what) (ports_of m.types t)

-- ---- inverses

-- the port that a type has under a name, as it is declared
abbrev pub port_named : Model → ℕ → List ℕ → Option PortAt
port_named m t name =
    option_map (λ e. e.what) (find (λ e. same_text e.name name) (ports_of m.types t))

-- the id of the port that a declaration names as its inverse: its target has it under that name
abbrev pub named_inverse : Model → PortDecl → Option ℕ
named_inverse m d =
    option_and_then (λ name. option_map (λ q. q.id) (port_named m d.target name)) d.inverse

-- The id of a port's inverse, which the port's first declaration names. So a narrowing keeps it.
unfoldable pub inverse_of : Model → ℕ → Option ℕ
inverse_of m id =
    option_and_then (named_inverse m)
    (slice_get (all_new_declarations (λ d. d.ports) (λ d. d.name) m.types) id)

-- a port with its inverse
abbrev pub with_inverse : Model → PortAt → PortAt
with_inverse m p = record p { inverse = inverse_of m p.id }

-- the ports of a type with their inverses, inherited ones first
abbrev pub ports_at : Model → ℕ → List PortAt
ports_at m t = map (with_inverse m) (declared_ports_at m t)

-- ---- the tables

-- the attributes and ports of each type
unfoldable pub tables_of : Model → Tables
tables_of m = record {
  attributes = map (attributes_at m) (type_numbers m.types);
  ports = map (ports_at m) (type_numbers m.types);
}

-- the attributes and ports of each type as they are declared, without the inverses of ports
unfoldable pub declared_tables_of : Model → Tables
declared_tables_of m = record {
  attributes = map (attributes_at m) (type_numbers m.types);
  ports = map (declared_ports_at m) (type_numbers m.types);
}

-- a port without its inverse
abbrev pub without_inverse : PortAt → PortAt
without_inverse p = record p { inverse = None }

-- The tables are those of the model. Inverses aren't compared, so that tables without them are the
-- model's too.
pub record AreTablesOf (m : Model) (tables : Tables) : Type 0 where
  pub attributes : tables.attributes ≡ (declared_tables_of m).attributes
  pub ports : map (map without_inverse) tables.ports ≡ (declared_tables_of m).ports

-- the words of a domain, and none where it is a range
abbrev pub words_of : Domain → List (List ℕ)
words_of (Range low high) = []
words_of (Words words) = words

-- The words of an attribute's first declaration. The value of a word is its place here.
unfoldable pub first_words : Model → ℕ → List (List ℕ)
first_words m id =
    option_map_or (λ d. words_of d.domain)
    (slice_get (all_new_declarations (λ d. d.attributes) (λ d. d.name) m.types) id) []

-- the attribute that a type has under an id
abbrev pub attribute_of : Model → ℕ → ℕ → Option AttrAt
attribute_of m t id = find (λ a. a.id == id) (attributes_at m t)

-- the port that a type has under an id
abbrev pub port_of : Model → ℕ → ℕ → Option PortAt
port_of m t id = find (λ p. p.id == id) (ports_at m t)

-- the port that a type has under an id, as it is declared
abbrev pub declared_port_of : Model → ℕ → ℕ → Option PortAt
declared_port_of m t id = find (λ p. p.id == id) (declared_ports_at m t)
