-- Ports by name, and what a search for an inverse writes.
use Rattle.std.specs.Prelude.{ℕ, ◌+◌, Bool, not, cond, ◌==◌, List, Option}
use Rattle.std.specs.Option.{option_map, option_map_or}
use Rattle.std.specs.List.{find}
use Rattle.prod_model.specs.declared.model.TypeDecl.{TypeDecl}
use Rattle.prod_model.specs.declared.model.PortDecl.{PortDecl}
use Rattle.prod_model.specs.declared.model.PortAt.{PortAt}
use Rattle.prod_model.specs.Names.{same_text}
use Rattle.prod_model.specs.Taxonomy.{Named, is_declared_above, new_entries, made_port}

-- no ancestor of the type declares a port of the name
abbrev pub is_new : List TypeDecl → ℕ → PortDecl → Bool
is_new types t d = not (is_declared_above (λ d. d.ports) (λ d. d.name) types t d.name)

-- the ports of new declarations under their names, with the ids from this one on
abbrev pub numbered : ℕ → List PortDecl → List (Named PortAt)
numbered id ds =
    new_entries (λ d. d.ports) (λ d. d.name) made_port (λ d p. made_port p.id d) id ds

-- the port of the name
abbrev pub of_name : List ℕ → List (Named PortAt) → Option PortAt
of_name name es = option_map (λ e. e.what) (find (λ e. same_text e.name name) es)

-- the port, with an id greater by so much
abbrev pub later : ℕ → PortAt → PortAt
later by p = record p { id = by + p.id }

-- the port of the name as the first of the declarations with that name narrows it, if one does
abbrev pub narrowed : List PortDecl → List ℕ → PortAt → PortAt
narrowed ds name p =
    option_map_or (λ d. made_port p.id d) (find (λ d. same_text d.name name) ds) p

-- the port, with this inverse where it has the id
abbrev pub given : ℕ → Option ℕ → PortAt → PortAt
given id inverse p = cond (p.id == id) (record p { inverse = inverse }) p
