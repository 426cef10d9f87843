-- What a type has, from ids with declarations.
use Rattle.std.proofs.Common.{◌≡◌, ℕ, List, map, refl}
use Rattle.prod_model.specs.declared.model.TypeDecl.{TypeDecl}
use Rattle.prod_model.specs.declared.model.AttrAt.{AttrAt}
use Rattle.prod_model.specs.declared.model.PortAt.{PortAt}
use Rattle.prod_model.specs.declared.model.AttrDecl.{AttrDecl}
use Rattle.prod_model.specs.declared.model.PortDecl.{PortDecl}
use Rattle.prod_model.specs.Taxonomy.{made_attribute, made_port, attributes_of, ports_of}
use Rattle.prod_model.proofs.MappedEntries.{under, entries_mapped}
use Rattle.type_taxonomy.specs.steps.Entries.{placed, placed_again, placed_of}

abbrev pub attribute_at : ℕ × AttrDecl → AttrAt
attribute_at p = made_attribute p.0 p.1

abbrev pub port_at : ℕ × PortDecl → PortAt
port_at p = made_port p.0 p.1

pub attributes_finished : (types : List TypeDecl) (t : ℕ) → map (under attribute_at) (placed_of (λ d. d.attributes) (λ d. d.name) types t) ≡ attributes_of types t
unfolding attributes_of placed_of
attributes_finished types t =
    entries_mapped (λ d. d.attributes) (λ d. d.name) (placed (λ d. d.attributes) (λ d. d.name)) (placed_again (λ d. d.attributes) (λ d. d.name)) made_attribute (λ d a. made_attribute a.id d)
    attribute_at (λ id d. refl) (λ d p. refl) types t

pub ports_finished : (types : List TypeDecl) (t : ℕ) → map (under port_at) (placed_of (λ d. d.ports) (λ d. d.name) types t) ≡ ports_of types t
unfolding ports_of placed_of
ports_finished types t =
    entries_mapped (λ d. d.ports) (λ d. d.name) (placed (λ d. d.ports) (λ d. d.name)) (placed_again (λ d. d.ports) (λ d. d.name)) made_port (λ d p. made_port p.id d)
    port_at (λ id d. refl) (λ d p. refl) types t
