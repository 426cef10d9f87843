-- In a declared model the names that are declared along a type's line are those of what the type has.
use Rattle.std.proofs.Common.{◌≡◌, ℕ, ◌+◌, ◌<◌, Bool, true, ◌&&◌, List, [], ◌∷◌, ◌++◌, map, length, take, get_or, reverse, refl, sym, ap, ◌∙◌, arith}
use Rattle.std.specs.List.{list_all, flat_map, fold}
use Rattle.std.proofs.lemmas.List.{map_more}
use Rattle.std.proofs.lemmas.Grind.{fold-append}
use Rattle.prod_model.specs.declared.model.Model.{Model}
use Rattle.prod_model.specs.declared.model.TypeDecl.{TypeDecl}
use Rattle.prod_model.specs.declared.model.Rule.{Rule}
use Rattle.prod_model.specs.declared.model.AttrDecl.{AttrDecl}
use Rattle.prod_model.specs.declared.model.PortDecl.{PortDecl}
use Rattle.prod_model.specs.Names.{is_distinct}
use Rattle.prod_model.specs.Forest.{line}
use Rattle.prod_model.specs.Taxonomy.{new_declarations, attributes_of, ports_of, words_of, made_attribute, made_port}
use Rattle.prod_model.specs.Valid.{IsDeclared, has_distinct_names}
use Rattle.file_meaning.specs.Named.{attribute_names, port_names}
use Rattle.file_meaning.specs.steps.FirstDeclared.{with_new, first_names}
use Rattle.prod_model.proofs.ForestLines.{no_cycle, line_IsLine}
use Rattle.prod_model.proofs.NameLaws.{distinct_front, distinct_back}
use Rattle.file_meaning.proofs.Firsts.{HasDistinct, names_of_line, distinct_names}
use Rattle.prod_model.proofs.EntryLaws.{names_entries_of}

-- ---- no name twice

both_distinct : (types : List TypeDecl) (more : TypeDecl → Bool)
    → list_all (λ d. is_distinct (map (λ a. a.name) d.attributes ++ map (λ p. p.name) d.ports) && more d) types ≡ true
    → HasDistinct (λ d. d.attributes) (λ d. d.name) types × HasDistinct (λ d. d.ports) (λ d. d.name) types
both_distinct [] more distinct = (refl, refl)
both_distinct (d ∷ ds) more distinct =
    let attributes = map (λ (a : AttrDecl). a.name) d.attributes in
    let ports = map (λ (p : PortDecl). p.name) d.ports in
    let rest = both_distinct ds more (grind (arith)) in
    let front = distinct_front attributes ports in
    let back = distinct_back attributes ports in
    (grind (arith), grind (arith))

last_name_of : (a b c : Bool) → (a && b && c) ≡ true → c ≡ true
last_name_of a b c all = grind (arith)

names_are_distinct : (m : Model) → IsDeclared m → HasDistinct (λ d. d.attributes) (λ d. d.name) m.types × HasDistinct (λ d. d.ports) (λ d. d.name) m.types
unfolding has_distinct_names
names_are_distinct m known =
    both_distinct m.types (λ d. list_all (λ a. is_distinct (words_of a.domain)) d.attributes) (last_name_of (is_distinct (map (λ (d : TypeDecl). d.name) m.types)) (is_distinct (map (λ (r : Rule). r.name) m.rules)) _ known.formed.distinct_names)

module _ {D : Type 0} (declared : TypeDecl → List D) (name_of : D → List ℕ) where
  first_names_new : (m : Model) (t : ℕ) → IsDeclared m → HasDistinct declared name_of m.types
      → first_names declared name_of m.types t ≡ map name_of (flat_map (new_declarations declared name_of m.types) (reverse (line m.types t)))
  unfolding first_names
  first_names_new m t known distinct =
      names_of_line declared name_of m.types (line m.types t) distinct (line_IsLine m.types (no_cycle m known.taxonomy.forest) t)

-- ---- names

pub attribute_names_declared : (m : Model) (t : ℕ) → IsDeclared m
    → first_names (λ d. d.attributes) (λ d. d.name) m.types t ≡ attribute_names m t
unfolding attributes_of
attribute_names_declared m t known =
    first_names_new (λ d. d.attributes) (λ d. d.name) m t known (names_are_distinct m known).0
    ∙ sym (names_entries_of (λ d. d.attributes) (λ d. d.name) made_attribute (λ d a. made_attribute a.id d) m.types t)

pub port_names_declared : (m : Model) (t : ℕ) → IsDeclared m
    → first_names (λ d. d.ports) (λ d. d.name) m.types t ≡ port_names m t
unfolding ports_of
port_names_declared m t known =
    first_names_new (λ d. d.ports) (λ d. d.name) m t known (names_are_distinct m known).1
    ∙ sym (names_entries_of (λ d. d.ports) (λ d. d.name) made_port (λ d p. made_port p.id d) m.types t)

first_of_three : (a b c : Bool) → (a && b && c) ≡ true → a ≡ true
first_of_three a b c all = grind (arith)

-- the names of the types, each once, are those of the types
pub type_names_declared : (m : Model) → IsDeclared m → fold with_new [] (map (λ d. d.name) m.types) ≡ map (λ d. d.name) m.types
unfolding has_distinct_names
type_names_declared m known =
    distinct_names (map (λ (d : TypeDecl). d.name) m.types)
    (first_of_three (is_distinct (map (λ (d : TypeDecl). d.name) m.types)) (is_distinct (map (λ (r : Rule). r.name) m.rules)) _ known.formed.distinct_names)

-- one name more of a list of types, unless it is among those so far
pub type_name_more : (all : List TypeDecl) (i : ℕ) (d : TypeDecl) (before after : List (List ℕ)) (name : List ℕ) → i < length all → d ≡ get_or all i d → name ≡ d.name
    → before ≡ fold with_new [] (map (λ e. e.name) (take i all)) → after ≡ with_new before name → after ≡ fold with_new [] (map (λ e. e.name) (take (i + 1) all))
type_name_more all i d before after name within is called so_far put =
    let first = map (λ (e : TypeDecl). e.name) (take i all) in
    put ∙ ap (λ names. with_new names name) so_far ∙ ap (with_new (fold with_new [] first)) (called ∙ ap (λ (e : TypeDecl). e.name) is)
    ∙ sym (ap (fold with_new []) (map_more (λ (e : TypeDecl). e.name) all i d within) ∙ fold-append with_new [] first ((get_or all i d).name ∷ []))
