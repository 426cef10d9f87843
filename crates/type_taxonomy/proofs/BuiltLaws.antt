-- What the lines and rows of a built forest are.
use Rattle.std.proofs.Common.{◌≡◌, ℕ, ◌<◌, ◌≤◌, ◌⊎◌, ◌==◌, List, [], ◌∷◌, length, map, get_or, inl, inr, sym, ap, ◌∙◌, refl, Some, None, false, ◌&&◌, nat_le, slice_get, arith}
use Rattle.std.specs.List.{list_any, range_with_len}
use Rattle.std.proofs.lemmas.Bool.{cases_lt}
use Rattle.std.proofs.lemmas.List.{length-map, get_or-map, get_or_default}
use Rattle.std.proofs.lemmas.List.FromFn.{fill_by_all}
use Rattle.std.proofs.lemmas.Option.{slice_get_within, slice_get-get_or, get_or_from_slice_get}
use Rattle.prod_model.specs.declared.model.Model.{Model}
use Rattle.prod_model.specs.declared.model.AttrDecl.{AttrDecl}
use Rattle.prod_model.specs.declared.model.PortDecl.{PortDecl}
use Rattle.prod_model.specs.declared.model.AttrAt.{AttrAt}
use Rattle.prod_model.specs.declared.model.PortAt.{PortAt}
use Rattle.prod_model.specs.Valid.{has_room_at}
use Rattle.prod_model.specs.Taxonomy.{made_attribute, made_port, attributes_at, declared_ports_at, declared_tables_of}
use Rattle.type_taxonomy.specs.declared.entry.Entry.{Entry}
use Rattle.prod_model.specs.Forest.{line, is_a, type_numbers}
use Rattle.prod_model.proofs.NoTypes.{is_a_outside}
use Rattle.type_taxonomy.specs.declared.forest.Forest.{Forest}
use Rattle.type_taxonomy.specs.steps.Built.{IsBuilt}
use Rattle.type_taxonomy.specs.steps.Entries.{named, placed_of}
use Rattle.type_taxonomy.proofs.Items.{length_table, table_row, table_map_row}
use Rattle.prod_model.proofs.MappedEntries.{under}
use Rattle.type_taxonomy.proofs.Finished.{attribute_at, port_at, attributes_finished, ports_finished}

pub length_attributes : (f : Forest) → IsBuilt f → length f.attributes ≡ length f.model.now.types
length_attributes f built =
    sym (length-map f.attributes (map (named (λ d. d.name))))
    ∙ length_table (placed_of (λ d. d.attributes) (λ d. d.name) f.model.now.types) (map (map (named (λ d. d.name))) f.attributes) (length f.model.now.types) built.attributes

pub length_ports : (f : Forest) → IsBuilt f → length f.ports ≡ length f.model.now.types
length_ports f built =
    sym (length-map f.ports (map (named (λ d. d.name))))
    ∙ length_table (placed_of (λ d. d.ports) (λ d. d.name) f.model.now.types) (map (map (named (λ d. d.name))) f.ports) (length f.model.now.types) built.ports

-- a line that is read
pub is_a_line : (m : Model) (lines : List (List ℕ)) (t u : ℕ) (l : List ℕ) → lines ≡ map (line m.types) (type_numbers m.types) → slice_get lines t ≡ Some l
    → list_any (λ v. v == u) l ≡ is_a m t u
unfolding is_a
is_a_line m lines t u l is found =
    let within : t < length m.types = omega (arith, slice_get_within lines t l found, length_table (line m.types) lines (length m.types) is) in
    ap (list_any (λ v. v == u)) (table_row (line m.types) lines (length m.types) t l is within (sym (get_or_from_slice_get lines t l l found)))

no_line : (m : Model) (lines : List (List ℕ)) (t u : ℕ) → lines ≡ map (line m.types) (type_numbers m.types) → slice_get lines t ≡ None
    → (t < length lines) ⊎ (length lines ≤ t) → false ≡ is_a m t u
no_line m lines t u is none (inl within) = let some = slice_get-get_or lines t [] within in cc
no_line m lines t u is none (inr past) =
    let beyond : length m.types ≤ t = omega (arith, length_table (line m.types) lines (length m.types) is) in
    sym (is_a_outside m t u (inl beyond))

-- and a number that is no type's
pub is_a_none : (m : Model) (lines : List (List ℕ)) (t u : ℕ) → lines ≡ map (line m.types) (type_numbers m.types) → slice_get lines t ≡ None → false ≡ is_a m t u
is_a_none m lines t u is none = no_line m lines t u is none (cases_lt t (length lines))

-- ---- rows of the tables

finished_attributes : (row : List (Entry AttrDecl)) → map (λ e. e.what) (map (under attribute_at) (map (named (λ d. d.name)) row)) ≡ map (λ e. made_attribute e.id e.declared.now) row
finished_attributes [] = refl
finished_attributes (e ∷ row) = ap (λ l. made_attribute e.id e.declared.now ∷ l) (finished_attributes row)

finished_ports : (row : List (Entry PortDecl)) → map (λ e. e.what) (map (under port_at) (map (named (λ d. d.name)) row)) ≡ map (λ e. made_port e.id e.declared.now) row
finished_ports [] = refl
finished_ports (e ∷ row) = ap (λ l. made_port e.id e.declared.now ∷ l) (finished_ports row)

-- the row of a type, finished, is its row of the table
pub attributes_row : (f : Forest) (t : ℕ) (row : List (Entry AttrDecl)) → IsBuilt f → t < length f.model.now.types → row ≡ get_or f.attributes t row
    → map (λ e. made_attribute e.id e.declared.now) row ≡ attributes_at f.model.now t
attributes_row f t row built within read =
    let is_row : map (named (λ d. d.name)) row ≡ placed_of (λ d. d.attributes) (λ d. d.name) f.model.now.types t =
    table_map_row (map (named (λ d. d.name))) (placed_of (λ d. d.attributes) (λ d. d.name) f.model.now.types) f.attributes (length f.model.now.types) t row built.attributes within read in
    sym (finished_attributes row) ∙ ap (λ es. map (λ e. e.what) (map (under attribute_at) es)) is_row ∙ ap (map (λ e. e.what)) (attributes_finished f.model.now.types t)

pub ports_row : (f : Forest) (t : ℕ) (row : List (Entry PortDecl)) → IsBuilt f → t < length f.model.now.types → row ≡ get_or f.ports t row
    → map (λ e. made_port e.id e.declared.now) row ≡ declared_ports_at f.model.now t
ports_row f t row built within read =
    let is_row : map (named (λ d. d.name)) row ≡ placed_of (λ d. d.ports) (λ d. d.name) f.model.now.types t =
    table_map_row (map (named (λ d. d.name))) (placed_of (λ d. d.ports) (λ d. d.name) f.model.now.types) f.ports (length f.model.now.types) t row built.ports within read in
    sym (finished_ports row) ∙ ap (λ es. map (λ e. e.what) (map (under port_at) es)) is_row ∙ ap (map (λ e. e.what)) (ports_finished f.model.now.types t)

all_rows : {E A : Type 0} (made : E → A) (at : ℕ → List A) (rows : List (List E)) (n : ℕ) → length rows ≡ n
    → ((t : ℕ) (row : List E) → t < n → row ≡ get_or rows t row → map made row ≡ at t) → map (map made) rows ≡ map at (range_with_len 0 n)
all_rows made at rows n size each =
    fill_by_all at (map (map made) rows) n [] (length-map rows (map made) ∙ size)
    (λ t within. get_or-map (map made) rows t [] [] (omega arith)
    ∙ each t (get_or rows t []) within (sym (get_or_default rows t (get_or rows t []) [] (omega arith)) ∙ refl))

-- all rows, finished, are the tables
pub tables_built : (f : Forest) (attributes : List (List AttrAt)) (ports : List (List PortAt)) → IsBuilt f
    → attributes ≡ map (map (λ e. made_attribute e.id e.declared.now)) f.attributes → ports ≡ map (map (λ e. made_port e.id e.declared.now)) f.ports
    → record { attributes = attributes; ports = ports } ≡ declared_tables_of f.model.now
unfolding declared_tables_of
tables_built f attributes ports built are_attributes are_ports =
    let all_attributes : attributes ≡ map (attributes_at f.model.now) (type_numbers f.model.now.types) =
    are_attributes ∙ all_rows (λ e. made_attribute e.id e.declared.now) (attributes_at f.model.now) f.attributes (length f.model.now.types) (length_attributes f built)
    (λ t row within read. attributes_row f t row built within read) in
    let all_ports : ports ≡ map (declared_ports_at f.model.now) (type_numbers f.model.now.types) =
    are_ports ∙ all_rows (λ e. made_port e.id e.declared.now) (declared_ports_at f.model.now) f.ports (length f.model.now.types) (length_ports f built)
    (λ t row within read. ports_row f t row built within read) in
    cc

-- whether a type has room, by the lengths of its rows
pub room_told : (f : Forest) (t n k : ℕ) (attributes : List (Entry AttrDecl)) (ports : List (Entry PortDecl)) → IsBuilt f → t < length f.model.now.types
    → attributes ≡ get_or f.attributes t attributes → ports ≡ get_or f.ports t ports → n ≡ length attributes → k ≡ length ports
    → (nat_le n 32 && nat_le k 16) ≡ has_room_at f.model.now t
room_told f t n k attributes ports built within read read_ports size size_ports =
    let few : n ≡ length (attributes_at f.model.now t) =
    size ∙ sym (length-map attributes (λ e. made_attribute e.id e.declared.now)) ∙ ap length (attributes_row f t attributes built within read) in
    let few_ports : k ≡ length (declared_ports_at f.model.now t) =
    size_ports ∙ sym (length-map ports (λ e. made_port e.id e.declared.now)) ∙ ap length (ports_row f t ports built within read_ports) in
    ap (λ a. nat_le a 32 && nat_le k 16) few ∙ ap (λ b. nat_le (length (attributes_at f.model.now t)) 32 && nat_le b 16) few_ports
