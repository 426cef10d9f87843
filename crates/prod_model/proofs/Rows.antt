-- The row of a type in the tables has what the type has, and a number that is no type has nothing.
use Rattle.std.proofs.Common.{◌≡◌, ℕ, ◌≤◌, ◌∙◌, sym, ap, refl, List, [], ◌∷◌, map, length, unwrap_or, Bool, true, false, cond, Option, Some, None, inl, inr, arith}
use Rattle.std.specs.Prelude.{slice_get, ◌==◌}
use Rattle.std.specs.List.{find}
use Rattle.std.specs.Option.{option_map}
use Rattle.std.proofs.lemmas.Option.{slice_get_past, slice_get_cases, unwrap_or-slice_get, slice_get-map}
use Rattle.prod_model.specs.declared.model.Model.{Model}
use Rattle.prod_model.specs.declared.model.Tables.{Tables}
use Rattle.prod_model.specs.declared.model.PortAt.{PortAt}
use Rattle.prod_model.specs.Taxonomy.{AreTablesOf, tables_of, declared_tables_of, attributes_at, declared_ports_at, declared_port_of, ports_at, with_inverse, without_inverse}
use Rattle.prod_model.proofs.TaxonomyLaws as rows

no_row : {A : Type 0} (xs : List (List A)) (i : ℕ) → length xs ≤ i → unwrap_or (slice_get xs i) [] ≡ []
no_row xs i past = rw (slice_get_past xs i past) refl

pub declared_attributes_row : (m : Model) (t : ℕ) → unwrap_or (slice_get (declared_tables_of m).attributes t) [] ≡ attributes_at m t
declared_attributes_row m t = elim (slice_get_cases m.types t).1 [
  | inl w ↦ unwrap_or-slice_get (declared_tables_of m).attributes t [] ∙ rows.declared_attributes_row m t w.1
  | inr w ↦ no_row (declared_tables_of m).attributes t (omega (arith, rows.length_declared_attributes m, w.0)) ∙ sym (rows.no_attributes m t w.0)
]

pub declared_ports_row : (m : Model) (t : ℕ) → unwrap_or (slice_get (declared_tables_of m).ports t) [] ≡ declared_ports_at m t
declared_ports_row m t = elim (slice_get_cases m.types t).1 [
  | inl w ↦ unwrap_or-slice_get (declared_tables_of m).ports t [] ∙ rows.declared_ports_row m t w.1
  | inr w ↦ no_row (declared_tables_of m).ports t (omega (arith, rows.length_declared_ports m, w.0)) ∙ sym (rows.no_declared_ports m t w.0)
]

pub ports_row : (m : Model) (t : ℕ) → unwrap_or (slice_get (tables_of m).ports t) [] ≡ ports_at m t
ports_row m t = elim (slice_get_cases m.types t).1 [
  | inl w ↦ unwrap_or-slice_get (tables_of m).ports t [] ∙ rows.ports_row m t w.1
  | inr w ↦ no_row (tables_of m).ports t (omega (arith, rows.length_ports m, w.0)) ∙ sym (rows.no_ports m t w.0)
]

-- the row of attributes in tables of the model
pub attributes_row : (m : Model) (tables : Tables) (t : ℕ) → AreTablesOf m tables → unwrap_or (slice_get tables.attributes t) [] ≡ attributes_at m t
attributes_row m tables t are = ap (λ rows. unwrap_or (slice_get rows t) []) are.attributes ∙ declared_attributes_row m t

-- a row that is not there is empty, mapped or not
mapped_row : {A B : Type 0} (f : A → B) (o : Option (List A)) → unwrap_or (option_map (map f) o) [] ≡ map f (unwrap_or o [])
mapped_row f (Some xs) = refl
mapped_row f None = refl

-- the row of ports, but for their inverses
pub bare_ports_row : (m : Model) (tables : Tables) (t : ℕ) → AreTablesOf m tables → map without_inverse (unwrap_or (slice_get tables.ports t) []) ≡ declared_ports_at m t
bare_ports_row m tables t are =
    sym (ap (λ o. unwrap_or o []) (slice_get-map (map without_inverse) tables.ports t) ∙ mapped_row without_inverse (slice_get tables.ports t))
    ∙ ap (λ rows. unwrap_or (slice_get rows t) []) are.ports ∙ declared_ports_row m t

-- a port is found by its id with its inverse or without
find_bare : (id : ℕ) (ps : List PortAt) → option_map without_inverse (find (λ p. p.id == id) ps) ≡ find (λ p. p.id == id) (map without_inverse ps)
find_bare id [] = refl
find_bare id (p ∷ ps) = by (p.id == id) (find_bare id ps)
  where
    by : (b : Bool) → option_map without_inverse (find (λ p. p.id == id) ps) ≡ find (λ p. p.id == id) (map without_inverse ps)
        → option_map without_inverse (cond b (Some p) (find (λ p. p.id == id) ps)) ≡ cond b (Some (without_inverse p)) (find (λ p. p.id == id) (map without_inverse ps))
    by true rest = refl
    by false rest = rest

-- the port that is found in the tables, but for its inverse
pub bare_port : (m : Model) (tables : Tables) (t id : ℕ) → AreTablesOf m tables
    → option_map without_inverse (find (λ p. p.id == id) (unwrap_or (slice_get tables.ports t) [])) ≡ declared_port_of m t id
bare_port m tables t id are = find_bare id (unwrap_or (slice_get tables.ports t) []) ∙ ap (find (λ p. p.id == id)) (bare_ports_row m tables t are)
