-- The ports of a type with their inverses and without them, and the tables of both.
use Rattle.std.proofs.Common.{◌≡◌, ℕ, ◌∙◌, sym, ap, ap₂, subst, refl, List, [], ◌∷◌, map, length, Bool, true, false, cond, Option, Some, None}
use Rattle.std.specs.Prelude.{◌==◌, IsTrue}
use Rattle.std.specs.List.{find}
use Rattle.std.specs.Option.{option_map}
use Rattle.std.proofs.lemmas.List.{length-map}
use Rattle.std.proofs.lemmas.Simd.{map-map}
use Rattle.base_laws.specs.Places.{IsAt}
use Rattle.base_laws.proofs.Places.{map_at}
use Rattle.prod_model.specs.declared.model.Model.{Model}
use Rattle.prod_model.specs.declared.model.Tables.{Tables}
use Rattle.prod_model.specs.declared.model.PortAt.{PortAt}
use Rattle.prod_model.specs.Forest.{type_numbers}
use Rattle.prod_model.specs.Taxonomy.{Named, AreTablesOf, tables_of, declared_tables_of, made_port, ports_of, attributes_at, declared_ports_at, declared_port_of, ports_at, port_of, with_inverse, without_inverse, inverse_of}
use Rattle.prod_model.proofs.MappedEntries.{under, entries_mapped}

-- a port as it is declared has no inverse
pub declared_without : (m : Model) (t : ℕ) → map without_inverse (declared_ports_at m t) ≡ declared_ports_at m t
unfolding ports_of
declared_without m t =
    map-map without_inverse (λ (e : Named PortAt). e.what) (ports_of m.types t)
    ∙ sym (map-map (λ (e : Named PortAt). e.what) (under without_inverse) (ports_of m.types t))
    ∙ ap (map (λ (e : Named PortAt). e.what))
    (entries_mapped (λ d. d.ports) (λ d. d.name) made_port (λ d p. made_port p.id d) made_port (λ d p. made_port p.id d) without_inverse (λ id d. refl) (λ d p. refl) m.types t)

-- and is what a port with its inverse is but for that
pub bare_ports : (m : Model) (t : ℕ) → map without_inverse (ports_at m t) ≡ declared_ports_at m t
bare_ports m t = map-map without_inverse (with_inverse m) (declared_ports_at m t) ∙ declared_without m t

rows_without : (m : Model) (ts : List ℕ) → map (map without_inverse) (map (ports_at m) ts) ≡ map (declared_ports_at m) ts
rows_without m [] = refl
rows_without m (t ∷ ts) = ap₂ (λ row rows. row ∷ rows) (bare_ports m t) (rows_without m ts)

rows_declared : (m : Model) (ts : List ℕ) → map (map without_inverse) (map (declared_ports_at m) ts) ≡ map (declared_ports_at m) ts
rows_declared m [] = refl
rows_declared m (t ∷ ts) = ap₂ (λ row rows. row ∷ rows) (declared_without m t) (rows_declared m ts)

-- the tables of a model are its own, with the inverses of ports
pub are_tables : (m : Model) → AreTablesOf m (tables_of m)
unfolding tables_of declared_tables_of
are_tables m = record { attributes = refl; ports = rows_without m (type_numbers m.types) }

-- and without them
pub are_declared_tables : (m : Model) → AreTablesOf m (declared_tables_of m)
unfolding declared_tables_of
are_declared_tables m = record { attributes = refl; ports = rows_declared m (type_numbers m.types) }

-- so are tables that are equal to them
pub own_tables : (m : Model) (tables : Tables) → tables ≡ tables_of m → AreTablesOf m tables
own_tables m tables same = subst (AreTablesOf m) (sym same) (are_tables m)

pub own_declared_tables : (m : Model) (tables : Tables) → tables ≡ declared_tables_of m → AreTablesOf m tables
own_declared_tables m tables same = subst (AreTablesOf m) (sym same) (are_declared_tables m)

-- there are as many ports with inverses as without
pub length_ports_at : (m : Model) (t : ℕ) → length (ports_at m t) ≡ length (declared_ports_at m t)
length_ports_at m t = length-map (declared_ports_at m t) (with_inverse m)

-- a port stands where it is declared
pub declared_at : (m : Model) (t k : ℕ) (p : PortAt) → IsAt (ports_at m t) k p → (q : PortAt) × IsAt (declared_ports_at m t) k q × (with_inverse m q ≡ p)
declared_at m t k p at = map_at (with_inverse m) (declared_ports_at m t) k p at

-- the inverse of a port of a type is that of its id
pub inverse_at : (m : Model) (t k : ℕ) (p : PortAt) → IsAt (ports_at m t) k p → p.inverse ≡ inverse_of m p.id
inverse_at m t k p at = let q = declared_at m t k p at in subst (λ r. r.inverse ≡ inverse_of m r.id) q.2 refl

-- a port is found by its id with its inverse or without
pub found_with_inverse : (m : Model) (t id : ℕ) → port_of m t id ≡ option_map (with_inverse m) (declared_port_of m t id)
found_with_inverse m t id = by_list (declared_ports_at m t)
  where
    by_list : (ps : List PortAt) → find (λ p. p.id == id) (map (with_inverse m) ps) ≡ option_map (with_inverse m) (find (λ p. p.id == id) ps)
    by_list [] = refl
    by_list (p ∷ ps) = by_test (p.id == id) (by_list ps)
      where
        by_test : (b : Bool) → find (λ p. p.id == id) (map (with_inverse m) ps) ≡ option_map (with_inverse m) (find (λ p. p.id == id) ps)
            → cond b (Some (with_inverse m p)) (find (λ p. p.id == id) (map (with_inverse m) ps)) ≡ option_map (with_inverse m) (cond b (Some p) (find (λ p. p.id == id) ps))
        by_test true rest = refl
        by_test false rest = rest
