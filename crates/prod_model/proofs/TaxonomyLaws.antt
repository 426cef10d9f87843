-- The tables have a row for each type, and what is no type has nothing.
use Rattle.std.proofs.Common.{◌≡◌, ℕ, ◌<◌, ◌≤◌, List, refl, [], length, get_or, zero-add, ◌∙◌}
use Rattle.std.proofs.lemmas.List.{get_or_default}
use Rattle.std.proofs.lemmas.Option.{slice_get_past}
use Rattle.std.proofs.lemmas.List.FromFn.{length-map-range_with_len, get_or-map-range_with_len}
use Rattle.prod_model.specs.declared.model.Model.{Model}
use Rattle.prod_model.specs.Taxonomy.{tables_of, declared_tables_of, attributes_of, ports_of, attributes_at, declared_ports_at, ports_at}

pub length_attributes : (m : Model) → length (tables_of m).attributes ≡ length m.types
unfolding tables_of
length_attributes m = simp length-map-range_with_len

pub length_ports : (m : Model) → length (tables_of m).ports ≡ length m.types
unfolding tables_of
length_ports m = simp length-map-range_with_len

pub attributes_row : (m : Model) (t : ℕ) → t < length m.types → get_or (tables_of m).attributes t [] ≡ attributes_at m t
unfolding tables_of
attributes_row m t within = get_or-map-range_with_len (attributes_at m) 0 (length m.types) t t [] within (zero-add t)

pub ports_row : (m : Model) (t : ℕ) → t < length m.types → get_or (tables_of m).ports t [] ≡ ports_at m t
unfolding tables_of
ports_row m t within = get_or-map-range_with_len (ports_at m) 0 (length m.types) t t [] within (zero-add t)

-- as many rows of declared attributes and ports
pub length_declared_attributes : (m : Model) → length (declared_tables_of m).attributes ≡ length m.types
unfolding declared_tables_of
length_declared_attributes m = simp length-map-range_with_len

pub length_declared_ports : (m : Model) → length (declared_tables_of m).ports ≡ length m.types
unfolding declared_tables_of
length_declared_ports m = simp length-map-range_with_len

pub declared_attributes_row : (m : Model) (t : ℕ) → t < length m.types → get_or (declared_tables_of m).attributes t [] ≡ attributes_at m t
unfolding declared_tables_of
declared_attributes_row m t within = get_or-map-range_with_len (attributes_at m) 0 (length m.types) t t [] within (zero-add t)

pub declared_ports_row : (m : Model) (t : ℕ) → t < length m.types → get_or (declared_tables_of m).ports t [] ≡ declared_ports_at m t
unfolding declared_tables_of
declared_ports_row m t within = get_or-map-range_with_len (declared_ports_at m) 0 (length m.types) t t [] within (zero-add t)

-- an element that was read at a place in range is that row
pub row_read : {A : Type 0} (rows : List (List A)) (t : ℕ) (r : List A) → t < length rows → r ≡ get_or rows t r → r ≡ get_or rows t []
row_read rows t r within read = read ∙ get_or_default rows t r [] within

-- a number that is no type has no attributes
pub no_attributes : (m : Model) (t : ℕ) → length m.types ≤ t → attributes_at m t ≡ []
unfolding attributes_of
no_attributes m t outside = rw (slice_get_past m.types t outside) refl

-- and no ports
pub no_declared_ports : (m : Model) (t : ℕ) → length m.types ≤ t → declared_ports_at m t ≡ []
unfolding ports_of
no_declared_ports m t outside = rw (slice_get_past m.types t outside) refl

pub no_ports : (m : Model) (t : ℕ) → length m.types ≤ t → ports_at m t ≡ []
unfolding ports_of
no_ports m t outside = rw (slice_get_past m.types t outside) refl
