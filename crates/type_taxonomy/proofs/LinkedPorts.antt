-- Ports that are given their inverses in the order of their ids.
use Rattle.std.proofs.Common.{◌≡◌, ℕ, ◌+◌, ◌<◌, ◌≤◌, Bool, true, false, cond, List, [], ◌∷◌, ◌++◌, length, map, take, drop, set, get_or, sym, ap, ap₂, ◌∙◌, refl, Option, None, slice_get, ◌==◌, nat_lt, eqb-true, arith}
use Rattle.std.specs.Option.{option_and_then}
use Rattle.std.proofs.lemmas.Bool.Decides.{nat_tests}
use Rattle.std.proofs.lemmas.List.{length-map, length-append, take-append-drop, length-set, set-set, get_or-set_same, get_or_default}
use Rattle.std.proofs.lemmas.List.Edits.{map_over_more}
use Rattle.std.proofs.lemmas.Option.{slice_get_past}
use Rattle.std.proofs.lemmas.Simd.{map-map}
use Rattle.prod_model.specs.declared.model.Model.{Model}
use Rattle.prod_model.specs.declared.model.PortAt.{PortAt}
use Rattle.prod_model.specs.declared.model.PortDecl.{PortDecl}
use Rattle.prod_model.specs.declared.model.Tables.{Tables}
use Rattle.prod_model.specs.Forest.{type_numbers}
use Rattle.prod_model.specs.Taxonomy.{first_id, all_new_declarations, attributes_at, declared_ports_at, ports_at, with_inverse, without_inverse, named_inverse, inverse_of, tables_of, declared_tables_of}
use Rattle.prod_model.proofs.Inverses.{are_declared_tables}
use Rattle.prod_model.proofs.EntryPlaces.{first_id_before}
use Rattle.type_taxonomy.specs.steps.PortSearch.{given}

-- ---- rows that are written in place

length_over : {A : Type 0} (f : A → A) (xs : List A) (i : ℕ) → length (map f (take i xs) ++ drop i xs) ≡ length xs
length_over f xs i =
    length-append (map f (take i xs)) (drop i xs) ∙ ap (λ n. n + length (drop i xs)) (length-map (take i xs) f)
    ∙ sym (length-append (take i xs) (drop i xs)) ∙ ap length (take-append-drop i xs)

-- a row that is replaced is still there
pub still_known : {A : Type 0} (rows now : List (List A)) (kind : ℕ) (row : List A) → kind < length rows → now ≡ set rows kind row → kind < length now
still_known rows now kind row known so_far = omega (arith, ap length so_far, length-set rows kind row)

-- one more place of one row
pub place_more : {A : Type 0} (f : A → A) (rows now after : List (List A)) (kind i : ℕ) (x d : A) → kind < length rows → i < length (get_or rows kind [])
    → now ≡ set rows kind (map f (take i (get_or rows kind [])) ++ drop i (get_or rows kind []))
    → x ≡ get_or (get_or now kind []) i d → after ≡ set now kind (set (get_or now kind []) i (f x))
    → after ≡ set rows kind (map f (take (i + 1) (get_or rows kind [])) ++ drop (i + 1) (get_or rows kind []))
place_more f rows now after kind i x d known within so_far read written =
    let row = get_or rows kind [] in
    let so = map f (take i row) ++ drop i row in
    let here : get_or now kind [] ≡ so = ap (λ rs. get_or rs kind []) so_far ∙ get_or-set_same rows kind so [] known in
    let step : set so i (f x) ≡ map f (take (i + 1) row) ++ drop (i + 1) row =
    map_over_more f row so i x within refl
    (read ∙ ap (λ r. get_or r i d) here ∙ get_or_default so i d x (omega (arith, within, length_over f row i))) in
    written ∙ ap₂ (λ rs r. set rs kind (set r i (f x))) so_far here ∙ set-set rows kind so (set so i (f x)) ∙ ap (set rows kind) step

-- one more row
pub row_more : {A : Type 0} (f : A → A) (rows now after : List (List A)) (kind : ℕ) → kind < length rows
    → now ≡ map (map f) (take kind rows) ++ drop kind rows → after ≡ set now kind (map f (get_or now kind []))
    → after ≡ map (map f) (take (kind + 1) rows) ++ drop (kind + 1) rows
row_more f rows now after kind known so_far written =
    let row = get_or now kind [] in
    let within : kind < length now = omega (arith, ap length so_far, length_over (map f) rows kind) in
    written ∙ map_over_more (map f) rows now kind row known so_far (sym (get_or_default now kind row [] within))

-- ---- inverses in the order of ids

-- a port with its inverse, if its id is below the number
abbrev pub linked_below : Model → ℕ → PortAt → PortAt
linked_below m n p = record p { inverse = cond (nat_lt p.id n) (inverse_of m p.id) None }

none_below : (m : Model) (p : PortAt) → without_inverse p ≡ linked_below m 0 p
none_below m p = ap (λ b. record p { inverse = cond b (inverse_of m p.id) None }) (false_is p.id)
  where
    false_is : (n : ℕ) → false ≡ nat_lt n 0
    false_is n = grind (arith, nat_tests)

one_below : (m : Model) (n : ℕ) (p : PortAt) → given n (inverse_of m n) (linked_below m n p) ≡ linked_below m (n + 1) p
one_below m n p = by (p.id == n) (nat_lt p.id n) (nat_lt p.id (n + 1)) refl (grind (arith, nat_tests)) (grind (arith, nat_tests))
  where
    by : (here before after : Bool) → (p.id == n) ≡ here → (here ≡ true → after ≡ true) → (here ≡ false → after ≡ before)
        → cond here (record p { inverse = inverse_of m n }) (record p { inverse = cond before (inverse_of m p.id) None }) ≡ record p { inverse = cond after (inverse_of m p.id) None }
    by true before after is then stays =
        let same : p.id ≡ n = eqb-true p.id n is in
        ap (λ k. record p { inverse = inverse_of m k }) (sym same) ∙ ap (λ b. record p { inverse = cond b (inverse_of m p.id) None }) (sym (then refl))
    by false before after is then stays = ap (λ b. record p { inverse = cond b (inverse_of m p.id) None }) (sym (stays refl))

all_below : (m : Model) (n : ℕ) (p : PortAt) → n ≡ length (all_new_declarations (λ d. d.ports) (λ d. d.name) m.types) → linked_below m n p ≡ with_inverse m p
unfolding inverse_of
all_below m n p all = by (nat_lt p.id n) (λ past. slice_get_past news p.id (omega (arith, all, beyond past)))
  where
    news : List PortDecl
    news = all_new_declarations (λ d. d.ports) (λ d. d.name) m.types

    beyond : nat_lt p.id n ≡ false → n ≤ p.id
    beyond past = grind (arith, nat_tests)

    by : (b : Bool) → (b ≡ false → slice_get news p.id ≡ None) → record p { inverse = cond b (inverse_of m p.id) None } ≡ with_inverse m p
    by true past = refl
    by false past = ap (λ o. record p { inverse = option_and_then (named_inverse m) o }) (sym (past refl))

-- rows in which each port is changed twice
twice : (f g h : PortAt → PortAt) (rows : List (List PortAt)) → ((p : PortAt) → g (f p) ≡ h p) → map (map g) (map (map f) rows) ≡ map (map h) rows
twice f g h [] same = refl
twice f g h (row ∷ rows) same =
    ap₂ (λ r rs. r ∷ rs) (map-map g f row ∙ ap (λ k. map k row) (λ j p. same p j)) (twice f g h rows same)

abbrev declared_rows : Model → List (List PortAt)
declared_rows m = map (declared_ports_at m) (type_numbers m.types)

-- before the first id
pub none_linked : (m : Model) (rows : List (List PortAt)) → rows ≡ declared_rows m → rows ≡ map (map (linked_below m 0)) (declared_rows m)
unfolding declared_tables_of
none_linked m rows are =
    let same : without_inverse ≡ linked_below m 0 = λ j p. none_below m p j in
    are ∙ sym (are_declared_tables m).ports ∙ ap (λ f. map (map f) (declared_rows m)) same

-- one id more
pub one_linked : (m : Model) (n : ℕ) (inverse : Option ℕ) (rows after : List (List PortAt)) → rows ≡ map (map (linked_below m n)) (declared_rows m) → inverse ≡ inverse_of m n
    → after ≡ map (map (given n inverse)) rows → after ≡ map (map (linked_below m (n + 1))) (declared_rows m)
one_linked m n inverse rows after so_far is written =
    written ∙ ap₂ (λ i rs. map (map (given n i)) rs) is so_far
    ∙ twice (linked_below m n) (given n (inverse_of m n)) (linked_below m (n + 1)) (declared_rows m) (one_below m n)

with_each : (m : Model) (ts : List ℕ) → map (map (with_inverse m)) (map (declared_ports_at m) ts) ≡ map (ports_at m) ts
with_each m [] = refl
with_each m (t ∷ ts) = ap (λ rows. ports_at m t ∷ rows) (with_each m ts)

-- after the last id
pub all_linked : (m : Model) (n : ℕ) (rows : List (List PortAt)) → n ≡ first_id (λ d. d.ports) (λ d. d.name) m.types (length m.types)
    → rows ≡ map (map (linked_below m n)) (declared_rows m) → rows ≡ map (ports_at m) (type_numbers m.types)
all_linked m n rows all so_far =
    let every = all ∙ first_id_before (λ d. d.ports) (λ d. d.name) m.types (length m.types) in
    let same : linked_below m n ≡ with_inverse m = λ j p. all_below m n p every j in
    so_far ∙ ap (λ f. map (map f) (declared_rows m)) same ∙ with_each m (type_numbers m.types)

-- the ports of the declared tables
pub declared_ports : (m : Model) (tables : Tables) → tables ≡ declared_tables_of m → tables.ports ≡ declared_rows m
unfolding declared_tables_of
declared_ports m tables are = ap (λ ts. ts.ports) are

-- the tables with those ports
pub tables_linked : (m : Model) (tables : Tables) (rows : List (List PortAt)) → tables ≡ declared_tables_of m → rows ≡ map (ports_at m) (type_numbers m.types)
    → record { attributes = tables.attributes; ports = rows } ≡ tables_of m
unfolding tables_of declared_tables_of
tables_linked m tables rows are linked =
    let own : tables.attributes ≡ map (attributes_at m) (type_numbers m.types) = ap (λ ts. ts.attributes) are in
    ap₂ (λ a r. record { attributes = a; ports = r }) own linked
