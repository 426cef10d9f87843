-- What a type has under a name stands in its row at the place of the name.
use Rattle.std.proofs.Common.{◌≡◌, ℕ, ◌≤◌, Bool, true, false, cond, List, [], ◌∷◌, ◌++◌, ◌+◌, map, length, refl, sym, ap, ◌∙◌, arith, eq-eqb, zero-add, Option, Some, None, inl, inr, unwrap_or}
use Rattle.std.specs.Prelude.{slice_get, ◌==◌, IsSome, is_some}
use Rattle.std.specs.List.{find, position, position_or_len, range_with_len}
use Rattle.std.specs.Option.{option_map}
use Rattle.std.proofs.lemmas.List.Folds.{find_at}
use Rattle.std.proofs.lemmas.List.{length-map}
use Rattle.std.proofs.lemmas.List.FromFn.{length-map-range_with_len, map-range_with_len_more, get_or-map-range_with_len}
use Rattle.std.proofs.lemmas.Option.{slice_get-map, slice_get_past, slice_get_cases, unwrap_or-slice_get}
use Rattle.prod_model.specs.declared.model.Model.{Model}
use Rattle.prod_model.specs.declared.model.AttrAt.{AttrAt}
use Rattle.prod_model.specs.Names.{same_text}
use Rattle.prod_model.specs.declared.model.TypeDecl.{TypeDecl}
use Rattle.prod_model.specs.Forest.{type_numbers}
use Rattle.prod_model.specs.Taxonomy.{Named, attributes_of, ports_of, attribute_of, without_inverse}
use Rattle.prod_model.proofs.Rows.{attributes_row, bare_ports_row}
use Rattle.file_meaning.specs.declared.named_tables.NamedTables.{NamedTables}
use Rattle.file_meaning.specs.Expressions.{under_name, attribute_named, port_named, type_named}
use Rattle.file_meaning.specs.Named.{AreNamedTablesOf, attribute_names, port_names}
use Rattle.file_meaning.proofs.NamePlaces.{found, past}

mapped : {X Y : Type 0} (p : Y → Bool) (f : X → Y) (xs : List X) → position_or_len (λ x. p (f x)) xs ≡ position_or_len p (map f xs)
mapped p f [] = refl
mapped p f (x ∷ xs) = let rest = mapped p f xs in grind (arith)

module _ {A : Type 0} (names : List (List ℕ)) (entries : List (Named A)) (name : List ℕ) where
  same_place : names ≡ map (λ e. e.name) entries → position_or_len (λ n. same_text n name) names ≡ position_or_len (λ e. same_text e.name name) entries
  same_place same = ap (position_or_len (λ n. same_text n name)) same ∙ sym (mapped (λ n. same_text n name) (λ e. e.name) entries)

  -- what stands under the name has the place of the name
  under_found : (k : ℕ) → names ≡ map (λ e. e.name) entries → position (λ n. same_text n name) names ≡ Some k
      → slice_get (map (λ e. e.what) entries) k ≡ under_name name entries
  under_found k same is =
      slice_get-map (λ e. e.what) entries k
      ∙ ap (λ i. option_map (λ e. e.what) (slice_get entries i)) (found (λ n. same_text n name) names k is ∙ same_place same)
      ∙ sym (ap (option_map (λ e. e.what)) (find_at (λ e. same_text e.name name) entries))

  -- and nothing does where there is none
  under_none : names ≡ map (λ e. e.name) entries → position (λ n. same_text n name) names ≡ None → None ≡ under_name name entries
  under_none same none =
      let long : length entries ≡ length names = sym (length-map entries (λ e. e.name)) ∙ ap length (sym same) in
      let at : length entries ≡ position_or_len (λ e. same_text e.name name) entries = long ∙ past (λ n. same_text n name) names none ∙ same_place same in
      sym (ap (option_map (λ e. e.what)) (find_at (λ e. same_text e.name name) entries ∙ slice_get_past entries (position_or_len (λ e. same_text e.name name) entries) (omega (arith, at))))

-- ---- the rows of names

-- one more of the rows that a function of the type makes
pub rows_more : {X : Type 0} (f : ℕ → X) (xs ys : List X) (n : ℕ) (x : X) → xs ≡ map f (range_with_len 0 n) → ys ≡ xs ++ x ∷ [] → x ≡ f n
    → ys ≡ map f (range_with_len 0 (n + 1))
rows_more f xs ys n x so_far pushed is =
    pushed ∙ ap (λ zs. zs ++ x ∷ []) so_far ∙ ap (λ y. map f (range_with_len 0 n) ++ y ∷ []) is ∙ sym (map-range_with_len_more f 0 n n (zero-add n))

no_row : (rows : List (List (List ℕ))) (t : ℕ) → length rows ≤ t → unwrap_or (slice_get rows t) [] ≡ []
no_row rows t past = rw (slice_get_past rows t past) refl

row_of : (f : ℕ → List (List ℕ)) (m : Model) (t : ℕ) → (length m.types ≤ t → f t ≡ []) → unwrap_or (slice_get (map f (type_numbers m.types)) t) [] ≡ f t
row_of f m t outside = elim (slice_get_cases m.types t).1 [
  | inl w ↦ unwrap_or-slice_get (map f (type_numbers m.types)) t [] ∙ get_or-map-range_with_len f 0 (length m.types) t t [] w.1 (zero-add t)
  | inr w ↦ no_row (map f (type_numbers m.types)) t (omega (arith, length-map-range_with_len f 0 (length m.types), w.0)) ∙ sym (outside w.0)
]

no_attribute_names : (m : Model) (t : ℕ) → length m.types ≤ t → attribute_names m t ≡ []
unfolding attributes_of
no_attribute_names m t outside = rw (slice_get_past m.types t outside) refl

no_port_names : (m : Model) (t : ℕ) → length m.types ≤ t → port_names m t ≡ []
unfolding ports_of
no_port_names m t outside = rw (slice_get_past m.types t outside) refl

-- a name is looked for among those of the type's attributes
module _ (m : Model) (named : NamedTables) (t : ℕ) (name : List ℕ) (are : AreNamedTablesOf m named) where
  attribute_row : unwrap_or (slice_get named.attributes t) [] ≡ attribute_names m t
  attribute_row = ap (λ rows. unwrap_or (slice_get rows t) []) are.attributes ∙ row_of (attribute_names m) m t (no_attribute_names m t)

  port_row : unwrap_or (slice_get named.ports t) [] ≡ port_names m t
  port_row = ap (λ rows. unwrap_or (slice_get rows t) []) are.ports ∙ row_of (port_names m) m t (no_port_names m t)

  pub attribute_found : (k : ℕ) → position (λ n. same_text n name) (unwrap_or (slice_get named.attributes t) []) ≡ Some k
      → slice_get (unwrap_or (slice_get named.tables.now.attributes t) []) k ≡ attribute_named m (Some t) name
  attribute_found k is =
      ap (λ row. slice_get row k) (attributes_row m named.tables.now t are.tables)
      ∙ under_found (unwrap_or (slice_get named.attributes t) []) (attributes_of m.types t) name k attribute_row is

  pub attribute_none : position (λ n. same_text n name) (unwrap_or (slice_get named.attributes t) []) ≡ None → None ≡ attribute_named m (Some t) name
  attribute_none none = under_none (unwrap_or (slice_get named.attributes t) []) (attributes_of m.types t) name attribute_row none

  pub port_found : (k : ℕ) → position (λ n. same_text n name) (unwrap_or (slice_get named.ports t) []) ≡ Some k
      → option_map without_inverse (slice_get (unwrap_or (slice_get named.tables.now.ports t) []) k) ≡ port_named m (Some t) name
  port_found k is =
      sym (slice_get-map without_inverse (unwrap_or (slice_get named.tables.now.ports t) []) k)
      ∙ ap (λ row. slice_get row k) (bare_ports_row m named.tables.now t are.tables)
      ∙ under_found (unwrap_or (slice_get named.ports t) []) (ports_of m.types t) name k port_row is

  pub port_none : position (λ n. same_text n name) (unwrap_or (slice_get named.ports t) []) ≡ None → None ≡ port_named m (Some t) name
  port_none none = under_none (unwrap_or (slice_get named.ports t) []) (ports_of m.types t) name port_row none

  -- and a type among those of the types
  pub type_found : (k n : ℕ) → position (λ x. same_text x name) named.types ≡ Some k → n ≡ k → n ≡ type_named m name
  type_found k n is same =
      same ∙ found (λ x. same_text x name) named.types k is ∙ ap (position_or_len (λ x. same_text x name)) are.types
      ∙ sym (mapped (λ x. same_text x name) (λ (d : TypeDecl). d.name) m.types)

  pub type_none : (n : ℕ) → position (λ x. same_text x name) named.types ≡ None → n ≡ length m.types → n ≡ type_named m name
  type_none n none same =
      same ∙ sym (length-map m.types (λ (d : TypeDecl). d.name)) ∙ sym (ap length are.types)
      ∙ past (λ x. same_text x name) named.types none ∙ ap (position_or_len (λ x. same_text x name)) are.types
      ∙ sym (mapped (λ x. same_text x name) (λ (d : TypeDecl). d.name) m.types)

-- what passes a test in a list is found by it
some_or : {X : Type 0} (b : Bool) (x : X) (o : Option X) → is_some o ≡ true → is_some (cond b (Some x) o) ≡ true
some_or true x o some = refl
some_or false x o some = some

some_first : {X : Type 0} (b : Bool) (x : X) (o : Option X) → b ≡ true → is_some (cond b (Some x) o) ≡ true
some_first true x o is = refl
some_first false x o is = absurd (cc)

same_item : {X : Type 0} (x y : X) → Some x ≡ Some y → x ≡ y
same_item x y same = cc

passing_found : (p : Named AttrAt → Bool) (q : AttrAt → Bool) (es : List (Named AttrAt)) (a : AttrAt) → option_map (λ e. e.what) (find p es) ≡ Some a → q a ≡ true
    → is_some (find q (map (λ e. e.what) es)) ≡ true
passing_found p q [] a is passes = absurd (cc)
passing_found p q (e ∷ es) a is passes = by (p e) is (λ later. passing_found p q es a later passes)
  where
    by : (b : Bool) → option_map (λ e. e.what) (cond b (Some e) (find p es)) ≡ Some a
        → (option_map (λ e. e.what) (find p es) ≡ Some a → is_some (find q (map (λ e. e.what) es)) ≡ true)
        → is_some (cond (q e.what) (Some e.what) (find q (map (λ e. e.what) es))) ≡ true
    by true here rest = some_first (q e.what) e.what (find q (map (λ e. e.what) es)) (ap q (same_item e.what a here) ∙ passes)
    by false later rest = some_or (q e.what) e.what (find q (map (λ e. e.what) es)) (rest later)

-- the attribute under a name is found by its id too
pub found_by_id : (m : Model) (u : ℕ) (name : List ℕ) (a : AttrAt) → under_name name (attributes_of m.types u) ≡ Some a → IsSome (attribute_of m u a.id)
found_by_id m u name a is = passing_found (λ e. same_text e.name name) (λ b. b.id == a.id) (attributes_of m.types u) a is (eq-eqb a.id a.id refl)
