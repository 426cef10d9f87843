-- The names of what a type has: its parent's, and then those of its new declarations.
use Rattle.std.proofs.Common.{◌≡◌, ◌∙◌, ℕ, zero, suc, ◌-◌, ◌<◌, ◌≤◌, List, [], ◌∷◌, ◌++◌, map, reverse, length, ap, sym, Option, Some, None, refl, arith}
use Rattle.std.specs.Prelude.{not, slice_get}
use Rattle.std.specs.Option.{option_map_or, option_and_then}
use Rattle.std.specs.List.{fold, filter}
use Rattle.std.proofs.lemmas.List.{length-map}
use Rattle.prod_model.specs.declared.model.Model.{Model}
use Rattle.prod_model.specs.declared.model.TypeDecl.{TypeDecl}
use Rattle.prod_model.specs.Forest.{line, parent_of}
use Rattle.prod_model.specs.Taxonomy.{is_declared_above, new_declarations, extended_entries, entries_of, made_attribute, made_port, attributes_of, ports_of, attributes_at, ports_at}
use Rattle.prod_model.specs.Valid.{IsValid}
use Rattle.prod_model.proofs.Ancestors.{length_line_parent, line_none}
use Rattle.prod_model.proofs.EntryLaws.{entries_of_parent, names_extended}
use Rattle.prod_model.proofs.ForestLines.{HasNoCycle, HasParent, no_cycle}
use Rattle.prod_model.proofs.Inverses.{length_ports_at}

-- ---- what stands in a list that is joined of two

-- in the first
get_front : {X : Type 0} (xs ys : List X) (k : ℕ) → k < length xs → slice_get (xs ++ ys) k ≡ slice_get xs k
get_front [] ys k h = absurd (omega arith)
get_front (x ∷ xs) ys zero h = refl
get_front (x ∷ xs) ys (suc k) h = get_front xs ys k (omega arith)

-- behind the first
get_back : {X : Type 0} (xs ys : List X) (k : ℕ) → length xs ≤ k → slice_get (xs ++ ys) k ≡ slice_get ys (k - length xs)
get_back [] ys k h = let e : k ≡ k - 0 = omega arith in ap (slice_get ys) e
get_back (x ∷ xs) ys zero h = absurd (omega arith)
get_back (x ∷ xs) ys (suc k) h =
    let e : k - length xs ≡ suc k - length (x ∷ xs) = omega arith in get_back xs ys k (omega arith) ∙ ap (slice_get ys) e

-- ---- of either sort

module _ {D A : Type 0} (declared : TypeDecl → List D) (name_of : D → List ℕ) (made : ℕ → D → A) (narrowed : D → A → A) where
  abbrev names_at : List TypeDecl → ℕ → List (List ℕ)
  names_at types t = map (λ e. e.name) (entries_of declared name_of made narrowed types t)

  abbrev news : List TypeDecl → ℕ → List D
  news = new_declarations declared name_of

  -- the names of a type that has this declaration
  names_declared : (types : List TypeDecl) → HasNoCycle types → (t : ℕ) (d : TypeDecl) → slice_get types t ≡ Some d → (o : Option ℕ) → d.parent ≡ o
      → names_at types t ≡ map (λ e. e.name) (option_map_or (entries_of declared name_of made narrowed types) o []) ++ map name_of (news types t)
  names_declared types forest t d is o parent =
      ap (map (λ e. e.name)) (entries_of_parent declared name_of made narrowed types forest t d is)
      ∙ names_extended declared name_of made narrowed types (option_map_or (entries_of declared name_of made narrowed types) d.parent []) t
      ∙ ap (λ p. map (λ e. e.name) (option_map_or (entries_of declared name_of made narrowed types) p []) ++ map name_of (news types t)) parent

  -- a type with a parent has the parent's names first
  pub names_of_parent : (types : List TypeDecl) → HasNoCycle types → (t p : ℕ) → HasParent types t p → names_at types t ≡ names_at types p ++ map name_of (news types t)
  names_of_parent types forest t p above = names_declared types forest t above.decl above.stands (Some p) above.parent

  -- what is no type has no names, and declares nothing
  names_of_none : (types : List TypeDecl) (t : ℕ) → slice_get types t ≡ None → names_at types t ≡ map name_of (news types t)
  names_of_none types t none =
      ap (λ us. map (λ e. e.name) (fold (extended_entries declared name_of made narrowed types) [] (reverse us))) (line_none types t none)
      ∙ sym (ap (λ ds. map name_of ds) (nothing none))
    where
      nothing : slice_get types t ≡ None → news types t ≡ []
      nothing none = ap (λ o. filter (λ d. not (is_declared_above declared name_of types t (name_of d))) (option_map_or declared o [])) none

  -- a type without a parent has those of its new declarations alone
  pub names_alone : (types : List TypeDecl) → HasNoCycle types → (t : ℕ) → option_and_then (λ d. d.parent) (slice_get types t) ≡ None
      → names_at types t ≡ map name_of (news types t)
  names_alone types forest t alone = by (slice_get types t) refl
    where
      by : (o : Option TypeDecl) → slice_get types t ≡ o → names_at types t ≡ map name_of (news types t)
      by None is = names_of_none types t is
      by (Some d) is =
          let parent : d.parent ≡ None = sym (ap (option_and_then (λ e. e.parent)) is) ∙ alone in
          names_declared types forest t d is None parent

-- the parent of a type stands in its declaration
pub has_parent : (m : Model) (t p : ℕ) → parent_of m t ≡ Some p → HasParent m.types t p
has_parent m t p is = by (slice_get m.types t) refl
  where
    by : (o : Option TypeDecl) → slice_get m.types t ≡ o → HasParent m.types t p
    by None none = absurd (none_some (sym (ap (option_and_then (λ d. d.parent)) none) ∙ is))
      where
        none_some : ¬ (None ≡ Some p)
        none_some e = absurd cc
    by (Some d) stands = record {
      decl = d;
      stands = stands;
      parent = sym (ap (option_and_then (λ e. e.parent)) stands) ∙ is;
    }

-- ---- of a valid model

-- as many names as attributes
names_of_attributes : (m : Model) (p : ℕ) → length (map (λ a. a.name) (attributes_of m.types p)) ≡ length (attributes_at m p)
names_of_attributes m p = length-map (attributes_of m.types p) (λ a. a.name) ∙ sym (length-map (attributes_of m.types p) (λ a. a.what))

names_of_ports : (m : Model) (p : ℕ) → length (map (λ q. q.name) (ports_of m.types p)) ≡ length (ports_at m p)
names_of_ports m p = length-map (ports_of m.types p) (λ q. q.name) ∙ sym (length-map (ports_of m.types p) (λ q. q.what)) ∙ sym (length_ports_at m p)

attributes_of_parent : (m : Model) → IsValid m → (t p : ℕ) → parent_of m t ≡ Some p
    → map (λ a. a.name) (attributes_of m.types t) ≡ map (λ a. a.name) (attributes_of m.types p) ++ map (λ d. d.name) (new_declarations (λ d. d.attributes) (λ d. d.name) m.types t)
unfolding attributes_of
attributes_of_parent m valid t p is =
    names_of_parent (λ d. d.attributes) (λ d. d.name) made_attribute (λ d a. made_attribute a.id d) m.types (no_cycle m valid.declared.taxonomy.forest) t p (has_parent m t p is)

ports_of_parent : (m : Model) → IsValid m → (t p : ℕ) → parent_of m t ≡ Some p
    → map (λ q. q.name) (ports_of m.types t) ≡ map (λ q. q.name) (ports_of m.types p) ++ map (λ d. d.name) (new_declarations (λ d. d.ports) (λ d. d.name) m.types t)
unfolding ports_of
ports_of_parent m valid t p is =
    names_of_parent (λ d. d.ports) (λ d. d.name) made_port (λ d q. made_port q.id d) m.types (no_cycle m valid.declared.taxonomy.forest) t p (has_parent m t p is)

-- without a parent there are new ones alone
pub attributes_alone : (m : Model) → IsValid m → (t : ℕ) → parent_of m t ≡ None
    → map (λ a. a.name) (attributes_of m.types t) ≡ map (λ d. d.name) (new_declarations (λ d. d.attributes) (λ d. d.name) m.types t)
unfolding attributes_of
attributes_alone m valid t alone =
    names_alone (λ d. d.attributes) (λ d. d.name) made_attribute (λ d a. made_attribute a.id d) m.types (no_cycle m valid.declared.taxonomy.forest) t alone

pub ports_alone : (m : Model) → IsValid m → (t : ℕ) → parent_of m t ≡ None
    → map (λ q. q.name) (ports_of m.types t) ≡ map (λ d. d.name) (new_declarations (λ d. d.ports) (λ d. d.name) m.types t)
unfolding ports_of
ports_alone m valid t alone =
    names_alone (λ d. d.ports) (λ d. d.name) made_port (λ d q. made_port q.id d) m.types (no_cycle m valid.declared.taxonomy.forest) t alone

-- the parent's come first
pub inherited_attribute : (m : Model) → IsValid m → (t p k : ℕ) → parent_of m t ≡ Some p → k < length (attributes_at m p)
    → slice_get (map (λ a. a.name) (attributes_of m.types p)) k ≡ slice_get (map (λ a. a.name) (attributes_of m.types t)) k
inherited_attribute m valid t p k is within =
    sym (ap (λ ns. slice_get ns k) (attributes_of_parent m valid t p is)
    ∙ get_front (map (λ a. a.name) (attributes_of m.types p)) _ k (omega (arith, within, names_of_attributes m p)))

pub inherited_port : (m : Model) → IsValid m → (t p k : ℕ) → parent_of m t ≡ Some p → k < length (ports_at m p)
    → slice_get (map (λ q. q.name) (ports_of m.types p)) k ≡ slice_get (map (λ q. q.name) (ports_of m.types t)) k
inherited_port m valid t p k is within =
    sym (ap (λ ns. slice_get ns k) (ports_of_parent m valid t p is)
    ∙ get_front (map (λ q. q.name) (ports_of m.types p)) _ k (omega (arith, within, names_of_ports m p)))

-- and the new ones stand behind them
pub new_attribute : (m : Model) → IsValid m → (t p k n : ℕ) → parent_of m t ≡ Some p → n ≡ length (attributes_at m p) → n ≤ k
    → slice_get (map (λ d. d.name) (new_declarations (λ d. d.attributes) (λ d. d.name) m.types t)) (k - n) ≡ slice_get (map (λ a. a.name) (attributes_of m.types t)) k
new_attribute m valid t p k n is many past =
    let long : length (map (λ a. a.name) (attributes_of m.types p)) ≡ n = names_of_attributes m p ∙ sym many in
    let behind : k - length (map (λ a. a.name) (attributes_of m.types p)) ≡ k - n = ap (λ l. k - l) long in
    sym (ap (λ ns. slice_get ns k) (attributes_of_parent m valid t p is)
    ∙ get_back (map (λ a. a.name) (attributes_of m.types p)) _ k (omega (arith, past, long))
    ∙ ap (slice_get _) behind)

pub new_port : (m : Model) → IsValid m → (t p k n : ℕ) → parent_of m t ≡ Some p → n ≡ length (ports_at m p) → n ≤ k
    → slice_get (map (λ d. d.name) (new_declarations (λ d. d.ports) (λ d. d.name) m.types t)) (k - n) ≡ slice_get (map (λ q. q.name) (ports_of m.types t)) k
new_port m valid t p k n is many past =
    let long : length (map (λ q. q.name) (ports_of m.types p)) ≡ n = names_of_ports m p ∙ sym many in
    let behind : k - length (map (λ q. q.name) (ports_of m.types p)) ≡ k - n = ap (λ l. k - l) long in
    sym (ap (λ ns. slice_get ns k) (ports_of_parent m valid t p is)
    ∙ get_back (map (λ q. q.name) (ports_of m.types p)) _ k (omega (arith, past, long))
    ∙ ap (slice_get _) behind)

-- the line of the parent is shorter
pub shorter_line : (m : Model) → IsValid m → (t p : ℕ) → parent_of m t ≡ Some p → length (line m.types t) ≡ suc (length (line m.types p))
shorter_line m valid t p is = length_line_parent m.types (no_cycle m valid.declared.taxonomy.forest) t p (has_parent m t p is)
