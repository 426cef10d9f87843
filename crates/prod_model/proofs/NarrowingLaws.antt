-- A type has each attribute and port of the types above it, in the same place and under the same id, narrowed.
use Rattle.std.proofs.Common.{◌≡◌, ℕ, zero, suc, ◌≤◌, true, false, not, cond, ◌&&◌, List, [], ◌∷◌, ◌++◌, map, Option, Some, None, refl, sym, ap, ◌∙◌, subst, inl, inr, le_refl, leb-true, arith}
use Rattle.std.specs.Prelude.{slice_get, IsTrue, ℤ, int_le, ◌≤ℤ◌, nat_le}
use Rattle.std.specs.Option.{option_map, option_map_or, option_and_then}
use Rattle.std.specs.List.{list_any, list_all, find}
use Rattle.std.specs.Bool.{passes}
use Rattle.std.specs.Int.Signed.{le_z_yes}
use Rattle.std.proofs.lemmas.Bool.{false≢true, and_parts, and_from, false_from_ne_true}
use Rattle.std.proofs.lemmas.Int.{ints}
use Rattle.std.proofs.lemmas.Option.{same_Some, none-some}
use Rattle.prod_model.specs.declared.model.Model.{Model}
use Rattle.prod_model.specs.declared.model.TypeDecl.{TypeDecl}
use Rattle.prod_model.specs.declared.model.AttrDecl.{AttrDecl}
use Rattle.prod_model.specs.declared.model.PortDecl.{PortDecl}
use Rattle.prod_model.specs.declared.model.AttrAt.{AttrAt}
use Rattle.prod_model.specs.declared.model.PortAt.{PortAt}
use Rattle.prod_model.specs.declared.model.Domain.{Domain}
use Rattle.prod_model.specs.declared.model.Domain.TheVariants.{Range, Words}
use Rattle.prod_model.specs.Names.{same_text, is_distinct}
use Rattle.prod_model.specs.Forest.{is_a}
use Rattle.prod_model.specs.Taxonomy.{Named, declarations_of, kept_entry, entries_of, first_id, new_declarations, new_entries, attributes_of, ports_of, attributes_at, declared_ports_at, ports_at, with_inverse, made_attribute, made_port}
use Rattle.prod_model.specs.Valid.{IsDeclared, inherited, has_narrowings, attribute_narrows, port_narrows, narrows_domain, same_kind}
use Rattle.prod_model.proofs.Inverses.{declared_at}
use Rattle.base_laws.specs.Places.{IsAt}
use Rattle.base_laws.proofs.Tests.{list_all_at, list_all_from, list_any_at, list_any_from}
use Rattle.prod_model.proofs.NameLaws.{same_text_refl, distinct_front, distinct_back}
use Rattle.prod_model.proofs.ForestLines.{HasNoCycle, HasParent, no_cycle}
use Rattle.prod_model.proofs.LineLaws.{along_lines, is_a_cases, is_a_trans}
use Rattle.base_laws.proofs.Places.{HasEach, find_at, map_at, at_map, at_front}
use Rattle.prod_model.proofs.DistinctDeclarations.{distinct_each}
use Rattle.prod_model.proofs.EntryNames.{same_text_same, entries_parent, names_distinct}

-- ---- what a narrowing is

-- where the first domain is a range, the second is a range within it
abbrev pub IsRangeWithin : Domain → Domain → Type 0
IsRangeWithin (Range wide_low wide_high) (Range low high) = (wide_low ≤ℤ low) × (high ≤ℤ wide_high)
IsRangeWithin (Range wide_low wide_high) (Words words) = ⊥
IsRangeWithin (Words wide) d = Unit {0}

-- the second attribute is the first one, perhaps narrowed
pub record IsAttributeWithin (a b : AttrAt) : Type 0 where
  pub same_id : b.id ≡ a.id
  pub within : IsRangeWithin a.domain b.domain
  pub narrows : IsTrue (narrows_domain b.domain a.domain)

-- the second port is the first one, perhaps narrowed
pub record IsPortWithin (m : Model) (p q : PortAt) : Type 0 where
  pub same_id : q.id ≡ p.id
  pub low : p.low ≤ q.low
  pub high : q.high ≤ p.high
  pub target : (t : ℕ) → IsTrue (is_a m t q.target) → IsTrue (is_a m t p.target)

-- a range is within itself
range_within_refl : (d : Domain) → IsRangeWithin d d
range_within_refl (Range low high) = (omega (arith, ints), omega (arith, ints))
range_within_refl (Words words) = tt

-- a range within a range within another is within that one
range_within_trans : (c d e : Domain) → IsRangeWithin c d → IsRangeWithin d e → IsRangeWithin c e
range_within_trans (Range l h) (Range l' h') (Range l'' h'') first second = (omega (arith, ints, first.0, second.0), omega (arith, ints, first.1, second.1))
range_within_trans (Range l h) (Range l' h') (Words ws) first second = absurd second
range_within_trans (Range l h) (Words ws) e first second = absurd first
range_within_trans (Words ws) d e first second = tt

-- a domain lies within itself
pub narrows_refl : (d : Domain) → IsTrue (narrows_domain d d)
narrows_refl (Range low high) = grind (arith, ints)
narrows_refl (Words words) =
    list_all_from (λ w. list_any (same_text w) words) words (λ k w at.
    list_any_from (same_text w) words k w at (same_text_refl w))

-- and what lies within a domain that lies within another, lies within that one
int_le_trans : (a b c : ℤ) → IsTrue (int_le a b) → IsTrue (int_le b c) → IsTrue (int_le a c)
int_le_trans a b c first second = grind (arith, ints)

pub narrows_trans : (c d e : Domain) → IsTrue (narrows_domain d c) → IsTrue (narrows_domain e d) → IsTrue (narrows_domain e c)
narrows_trans (Range l h) (Range l' h') (Range l'' h'') first second =
    let one = and_parts _ _ first in
    let two = and_parts _ _ second in
    and_from _ _ (int_le_trans l l' l'' one.0 two.0) (int_le_trans h'' h' h two.1 one.1)
narrows_trans (Range l h) (Range l' h') (Words ws) first second = absurd (false≢true second)
narrows_trans (Range l h) (Words ws) e first second = absurd (false≢true first)
narrows_trans (Words ws) (Range l h) e first second = absurd (false≢true first)
narrows_trans (Words ws) (Words ws') (Range l h) first second = absurd (false≢true second)
narrows_trans (Words ws) (Words ws') (Words ws'') first second =
    list_all_from (λ w. list_any (same_text w) ws) ws'' (λ k w at.
    let found = list_any_at (same_text w) ws' (list_all_at (λ w. list_any (same_text w) ws') ws'' second k w at) in
    let same : w ≡ found.1 = same_text_same w found.1 found.3 in
    subst (λ v. IsTrue (list_any (same_text v) ws)) (sym same)
    (list_all_at (λ w. list_any (same_text w) ws) ws' first found.0 found.1 found.2))

-- an attribute narrows itself
attribute_within_refl : (a : AttrAt) → IsAttributeWithin a a
attribute_within_refl a =
    record { same_id = refl; within = range_within_refl a.domain; narrows = narrows_refl a.domain }

-- what narrows a narrowed attribute narrows the attribute
attribute_within_trans : (a b c : AttrAt) → IsAttributeWithin a b → IsAttributeWithin b c → IsAttributeWithin a c
attribute_within_trans a b c first second = record {
  same_id = second.same_id ∙ first.same_id;
  within = range_within_trans a.domain b.domain c.domain first.within second.within;
  narrows = narrows_trans a.domain b.domain c.domain first.narrows second.narrows;
}

-- a port narrows itself
port_within_refl : (m : Model) (p : PortAt) → IsPortWithin m p p
port_within_refl m p = record { same_id = refl; low = le_refl _; high = le_refl _; target = λ t under. under }

-- what narrows a narrowed port narrows the port
port_within_trans : (m : Model) (p q r : PortAt) → IsPortWithin m p q → IsPortWithin m q r → IsPortWithin m p r
port_within_trans m p q r first second = record {
  same_id = second.same_id ∙ first.same_id;
  low = omega (arith, first.low, second.low);
  high = omega (arith, first.high, second.high);
  target = λ t under. first.target t (second.target t under);
}

-- each place's element of the first list has one that narrows it in the second: twice over
has_each_trans : {A : Type 0} (R : A → A → Type 0) → ((a b c : A) → R a b → R b c → R a c) → (xs ys zs : List A) → HasEach R xs ys → HasEach R ys zs → HasEach R xs zs
has_each_trans R trans xs ys zs first second k x there =
    let y = first k x there in
    let z = second k y.0 y.1 in
    (z.0, z.1, trans x y.0 z.0 y.2 z.2)

-- ---- one step of a line

-- where no name stands twice, an entry is found under its name
find_entry : {A : Type 0} (es : List (Named A)) → IsTrue (is_distinct (map (λ e. e.name) es)) → (k : ℕ) (e : Named A) → IsAt es k e
    → find (λ x. same_text x.name e.name) es ≡ Some e
find_entry [] distinct k e there = absurd (none-some e there)
find_entry (x ∷ es) distinct zero e there =
    let is : x ≡ e = same_Some x e there in
    let passes : IsTrue (same_text x.name e.name) = ap (λ n. same_text n e.name) (ap (λ z. z.name) is) ∙ same_text_refl e.name in
    ap (λ b. cond b (Some x) (find (λ y. same_text y.name e.name) es)) passes ∙ ap Some is
find_entry (x ∷ es) distinct (suc k) e there =
    let names = map (λ (e : Named _). e.name) es in
    let other = (and_parts _ _ distinct).0 in
    let fails : same_text x.name e.name ≡ false =
    false_from_ne_true (same_text x.name e.name) (λ same.
    false≢true (sym (ap not (list_any_from (same_text x.name) names k e.name (at_map (λ e. e.name) es k e there) same)) ∙ other)) in
    ap (λ b. cond b (Some x) (find (λ y. same_text y.name e.name) es)) fails ∙ find_entry es (and_parts _ _ distinct).1 k e there

module _ {D A : Type 0} (declared : TypeDecl → List D) (name_of : D → List ℕ) (made : ℕ → D → A) (narrowed : D → A → A) (types : List TypeDecl) where
  -- A type has in each place of its parent's entries what narrows the entry, where each declaration of the type narrows what
  -- the parent has under its name.
  each_kept : (R : A → A → Type 0) → ((a : A) → R a a) → HasNoCycle types
      → ((u : ℕ) → IsTrue (is_distinct (map name_of (declarations_of declared name_of types u)))) → (t p : ℕ) → HasParent types t p
      → ((j : ℕ) (d : D) (e : Named A) → IsAt (declarations_of declared name_of types t) j d
      → find (λ x. same_text x.name (name_of d)) (entries_of declared name_of made narrowed types p) ≡ Some e → R e.what (narrowed d e.what))
      → HasEach R (map (λ e. e.what) (entries_of declared name_of made narrowed types p)) (map (λ e. e.what) (entries_of declared name_of made narrowed types t))
  each_kept R same forest distinct t p above each k x there =
      let entry = map_at (λ e. e.what) before k x there in
      let e = entry.0 in
      let kept = kept_entry declared name_of made narrowed ds e in
      let stands : IsAt after k kept = subst (λ l. IsAt l k kept) (sym (entries_parent declared name_of made narrowed types forest t p above))
      (at_front (map (kept_entry declared name_of made narrowed ds) before) new k kept (at_map (kept_entry declared name_of made narrowed ds) before k e entry.1)) in
      let found : find (λ x. same_text x.name e.name) before ≡ Some e =
      find_entry before (names_distinct declared name_of made narrowed types forest distinct p) k e entry.1 in
      (kept.what, at_map (λ e. e.what) after k kept stands, subst (λ a. R a kept.what) entry.2 (by e found (find (λ d. same_text (name_of d) e.name) ds) refl))
    where
      before : List (Named A)
      before = entries_of declared name_of made narrowed types p

      after : List (Named A)
      after = entries_of declared name_of made narrowed types t

      ds : List D
      ds = declarations_of declared name_of types t

      new : List (Named A)
      new = new_entries declared name_of made narrowed (first_id declared name_of types t) (new_declarations declared name_of types t)

      by : (e : Named A) → find (λ x. same_text x.name e.name) before ≡ Some e → (o : Option D) → find (λ d. same_text (name_of d) e.name) ds ≡ o
          → R e.what (option_map_or (λ d. record { name = e.name; what = narrowed d e.what }) o e).what
      by e found None is = same e.what
      by e found (Some d) is =
          let at = find_at (λ d. same_text (name_of d) e.name) ds d is in
          let named : name_of d ≡ e.name = same_text_same (name_of d) e.name at.2 in
          each at.0 d e at.1 (ap (λ n. find (λ x. same_text x.name n) before) named ∙ found)

-- ---- attributes and ports

-- no declaration's name stands twice among a type's attributes, nor among its ports
pub distinct_declarations : (m : Model) → IsDeclared m → (u : ℕ)
    → IsTrue (is_distinct (map (λ d. d.name) (declarations_of (λ d. d.attributes) (λ d. d.name) m.types u)))
    × IsTrue (is_distinct (map (λ d. d.name) (declarations_of (λ d. d.ports) (λ d. d.name) m.types u)))
distinct_declarations m is u = by (slice_get m.types u) refl
  where
    by : (o : Option TypeDecl) → slice_get m.types u ≡ o
        → IsTrue (is_distinct (map (λ d. d.name) (option_map_or (λ d. d.attributes) o []))) × IsTrue (is_distinct (map (λ d. d.name) (option_map_or (λ d. d.ports) o [])))
    by None stands = (refl, refl)
    by (Some d) stands =
        let both = distinct_each m is.formed.distinct_names u d stands in
        let attributes = map (λ (a : AttrDecl). a.name) d.attributes in
        let ports = map (λ (p : PortDecl). p.name) d.ports in
        (distinct_front attributes ports both, distinct_back attributes ports both)

-- what a declared type's declarations are
declared_narrows : (m : Model) → IsDeclared m → (t : ℕ) (d : TypeDecl) → slice_get m.types t ≡ Some d
    → IsTrue (list_all (attribute_narrows m d) d.attributes) × IsTrue (list_all (port_narrows m d) d.ports)
unfolding has_narrowings
declared_narrows m is t d stands =
    let test = λ (d : TypeDecl). list_all (attribute_narrows m d) d.attributes && list_all (port_narrows m d) d.ports in
    and_parts _ _ (list_all_at test m.types is.taxonomy.narrowings t d stands)

-- a domain that narrows a range is a range within it
narrows_within : (d wide : Domain) → IsTrue (narrows_domain d wide) → IsRangeWithin wide d
narrows_within (Range low high) (Range wide_low wide_high) h = let both = and_parts _ _ h in (le_z_yes (passes _ both.0), le_z_yes (passes _ both.1))
narrows_within (Words words) (Range wide_low wide_high) h = absurd cc
narrows_within d (Words wide) h = tt

-- a type has its parent's attributes, narrowed
pub attributes_kept : (m : Model) → IsDeclared m → (t p : ℕ) → HasParent m.types t p → HasEach IsAttributeWithin (attributes_at m p) (attributes_at m t)
unfolding attributes_of
attributes_kept m is t p above =
    let types = m.types in
    each_kept (λ d. d.attributes) (λ d. d.name) made_attribute (λ d a. made_attribute a.id d) m.types IsAttributeWithin attribute_within_refl (no_cycle m is.taxonomy.forest)
    (λ u. (distinct_declarations m is u).0) t p above (λ j d e there found.
    let declared : IsAt above.decl.attributes j d = subst (λ o. IsAt (option_map_or (λ d. d.attributes) o []) j d) above.stands there in
    let narrows = list_all_at (attribute_narrows m above.decl) above.decl.attributes (declared_narrows m is t above.decl above.stands).0 j d declared in
    let above_it : inherited attributes_of m above.decl d.name ≡ Some e.what =
    ap (λ o. option_map (λ e. e.what) (option_and_then (λ t. find (λ e. same_text e.name d.name) (attributes_of m.types t)) o)) above.parent
    ∙ ap (option_map (λ e. e.what)) found in
    let within : IsTrue (narrows_domain d.domain e.what.domain) =
    sym (ap (λ o. option_map_or (λ b. narrows_domain d.domain b.domain) o true) above_it) ∙ (and_parts _ _ narrows).1 in
    record { same_id = refl; within = narrows_within d.domain e.what.domain within; narrows = within })

-- a type has its parent's ports as they are declared, narrowed
declared_ports_kept : (m : Model) → IsDeclared m → (t p : ℕ) → HasParent m.types t p → HasEach (IsPortWithin m) (declared_ports_at m p) (declared_ports_at m t)
unfolding ports_of
declared_ports_kept m is t p above =
    each_kept (λ d. d.ports) (λ d. d.name) made_port (λ d p. made_port p.id d) m.types (IsPortWithin m) (port_within_refl m) (no_cycle m is.taxonomy.forest)
    (λ u. (distinct_declarations m is u).1) t p above (λ j d e there found.
    let declared : IsAt above.decl.ports j d = subst (λ o. IsAt (option_map_or (λ d. d.ports) o []) j d) above.stands there in
    let narrows = list_all_at (port_narrows m above.decl) above.decl.ports (declared_narrows m is t above.decl above.stands).1 j d declared in
    let above_it : inherited ports_of m above.decl d.name ≡ Some e.what =
    ap (λ o. option_map (λ e. e.what) (option_and_then (λ t. find (λ e. same_text e.name d.name) (ports_of m.types t)) o)) above.parent
    ∙ ap (option_map (λ e. e.what)) found in
    let within : IsTrue (same_kind d.kind e.what.kind && nat_le e.what.low d.low && nat_le d.high e.what.high && is_a m d.target e.what.target) =
    sym (ap (λ o. option_map_or (λ q. same_kind d.kind q.kind && nat_le q.low d.low && nat_le d.high q.high && is_a m d.target q.target) o true) above_it)
    ∙ (and_parts _ _ narrows).1 in
    let three = and_parts _ _ within in
    let two = and_parts _ _ three.0 in
    let one = and_parts _ _ two.0 in
    record {
      same_id = refl;
      low = leb-true _ _ one.1;
      high = leb-true _ _ two.1;
      target = λ u under. is_a_trans m is.taxonomy.forest u d.target e.what.target under three.1;
    })

-- a type has its parent's ports, narrowed
pub ports_kept : (m : Model) → IsDeclared m → (t p : ℕ) → HasParent m.types t p → HasEach (IsPortWithin m) (ports_at m p) (ports_at m t)
ports_kept m is t p above k x there =
    let port = declared_at m p k x there in
    let kept = declared_ports_kept m is t p above k port.0 port.1 in
    let within : IsPortWithin m (with_inverse m port.0) (with_inverse m kept.0) =
    record { same_id = kept.2.same_id; low = kept.2.low; high = kept.2.high; target = kept.2.target } in
    (with_inverse m kept.0, at_map (with_inverse m) (declared_ports_at m t) k kept.0 kept.1, subst (λ q. IsPortWithin m q (with_inverse m kept.0)) port.2 within)

-- A type under another has each attribute of that one, narrowed.
pub attributes_narrow : (m : Model) → IsDeclared m → (t u : ℕ) → IsTrue (is_a m t u) → HasEach IsAttributeWithin (attributes_at m u) (attributes_at m t)
attributes_narrow m is t u under =
    let forest = is.taxonomy.forest in
    along_lines m.types (no_cycle m forest) (λ t. IsTrue (is_a m t u) → HasEach IsAttributeWithin (attributes_at m u) (attributes_at m t)) (λ t each under.
    elim (is_a_cases m forest t u under) [
      | inl same ↦ λ k a there. (a, subst (λ v. IsAt (attributes_at m v) k a) (sym same) there, attribute_within_refl a)
      | inr more ↦ has_each_trans IsAttributeWithin attribute_within_trans (attributes_at m u) (attributes_at m more.0) (attributes_at m t)
          (each more.0 more.1 more.2) (attributes_kept m is t more.0 more.1)
    ]) t under

-- A type under another has each port of that one, narrowed.
pub ports_narrow : (m : Model) → IsDeclared m → (t u : ℕ) → IsTrue (is_a m t u) → HasEach (IsPortWithin m) (ports_at m u) (ports_at m t)
ports_narrow m is t u under =
    let forest = is.taxonomy.forest in
    along_lines m.types (no_cycle m forest) (λ t. IsTrue (is_a m t u) → HasEach (IsPortWithin m) (ports_at m u) (ports_at m t)) (λ t each under.
    elim (is_a_cases m forest t u under) [
      | inl same ↦ λ k p there. (p, subst (λ v. IsAt (ports_at m v) k p) (sym same) there, port_within_refl m p)
      | inr more ↦ has_each_trans (IsPortWithin m) (port_within_trans m) (ports_at m u) (ports_at m more.0) (ports_at m t)
          (each more.0 more.1 more.2) (ports_kept m is t more.0 more.1)
    ]) t under

-- And so it has each that is declared there.
pub declared_ports_narrow : (m : Model) → IsDeclared m → (t u : ℕ) → IsTrue (is_a m t u) → HasEach (IsPortWithin m) (declared_ports_at m u) (ports_at m t)
declared_ports_narrow m is t u under k p there =
    let narrowed = ports_narrow m is t u under k (with_inverse m p) (at_map (with_inverse m) (declared_ports_at m u) k p there) in
    let within = narrowed.2 in
    (narrowed.0, narrowed.1, record { same_id = within.same_id; low = within.low; high = within.high; target = within.target })
