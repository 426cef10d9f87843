-- What a new instance covers.
use Rattle.std.proofs.Common.{◌≡◌, ℕ, zero, suc, ◌+◌, ◌≤◌, ◌<◌, max, Bool, true, false, List, [], ◌∷◌, length, map, refl, ap, ap₂, sym, ◌∙◌, subst, inl, inr, Some, None, Option, arith, ltb-true, le_refl, zero-add, zero-le}
use Rattle.std.specs.Prelude.{IsTrue, ◌==◌, slice_get, slice_index_or, nat_lt, nat_le, if◌then◌else◌}
use Rattle.std.specs.Option.{option_map_or, option_map}
use Rattle.std.specs.List.{list_any, filter, fold, count_by, range_with_len, enumerate_from, cons_option}
use Rattle.std.proofs.lemmas.Bool.{and_parts, and_from, or_cases, or_left, or_right, eqb-true, false≢true}
use Rattle.std.proofs.lemmas.Option.{same_Some, none-some, get_or_from_slice_get, slice_get-map}
use Rattle.std.proofs.lemmas.List.Sums.{count_by-le-length}
use Rattle.prod_model.specs.declared.model.Model.{Model}
use Rattle.prod_model.specs.declared.model.PortAt.{PortAt}
use Rattle.prod_model.specs.Taxonomy.{port_of}
use Rattle.config_value.specs.declared.configuration.Instance.{Instance}
use Rattle.config_value.specs.Value.{value_of, links_of}
use Rattle.base_laws.specs.Places.{IsAt}
use Rattle.base_laws.proofs.Tests.{option_map_or_at}
use Rattle.config_value.proofs.Places.{is_between_from}
use Rattle.base_laws.proofs.Ranges.{slice_get_range_with_len}
use Rattle.state_space.specs.Values.{Values, has_value}
use Rattle.state_space.specs.Sets.{has_number}
use Rattle.state_space.specs.Ports.{parted, allows}
use Rattle.config_value.specs.Literals.{has_attribute, has_port}
use Rattle.state_space.specs.Made.{domain_of}
use Rattle.state_space.specs.State.{first_attributes, first_ports, values_of, is_whole_value}
use Rattle.state_space.specs.Covers.{CoversInstance, has_value_under, allows_under}
use Rattle.state_space.specs.Root.{new_instance, ports_under, whole_links}
use Rattle.state_space.specs.Declared.{HasIds}
use Rattle.state_space.proofs.NarrowingLaws.{true_along}
use Rattle.state_space.proofs.PortLaws.{all_from_has, has_number-filter}

-- ---- tables

pub slice_get-enumerate_from : {X : Type 0} (i : ℕ) (xs : List X) (k : ℕ) (x : X) → IsAt xs k x → IsAt (enumerate_from i xs) k (i + k, x)
slice_get-enumerate_from i [] k x at = absurd (none-some x at)
slice_get-enumerate_from i (y ∷ ys) zero x at = let e : i ≡ i + 0 = omega arith in ap₂ (λ n z. Some (n, z)) e (same_Some y x at)
slice_get-enumerate_from i (y ∷ ys) (suc k) x at =
    let e : i + 1 + k ≡ i + suc k = omega arith in slice_get-enumerate_from (i + 1) ys k x at ∙ ap (λ n. Some (n, x)) e

-- the entry that a table has at a place
pub entry_at : {D : Type 0} (parts : List (Option D)) (k : ℕ) (o : Option D) → IsAt parts k o → slice_index_or parts k None ≡ o
entry_at parts k o at = get_or_from_slice_get parts k o None at

-- a type with a test among some is one of some that pass
any_kind : (test : ℕ → Bool) (kinds : List ℕ) (t : ℕ) → IsTrue (has_number kinds t) → IsTrue (test t) → IsTrue (list_any test kinds)
any_kind test [] t there passes = absurd (false≢true there)
any_kind test (u ∷ us) t there passes = elim (or_cases (u == t) (has_number us t) there) [
  | inl here ↦ or_left _ _ (subst (λ k. IsTrue (test k)) (sym (eqb-true u t here)) passes)
  | inr later ↦ or_right _ _ (any_kind test us t later passes)
]

-- ---- ports

-- each number is at most the greatest
at_most_greatest : (xs : List ℕ) (a k x : ℕ) → IsAt xs k x → (a ≤ fold max a xs) × (x ≤ fold max a xs)
at_most_greatest [] a k x at = absurd (none-some x at)
at_most_greatest (y ∷ ys) a k x at = by k at
  where
    grows : (zs : List ℕ) (b : ℕ) → b ≤ fold max b zs
    grows [] b = le_refl b
    grows (z ∷ zs) b = let rest = grows zs (max b z) in omega (arith, rest)

    later : (zs : List ℕ) (b j : ℕ) → IsAt zs j x → x ≤ fold max b zs
    later [] b j at = absurd (none-some x at)
    later (z ∷ zs) b zero at = let rest = grows zs (max b z) in let same : z ≡ x = same_Some z x at in omega (arith, rest, same)
    later (z ∷ zs) b (suc j) at = later zs (max b z) j at

    by : (j : ℕ) → IsAt (y ∷ ys) j x → (a ≤ fold max a (y ∷ ys)) × (x ≤ fold max a (y ∷ ys))
    by j at = (grows (y ∷ ys) a, later (y ∷ ys) a j at)

-- what a possible type has under the id is among what all have
pub among_ports : (m : Model) (kinds : List ℕ) (p t : ℕ) (q : PortAt) → IsTrue (has_number kinds t) → port_of m t p ≡ Some q → (k : ℕ) × IsAt (ports_under m kinds p) k q
among_ports m [] p t q there is = absurd (false≢true there)
among_ports m (u ∷ us) p t q there is = elim (or_cases (u == t) (has_number us t) there) [
  | inl here ↦ first (port_of m u p) (subst (λ k. port_of m k p ≡ Some q) (sym (eqb-true u t here)) is)
  | inr later ↦ consed (port_of m u p) (among_ports m us p t q later is)
]
  where
    first : (o : Option PortAt) → o ≡ Some q → (k : ℕ) × IsAt (cons_option o (ports_under m us p)) k q
    first None is = absurd (none-some q is)
    first (Some r) is = (0, is)

    consed : (o : Option PortAt) → (k : ℕ) × IsAt (ports_under m us p) k q → (k : ℕ) × IsAt (cons_option o (ports_under m us p)) k q
    consed None at = at
    consed (Some r) at = (suc at.0, at.1)

-- the links that a new port may have
whole_allows : (made : ℕ) (linkable : List ℕ) (qs : List PortAt) (k : ℕ) (q : PortAt) (links : List ℕ) → IsAt qs k q → length links ≤ q.high
    → ((j : ℕ) → j < made → IsTrue (has_number linkable j)) → IsTrue (option_map_or (λ d. allows d (parted made links)) (whole_links linkable qs) false)
whole_allows made linkable [] k q links at few each = absurd (none-some q at)
whole_allows made linkable (r ∷ rs) k q links at few each =
    let highs = map (λ (r : PortAt). r.high) (r ∷ rs) in
    let most = (at_most_greatest highs 0 k q.high (slice_get-map (λ (r : PortAt). r.high) (r ∷ rs) k ∙ ap (option_map (λ (r : PortAt). r.high)) at)).1 in
    let count = count_by-le-length (nat_le made) links in
    and_from _ _ (all_from_has (has_number linkable) (filter (λ j. nat_lt j made) links) (λ j there.
    each j (ltb-true j made (and_parts (has_number links j) (nat_lt j made) (sym (has_number-filter (λ j. nat_lt j made) links j) ∙ there)).1)))
    (is_between_from 0 (fold max 0 highs) (count_by (nat_le made) links) (zero-le, omega (arith, most, count, few)))

-- ---- the new instance

-- An instance of one of the types, with values of the whole domains and with links as few as its type allows, is covered by a new one.
pub new_covers : (m : Model) (kinds linkable : List ℕ) (made : ℕ) (y : Instance) → HasIds m → IsTrue (has_number kinds y.kind)
    → ((a : ℕ) → IsTrue (has_attribute m y.kind a) → IsTrue (is_whole_value m a (value_of m y a)))
    → ((p : ℕ) → IsTrue (has_port m y.kind p) → (q : PortAt) × (port_of m y.kind p ≡ Some q) × (length (links_of m y p) ≤ q.high))
    → ((j : ℕ) → j < made → IsTrue (has_number linkable j)) → CoversInstance m made (new_instance m kinds linkable) y
new_covers m kinds linkable made y ids kind values links each = record {
  kind = kind;
  values = value;
  links = link;
}
  where
    value : (a : ℕ) → IsTrue (has_attribute m y.kind a) → IsTrue (has_value_under (new_instance m kinds linkable) a (value_of m y a))
    value a has =
        let declared = option_map_or_at (λ d. has_value d (value_of m y a)) (option_map_or (λ d. Some (values_of d.domain)) (slice_get (first_attributes m) a) None) (values a has) in
        by (slice_get (first_attributes m) a) refl declared.0 declared.1 declared.2
      where
        by : (o : Option _) → slice_get (first_attributes m) a ≡ o → (d : Values) → option_map_or (λ d. Some (values_of d.domain)) o None ≡ Some d → IsTrue (has_value d (value_of m y a))
            → IsTrue (has_value_under (new_instance m kinds linkable) a (value_of m y a))
        by None at d is there = absurd (none-some d is)
        by (Some f) at d is there =
            let table = λ (e : ℕ × _). if list_any (λ t. has_attribute m t e.0) kinds then Some (values_of e.1.domain) else None in
            let row : IsAt (map table (enumerate_from 0 (first_attributes m))) a (table (0 + a, f)) =
            slice_get-map table (enumerate_from 0 (first_attributes m)) a ∙ ap (option_map table) (slice_get-enumerate_from 0 (first_attributes m) a f at) in
            let some : list_any (λ t. has_attribute m t (0 + a)) kinds ≡ true = ap (λ n. list_any (λ t. has_attribute m t n) kinds) (zero-add a) ∙ any_kind (λ t. has_attribute m t a) kinds y.kind kind has in
            let stands : domain_of (new_instance m kinds linkable) a ≡ Some (values_of f.domain) =
            entry_at (map table (enumerate_from 0 (first_attributes m))) a (table (0 + a, f)) row ∙ ap (λ b. if b then Some (values_of f.domain) else None) some in
            true_along _ _ (sym (ap (λ o. option_map_or (λ d. has_value d (value_of m y a)) o false) stands)) (subst (λ d. IsTrue (has_value d (value_of m y a))) (sym (same_Some (values_of f.domain) d is)) there)

    link : (p : ℕ) → IsTrue (has_port m y.kind p) → IsTrue (allows_under made (new_instance m kinds linkable) p (links_of m y p))
    link p has =
        let q = links p has in
        let at = among_ports m kinds p y.kind q.0 kind q.1 in
        let table = λ (p : ℕ). whole_links linkable (ports_under m kinds p) in
        let row : IsAt (map table (range_with_len 0 (length (first_ports m)))) p (table p) =
        slice_get-map table (range_with_len 0 (length (first_ports m))) p
        ∙ ap (option_map table) (slice_get_range_with_len 0 (length (first_ports m)) p (ids.ports_declared y.kind p has) ∙ ap Some (zero-add p)) in
        true_along _ _ (sym (ap (λ o. option_map_or (λ d. allows d (parted made (links_of m y p))) o false) (entry_at (map table (range_with_len 0 (length (first_ports m)))) p (table p) row)))
        (whole_allows made linkable (ports_under m kinds p) at.0 q.0 (links_of m y p) at.1 q.2 each)
