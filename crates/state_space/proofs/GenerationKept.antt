-- The root covers what is shaped, and a generation keeps what is covered.
use Rattle.std.proofs.Common.{◌≡◌, ◌⊎◌, ℕ, zero, suc, ◌+◌, ◌≤◌, ◌<◌, Bool, true, false, not, ◌&&◌, ◌||◌, List, [], ◌∷◌, ◌++◌, length, map, refl, ap, sym, ◌∙◌, subst, inl, inr, Some, None, Option, ℤ, pos, arith, get_or, leb-true, zero-le, zero-add}
use Rattle.std.specs.Prelude.{IsTrue, ◌==◌, slice_get, slice_index_or, nat_le, if◌then◌else◌}
use Rattle.std.specs.Option.{option_map_or, option_map, option_and_then}
use Rattle.std.specs.List.{list_any, find, range_with_len, enumerate_from}
use Rattle.std.proofs.lemmas.Bool.{and_parts, or_cases, eqb-true, eq-eqb, false≢true, false_from_ne_true, not-false}
use Rattle.std.proofs.lemmas.Option.{same_Some, none-some, get_or_from_slice_get, slice_get_within, slice_get-map, slice_get-get_or}
use Rattle.prod_model.specs.declared.model.Model.{Model}
use Rattle.prod_model.specs.declared.model.AttrAt.{AttrAt}
use Rattle.prod_model.specs.declared.model.PortAt.{PortAt}
use Rattle.prod_model.specs.Forest.{is_a}
use Rattle.prod_model.specs.Taxonomy.{attributes_at, ports_at, port_of}
use Rattle.config_value.specs.declared.configuration.Instance.{Instance}
use Rattle.config_value.specs.Value.{value_of, links_of, links_at_instance}
use Rattle.config_value.specs.Numbered.{is_numbered}
use Rattle.base_laws.specs.Places.{IsAt}
use Rattle.config_value.specs.ShapedSentences.{HasShape, AreLinksOf}
use Rattle.base_laws.proofs.Tests.{list_any_at, list_any_from, option_map_or_at}
use Rattle.config_value.proofs.Places.{is_between_at}
use Rattle.state_space.specs.Made.{MadeInstance, port_of_made}
use Rattle.state_space.specs.Ports.{PortState, parted, allows, is_closed, made_here, made_elsewhere}
use Rattle.state_space.specs.Sets.{has_number}
use Rattle.config_value.specs.Literals.{has_attribute, has_port}
use Rattle.state_space.specs.State.{State, IsState, number_made, leaves_under, is_whole_value, kinds_at}
use Rattle.state_space.specs.Covers.{CoversInstance, Covers, allows_under}
use Rattle.state_space.specs.Root.{root, new_instance}
use Rattle.state_space.specs.Declared.{HasIds, WholeHasAll}
use Rattle.state_space.proofs.OfIds.{RootCoversShaped, GenerationKeeps}
use Rattle.state_space.proofs.WholeLaws.{position_here, leaf_that, in_range, map_read, table_read}
use Rattle.state_space.proofs.NarrowingLaws.{true_along}
use Rattle.config_value.specs.Shaped.{ascends}
use Rattle.std.proofs.lemmas.List.{length-map, length-append}
use Rattle.state_space.proofs.OpenPort.{find_place, IsFirstOpen, first_open_at, parted_targets, all_targets, targets_are}
use Rattle.state_space.proofs.GenerationLaws.{next_is_linked, here_keeps, elsewhere_keeps}
use Rattle.state_space.proofs.EntailsLaws.{allowed_parts, links_ascend, spelled_links_at}
use Rattle.state_space.proofs.PortLaws.{count_by-member}
use Rattle.state_space.specs.Generation.{PortOf, is_open, first_open, ports_after, target_at, generated_for, generated}
use Rattle.prod_model.specs.declared.model.PortKind.TheVariants.{Shared}
use Rattle.state_space.proofs.NewLaws.{new_covers, entry_at, slice_get-enumerate_from}

module _ (m : Model) (c : List Instance) (ids : HasIds m) (shape : HasShape m c) (i : ℕ) (y : Instance) (at : IsAt c i y) where
  -- the value at the place of an attribute is the value under its id
  pub value_at_place : (k : ℕ) (a : AttrAt) (v : ℤ) → IsAt (attributes_at m y.kind) k a → IsAt y.values k v → value_of m y a.id ≡ v
  value_at_place k a v entry value =
      ap (λ o. option_map_or (λ k. slice_index_or y.values k (pos 0)) o (pos 0)) (position_here (λ (a : AttrAt). a.id) (attributes_at m y.kind) (ids.attributes_apart y.kind) k a entry)
      ∙ get_or_from_slice_get y.values k v (pos 0) value

  pub links_at_place : (k : ℕ) (p : PortAt) (links : List ℕ) → IsAt (ports_at m y.kind) k p → IsAt y.links k links → links_of m y p.id ≡ links
  links_at_place k p links entry there =
      ap (λ o. option_map_or (λ k. slice_index_or y.links k []) o []) (position_here (λ (p : PortAt). p.id) (ports_at m y.kind) (ids.ports_apart y.kind) k p entry)
      ∙ get_or_from_slice_get y.links k links [] there

  -- every value is one of the whole domain
  pub whole_value : WholeHasAll m → (a : ℕ) → IsTrue (has_attribute m y.kind a) → IsTrue (is_whole_value m a (value_of m y a))
  whole_value whole a has =
      let found = list_any_at (λ (b : AttrAt). b.id == a) (attributes_at m y.kind) has in
      let k = found.0 in let b = found.1 in
      let long = (shape.built i y at).each_attribute in
      let v = slice_index_or y.values k (pos 0) in
      let value : IsAt y.values k v = slice_get-get_or y.values k (pos 0) (subst (λ n. k < n) (sym long) (slice_get_within (attributes_at m y.kind) k b found.2)) in
      let same = value_at_place k b v found.2 value in
      subst (λ id. IsTrue (is_whole_value m id (value_of m y id))) (eqb-true b.id a found.3)
      (subst (λ u. IsTrue (is_whole_value m b.id u)) (sym same) (whole y.kind k b v found.2 (shape.values i k y b v at found.2 value)))

  -- the port under an id, with its links
  pub port_links : (p : ℕ) → IsTrue (has_port m y.kind p) → (q : PortAt) × (port_of m y.kind p ≡ Some q) × AreLinksOf m c q (links_of m y p)
  port_links p has = by (port_of m y.kind p) refl
    where
      by : (o : Option PortAt) → port_of m y.kind p ≡ o → (q : PortAt) × (port_of m y.kind p ≡ Some q) × AreLinksOf m c q (links_of m y p)
      by None none = absurd (none_there (list_any_at (λ (q : PortAt). q.id == p) (ports_at m y.kind) has))
        where
          lacking : (qs : List PortAt) → find (λ q. q.id == p) qs ≡ None → list_any (λ (q : PortAt). q.id == p) qs ≡ true → ⊥
          lacking [] is any = false≢true any
          lacking (q ∷ qs) is any = cases (q.id == p) is any (lacking qs)
            where
              cases : (b : Bool) → (if b then Some q else find (λ q. q.id == p) qs) ≡ None → (b || list_any (λ (q : PortAt). q.id == p) qs) ≡ true
                  → (find (λ q. q.id == p) qs ≡ None → list_any (λ (q : PortAt). q.id == p) qs ≡ true → ⊥) → ⊥
              cases true is any rest = none-some q (sym is)
              cases false is any rest = rest is any

          none_there : (k : ℕ) × (q : PortAt) × IsAt (ports_at m y.kind) k q × IsTrue (q.id == p) → ⊥
          none_there found = lacking (ports_at m y.kind) none has
      by (Some q) is =
          let place = find_place (λ (r : PortAt). r.id == p) (ports_at m y.kind) q is in
          let k = place.0 in
          let long = (shape.built i y at).each_port in
          let links = slice_index_or y.links k [] in
          let there : IsAt y.links k links = slice_get-get_or y.links k [] (subst (λ n. k < n) (sym long) (slice_get_within (ports_at m y.kind) k q place.1)) in
          let same : links_of m y p ≡ links = ap (links_of m y) (sym (eqb-true q.id p place.2)) ∙ links_at_place k q links place.1 there in
          (q, is, subst (AreLinksOf m c q) (sym same) (shape.links i k y q links at place.1 there))

-- the root covers what is shaped and can be spelled
pub root_covers_shaped : RootCoversShaped
unfolding root
root_covers_shaped m c ids whole spelled shape = record {
  spelled = spelled;
  enough = shape.size.0;
  each = each;
}
  where
    each : (i : ℕ) (x : MadeInstance) (y : Instance) → IsAt (root m).made i x → IsAt c i y → CoversInstance m (number_made (root m)) x y
    each zero x y at_x at_y =
        let of_root : IsTrue (is_a m y.kind m.root) = subst (λ z. IsTrue (is_a m z.kind m.root)) (same_Some shape.root.instance y (sym shape.root.there ∙ at_y)) shape.root.of_type in
        subst (λ z. CoversInstance m 1 z y) (same_Some _ x at_x)
        (new_covers m (leaves_under m m.root) (0 ∷ []) 1 y ids (leaf_that m (λ u. is_a m u m.root) y.kind (shape.built 0 y at_y).leaf of_root)
        (whole_value m c ids shape 0 y at_y whole)
        (λ p has. let q = port_links m c ids shape 0 y at_y p has in (q.0, q.1, q.2.number.1))
        (λ j low. in_range 0 1 j zero-le (omega (arith, low))))
    each (suc i) x y at_x at_y = absurd (none-some x at_x)

-- ---- a generation

-- a port that is not open links no later instance
closed_none : (n : ℕ) (q : PortState) (links : List ℕ) → IsTrue (is_closed q) → IsTrue (allows q (parted n links)) → list_any (nat_le n) links ≡ false
closed_none n q links closed allowed = false_from_ne_true _ (λ some.
    let found = list_any_at (nat_le n) links some in
    let linked : IsTrue (has_number links found.1) = list_any_from (λ j. j == found.1) links found.0 found.1 found.2 (eq-eqb found.1 found.1 refl) in
    let one = count_by-member (nat_le n) links found.1 linked found.3 in
    let most = (allowed_parts n q links allowed).most in
    absurd (omega (arith, one, most, eqb-true q.fresh_high 0 closed)))

-- nothing late is linked by a port of which none is open
not_open_none : (n : ℕ) (x : MadeInstance) (p : ℕ) (links : List ℕ) → is_open x p ≡ false → IsTrue (allows_under n x p links) → list_any (nat_le n) links ≡ false
not_open_none n x p links shut allowed =
    let found = option_map_or_at (λ q. allows q (parted n links)) (port_of_made x p) allowed in
    let closed : is_closed found.0 ≡ true = not-false (is_closed found.0) (sym (ap (λ o. option_map_or (λ q. not (is_closed q)) o false) found.1) ∙ shut) in
    closed_none n found.0 links closed found.2

module _ (m : Model) (s : State) (c : List Instance) (ids : HasIds m) (state : IsState m s) (h : Covers m s c) (shape : HasShape m c) (numbered : IsTrue (is_numbered c)) where
  -- the links of a place are those under the port's id, which the made instance allows
  place_allowed : (i : ℕ) (x : MadeInstance) (y : Instance) → IsAt s.made i x → IsAt c i y → (k : ℕ) (p : PortAt) (links : List ℕ) → IsAt (ports_at m y.kind) k p → IsAt y.links k links
      → IsTrue (allows_under (number_made s) x p.id links)
  place_allowed i x y at_x at_y k p links entry there =
      subst (λ ls. IsTrue (allows_under (number_made s) x p.id ls)) (links_at_place m c ids shape i y at_y k p links entry there)
      ((h.each i x y at_x at_y).links p.id (list_any_from (λ (q : PortAt). q.id == p.id) (ports_at m y.kind) k p entry (eq-eqb p.id p.id refl)))

  -- the port at a place of an instance that has links there
  port_entry : (i : ℕ) (y : Instance) → IsAt c i y → (k : ℕ) (links : List ℕ) → IsAt y.links k links → (p : PortAt) × IsAt (ports_at m y.kind) k p
  port_entry i y at k links there =
      let none : PortAt = record { id = 0; kind = Shared; target = 0; low = 0; high = 0; inverse = None } in
      let long = (shape.built i y at).each_port in
      (get_or (ports_at m y.kind) k none, slice_get-get_or (ports_at m y.kind) k none (subst (λ n. k < n) long (slice_get_within y.links k links there)))

  -- the made instance of a number that is made
  below_made : (i j : ℕ) (x : MadeInstance) → IsAt s.made i x → j < i → (w : MadeInstance) × IsAt s.made j w
  below_made i j x at low = let within = slice_get_within s.made i x at in (get_or s.made j x, slice_get-get_or s.made j x (omega (arith, low, within)))

  -- The first open port, where it links a later instance, links the next one.
  open_links_next : (at : PortOf) (f : IsFirstOpen m 0 s.made at) (y : Instance) → IsAt c f.skipped y
      → IsTrue (list_any (nat_le (number_made s)) (links_of m y at.port)) → IsTrue (has_number (links_of m y at.port) (number_made s))
  open_links_next at f y at_y late = subst (λ ls. IsTrue (has_number ls n)) (sym links_here)
      (next_is_linked c split.0 links split.1 n numbered (targets_are c ∙ split.2) made_some split.3 found.1 (leb-true n found.1 found.3) target
      (list_any_from (λ j. j == found.1) links found.0 found.1 found.2 (eq-eqb found.1 found.1 refl)))
    where
      n : ℕ
      n = number_made s

      covered : CoversInstance m n f.made y
      covered = h.each f.skipped f.made y f.there at_y

      kind_is : f.kind ≡ y.kind
      kind_is = elim (or_cases (f.kind == y.kind) false (ap (λ ks. has_number ks y.kind) (sym f.sole) ∙ covered.kind)) [
        | inl here ↦ eqb-true f.kind y.kind here
        | inr none ↦ absurd (false≢true none)
      ]

      entry : IsAt (ports_at m y.kind) f.place f.port
      entry = subst (λ t. IsAt (ports_at m t) f.place f.port) kind_is f.port_there

      links : List ℕ
      links = slice_index_or y.links f.place []

      there : IsAt y.links f.place links
      there = slice_get-get_or y.links f.place [] (subst (λ k. f.place < k) (sym (shape.built f.skipped y at_y).each_port) (slice_get_within (ports_at m y.kind) f.place f.port entry))

      links_here : links_of m y at.port ≡ links
      links_here = ap (links_of m y) (sym f.port_id) ∙ links_at_place m c ids shape f.skipped y at_y f.place f.port links entry there

      found : (k : ℕ) × (j : ℕ) × IsAt links k j × IsTrue (nat_le n j)
      found = list_any_at (nat_le n) links (subst (λ ls. IsTrue (list_any (nat_le n) ls)) links_here late)

      target : found.1 < length c
      target = let under = (shape.links f.skipped f.place y f.port links at_y entry there).on_target found.0 found.1 found.2 in slice_get_within c found.1 under.instance under.there

      made_some : 1 ≤ n
      made_some = (is_between_at 1 m.instances n state.size).0

      before : (j : ℕ) (z : Instance) → j < f.skipped → IsAt c j z → (k : ℕ) (ls : List ℕ) → IsAt z.links k ls → list_any (nat_le n) ls ≡ false
      before j z early at_z k ls at_ls =
          let w = below_made f.skipped j f.made f.there early in
          let p = port_entry j z at_z k ls at_ls in
          not_open_none n w.0 p.0.id ls (f.before j w.0 early w.1 z.kind (h.each j w.0 z w.1 at_z).kind k p.0 p.1) (place_allowed j w.0 z w.1 at_z k p.0 ls p.1 at_ls)

      ports_before : (k : ℕ) (ls : List ℕ) → k < f.place → IsAt y.links k ls → list_any (nat_le n) ls ≡ false
      ports_before k ls early at_ls =
          let p = port_entry f.skipped y at_y k ls at_ls in
          not_open_none n f.made p.0.id ls (f.ports_before k p.0 early (subst (λ t. IsAt (ports_at m t) k p.0) (sym kind_is) p.1))
          (place_allowed f.skipped f.made y f.there at_y k p.0 ls p.1 at_ls)

      split : (front : List ℕ) × (back : List ℕ) × (all_targets c ≡ (front ++ links) ++ back) × (list_any (nat_le n) front ≡ false)
      split = parted_targets (nat_le n) c f.skipped y f.place links at_y there before ports_before

-- ---- the law

pub first_open_is : (m : Model) (s : State) (at : PortOf) → first_open m s ≡ Some at → IsFirstOpen m 0 s.made at
unfolding first_open
first_open_is m s at is = first_open_at m 0 s.made at is

-- an element of a list with one more is one of the list, or the last
pub at_longer : {X : Type 0} (xs : List X) (z : X) (k : ℕ) (x : X) → IsAt (xs ++ z ∷ []) k x → IsAt xs k x ⊎ ((k ≡ length xs) × (z ≡ x))
at_longer [] z zero x at = inr (refl, same_Some z x at)
at_longer [] z (suc k) x at = absurd (none-some x at)
at_longer (y ∷ ys) z zero x at = inl at
at_longer (y ∷ ys) z (suc k) x at = elim (at_longer ys z k x at) [
  | inl there ↦ inl there
  | inr last ↦ inr (ap suc last.0, last.1)
]

-- a numbered element stands at its number
pub enumerated_at : {X : Type 0} (i : ℕ) (xs : List X) (k : ℕ) (e : ℕ × X) → IsAt (enumerate_from i xs) k e → (e.0 ≡ i + k) × IsAt xs k e.1
enumerated_at i [] k e at = absurd (none-some e at)
enumerated_at i (x ∷ xs) zero e at = let same = same_Some (i, x) e at in (omega (arith, ap (λ p. p.0) same), ap (λ p. Some p.1) same)
enumerated_at i (x ∷ xs) (suc k) e at = let rest = enumerated_at (i + 1) xs k e at in (omega (arith, rest.0), rest.1)

-- what a port is after the generation
pub port_after_at : (n : ℕ) (at : PortOf) (j : ℕ) (ports : List (Option PortState)) (p : ℕ) (q : PortState) → slice_index_or ports p None ≡ Some q
    → slice_index_or (ports_after n at j ports) p None ≡ Some ((if (j == at.instance) && (p == at.port) then made_here n else made_elsewhere n) q)
port_after_at n at j ports p q there =
    let change = λ (e : ℕ × Option PortState). option_map (if (j == at.instance) && (e.0 == at.port) then made_here n else made_elsewhere n) e.1 in
    entry_at (map change (enumerate_from 0 ports)) p (change (p, Some q))
    (slice_get-map change (enumerate_from 0 ports) p
    ∙ ap (option_map change) (slice_get-enumerate_from 0 ports p (Some q) (table_read ports p q there) ∙ ap (λ n. Some (n, Some q)) (zero-add p)))

module _ (m : Model) (s : State) (c : List Instance) (ids : HasIds m) (whole : WholeHasAll m) (state : IsState m s) (h : Covers m s c) (shape : HasShape m c)
    (numbered : IsTrue (is_numbered c)) (at : PortOf) (f : IsFirstOpen m 0 s.made at) (y : Instance) (at_y : IsAt c f.skipped y)
    (linked : IsTrue (has_number (links_of m y at.port) (number_made s))) where
  covered_here : CoversInstance m (number_made s) f.made y
  covered_here = h.each f.skipped f.made y f.there at_y

  -- the open port is one of the type of the instance that has it
  has_open_port : IsTrue (has_port m y.kind at.port)
  has_open_port = elim (or_cases (f.kind == y.kind) false (ap (λ ks. has_number ks y.kind) (sym f.sole) ∙ covered_here.kind)) [
    | inl here ↦ list_any_from (λ (q : PortAt). q.id == at.port) (ports_at m y.kind) f.place f.port
        (subst (λ t. IsAt (ports_at m t) f.place f.port) (eqb-true f.kind y.kind here) f.port_there) (eq-eqb f.port.id at.port f.port_id)
    | inr none ↦ absurd (false≢true none)
  ]

  -- the instances made before are covered after
  kept_instance : (k : ℕ) (x : MadeInstance) (z : Instance) → IsAt s.made k x → IsAt c k z
      → CoversInstance m (number_made s + 1) (record x { ports = ports_after (number_made s) at k x.ports }) z
  kept_instance k x z at_x at_z = record {
    kind = (h.each k x z at_x at_z).kind;
    values = (h.each k x z at_x at_z).values;
    links = link;
  }
    where
      n : ℕ
      n = number_made s

      link : (p : ℕ) → IsTrue (has_port m z.kind p) → IsTrue (allows_under (n + 1) (record x { ports = ports_after n at k x.ports }) p (links_of m z p))
      link p has =
          let found = option_map_or_at (λ q. allows q (parted n (links_of m z p))) (port_of_made x p) ((h.each k x z at_x at_z).links p has) in
          let up = links_ascend m z p (spelled_links_at m c k z h.spelled at_z) in
          true_along _ _ (sym (ap (λ o. option_map_or (λ q. allows q (parted (n + 1) (links_of m z p))) o false) (port_after_at n at k x.ports p found.0 found.1)))
          (by found.0 up found.2 ((k == at.instance) && (p == at.port)) refl)
        where
          by : (q : PortState) → IsTrue (ascends (links_of m z p)) → IsTrue (allows q (parted n (links_of m z p))) → (b : Bool) → ((k == at.instance) && (p == at.port)) ≡ b
              → IsTrue (allows ((if b then made_here n else made_elsewhere n) q) (parted (n + 1) (links_of m z p)))
          by q up allowed true here =
              let both = and_parts (k == at.instance) (p == at.port) here in
              let place : k ≡ f.skipped = omega (arith, eqb-true k at.instance both.0, f.instance) in
              let same : y ≡ z = same_Some y z (sym at_y ∙ subst (λ j. IsAt c j z) place at_z) in
              let it : IsTrue (has_number (links_of m z p) n) =
              subst (λ w. IsTrue (has_number (links_of m w p) n)) same (subst (λ r. IsTrue (has_number (links_of m y r) n)) (sym (eqb-true p at.port both.1)) linked) in
              here_keeps n q (links_of m z p) up allowed it
          by q up allowed false elsewhere = elsewhere_keeps n q (links_of m z p) up allowed

  -- and so is the new one
  new_instance_covered : (z : Instance) → IsAt c (number_made s) z
      → CoversInstance m (number_made s + 1) (new_instance m (leaves_under m (target_at m s at)) (range_with_len 0 (number_made s + 1))) z
  new_instance_covered z at_z =
      let q = port_links m c ids shape f.skipped y at_y at.port has_open_port in
      let place = list_any_at (λ j. j == number_made s) (links_of m y at.port) linked in
      let under = q.2.on_target place.0 (number_made s) (subst (λ j. IsAt (links_of m y at.port) place.0 j) (eqb-true place.1 (number_made s) place.3) place.2) in
      let of_target : IsTrue (is_a m z.kind q.0.target) = subst (λ w. IsTrue (is_a m w.kind q.0.target)) (same_Some under.instance z (sym under.there ∙ at_z)) under.of_type in
      let kind_is : f.kind ≡ y.kind = sole_kind in
      let target : target_at m s at ≡ q.0.target =
      ap (λ ks. option_map_or (λ p. p.target) (option_and_then (λ t. port_of m t at.port) (slice_get ks 0)) 0) kinds_here
      ∙ (ap (λ t. option_map_or (λ p. p.target) (port_of m t at.port) 0) kind_is ∙ ap (λ o. option_map_or (λ p. p.target) o 0) q.1) in
      new_covers m (leaves_under m (target_at m s at)) (range_with_len 0 (number_made s + 1)) (number_made s + 1) z ids
      (subst (λ t. IsTrue (has_number (leaves_under m t) z.kind)) (sym target) (leaf_that m (λ u. is_a m u q.0.target) z.kind (shape.built (number_made s) z at_z).leaf of_target))
      (whole_value m c ids shape (number_made s) z at_z whole)
      (λ p has. let r = port_links m c ids shape (number_made s) z at_z p has in (r.0, r.1, r.2.number.1))
      (λ j low. in_range 0 (number_made s + 1) j zero-le (omega (arith, low)))
    where
      sole_kind : f.kind ≡ y.kind
      sole_kind = elim (or_cases (f.kind == y.kind) false (ap (λ ks. has_number ks y.kind) (sym f.sole) ∙ covered_here.kind)) [
        | inl here ↦ eqb-true f.kind y.kind here
        | inr none ↦ absurd (false≢true none)
      ]

      kinds_here : kinds_at s at.instance ≡ f.kind ∷ []
      kinds_here =
          let place : at.instance ≡ f.skipped = omega (arith, f.instance) in
          ap (λ i. kinds_at s i) place ∙ (ap (λ o. option_map_or (λ x. x.kinds) o []) f.there ∙ f.sole)

  generation_covers : Covers m (generated_for m s at) c
  generation_covers = record {
    spelled = h.spelled;
    enough = subst (λ k. k ≤ length c) (sym long) more;
    each = λ k x z at_x at_z. subst (λ j. CoversInstance m j x z) (sym long) (elim (at_longer old new k x at_x) [
      | inl there ↦ kept k x z there at_z
      | inr last ↦ subst (λ w. CoversInstance m (number_made s + 1) w z) last.1
          (new_instance_covered z (subst (λ j. IsAt c j z) (last.0 ∙ old_long) at_z))
    ]);
  }
    where
      change : ℕ × MadeInstance → MadeInstance
      change e = record e.1 { ports = ports_after (number_made s) at e.0 e.1.ports }

      old : List MadeInstance
      old = map change (enumerate_from 0 s.made)

      new : MadeInstance
      new = new_instance m (leaves_under m (target_at m s at)) (range_with_len 0 (number_made s + 1))

      numbered_long : (i : ℕ) (xs : List MadeInstance) → length (enumerate_from i xs) ≡ length xs
      numbered_long i [] = refl
      numbered_long i (x ∷ xs) = ap suc (numbered_long (i + 1) xs)

      old_long : length old ≡ number_made s
      old_long = length-map (enumerate_from 0 s.made) change ∙ numbered_long 0 s.made

      long : length (old ++ new ∷ []) ≡ number_made s + 1
      long = length-append old (new ∷ []) ∙ ap (λ k. k + 1) old_long

      more : number_made s + 1 ≤ length c
      more =
          let q = port_links m c ids shape f.skipped y at_y at.port has_open_port in
          let place = list_any_at (λ j. j == number_made s) (links_of m y at.port) linked in
          let under = q.2.on_target place.0 (number_made s) (subst (λ j. IsAt (links_of m y at.port) place.0 j) (eqb-true place.1 (number_made s) place.3) place.2) in
          let within = slice_get_within c (number_made s) under.instance under.there in omega (arith, within)

      kept : (k : ℕ) (x : MadeInstance) (z : Instance) → IsAt old k x → IsAt c k z → CoversInstance m (number_made s + 1) x z
      kept k x z there at_z =
          let e = map_read change (enumerate_from 0 s.made) k x there in
          let stands = enumerated_at 0 s.made k e.0 e.1 in
          let number : e.0.0 ≡ k = omega (arith, stands.0) in
          let is : x ≡ record e.0.1 { ports = ports_after (number_made s) at k e.0.1.ports } =
          e.2 ∙ ap (λ j. let w : MadeInstance = record e.0.1 { ports = ports_after (number_made s) at j e.0.1.ports } in w) number in
          subst (λ w. CoversInstance m (number_made s + 1) w z) (sym is) (kept_instance k e.0.1 z stands.1 at_z)

pub generation_keeps : GenerationKeeps
unfolding generated
generation_keeps m s c ids whole state h shape numbered late =
    let found = option_map_or_at (λ at. list_any (nat_le (number_made s)) (links_at_instance m c at.port at.instance)) (first_open m s) late in
    subst (λ o. Covers m (option_map_or (generated_for m s) o s) c) (sym found.1) (by found.0 (opened found.0 found.1) found.2)
  where
    opened : (at : PortOf) → first_open m s ≡ Some at → IsFirstOpen m 0 s.made at
    opened at is = first_open_is m s at is

    by : (at : PortOf) (f : IsFirstOpen m 0 s.made at) → IsTrue (list_any (nat_le (number_made s)) (links_at_instance m c at.port at.instance)) → Covers m (generated_for m s at) c
    by at f late =
        let none : Instance = record { kind = 0; values = []; links = [] } in
        let y = get_or c f.skipped none in
        let made = slice_get_within s.made f.skipped f.made f.there in
        let at_y : IsAt c f.skipped y = slice_get-get_or c f.skipped none (omega (arith, made, h.enough)) in
        let place : at.instance ≡ f.skipped = omega (arith, f.instance) in
        let links : links_at_instance m c at.port at.instance ≡ links_of m y at.port =
        ap (λ i. links_at_instance m c at.port i) place ∙ ap (λ o. option_map_or (λ x. links_of m x at.port) o []) at_y in
        generation_covers m s c ids whole state h shape numbered at f y at_y
        (open_links_next m s c ids state h shape numbered at f y at_y (subst (λ ls. IsTrue (list_any (nat_le (number_made s)) ls)) links late))
