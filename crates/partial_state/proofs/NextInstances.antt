-- What is known of the first open port, and of the next instance.
use Rattle.std.proofs.Common.{◌≡◌, ◌≢◌, ℕ, ◌<◌, ◌≤◌, ◌^◌, ◌∙◌, ap, sym, subst, ◌==◌, false, not, refl, List, [], ◌∷◌, length, Some, arith, ltb-true, leb-true}
use Rattle.std.specs.Prelude.{IsTrue, slice_get, nat_lt, nat_le}
use Rattle.std.specs.Option.{option_map_or, option_and_then}
use Rattle.std.specs.List.{list_all, range_with_len}
use Rattle.std.proofs.lemmas.Bool.{and_parts, or_left, eq-eqb, false≢true}
use Rattle.std.specs.Int.{bit_at}
use Rattle.std.proofs.lemmas.Nat.Bits.{bit_at-zero}
use Rattle.base_laws.specs.Places.{IsAt}
use Rattle.base_laws.proofs.Places.{map_at}
use Rattle.base_laws.proofs.Tests.{list_all_at, list_all_from, list_any_from, option_map_or_at}
use Rattle.prod_model.specs.declared.model.Model.{Model}
use Rattle.prod_model.specs.declared.model.PortAt.{PortAt}
use Rattle.prod_model.specs.Forest.{is_leaf, is_type}
use Rattle.prod_model.specs.Taxonomy.{Named, made_port, ports_of, ports_at, port_of}
use Rattle.prod_model.specs.Valid.{IsValid, knows_types, has_known_parents_and_targets}
use Rattle.prod_model.proofs.EntryLimits.{entries_pass}
use Rattle.prod_model.proofs.Inverses.{declared_at}
use Rattle.config_value.specs.Literals.{has_port}
use Rattle.state_space.specs.Values.{is_empty}
use Rattle.state_space.specs.Sets.{has_number}
use Rattle.state_space.specs.Ports.{PortState}
use Rattle.state_space.specs.Made.{MadeInstance}
use Rattle.state_space.specs.State.{State, number_made, kinds_at, port_at, leaves_under, IsMadeOf}
use Rattle.state_space.specs.Root.{new_instance}
use Rattle.state_space.specs.Generation.{PortOf, open_port_passes, can_generate, target_at, generated_for, generated}
use Rattle.state_space.proofs.OpenPort.{find_place}
use Rattle.state_space.proofs.GenerationKept.{first_open_is}
use Rattle.state_space.proofs.FewLaws.{valid_has_few}
use Rattle.state_space.proofs.NewState.{ascends-range, range_below, new_is_made, port_there}
use Rattle.partial_state.specs.Masks.{kinds_of}
use Rattle.partial_state.specs.steps.Generated.{IsFirst, port_of_instance, target_of_sole, instance_for, extended_for}
use Rattle.partial_state.specs.steps.Openings.{sole_of}
use Rattle.partial_state.proofs.KindLaws.{has_kind}

-- there is room for one more instance
pub room_left : (m : Model) (s : State) → IsValid m → IsTrue (can_generate m s) → number_made s < 256
room_left m s valid can =
    let below = ltb-true (number_made s) m.instances (and_parts _ _ can).0 in
    let few = (valid_has_few m valid).instances in
    omega (arith, below, few)

-- the first open port is one, and may link a later instance
pub open_there : (m : Model) (s : State) (i p : ℕ) → IsFirst m s i p → IsTrue (can_generate m s) → (q : PortState) × (port_at s i p ≡ Some q) × (1 ≤ q.fresh_high)
open_there m s i p first can =
    let both = and_parts (nat_lt (number_made s) m.instances) (open_port_passes m s (λ q. nat_le 1 q.fresh_high)) can in
    let found = option_map_or_at (λ q. nat_le 1 q.fresh_high) (port_at s i p)
    (subst (λ o. IsTrue (option_map_or (λ (at : PortOf). option_map_or (λ q. nat_le 1 q.fresh_high) (port_at s at.instance at.port) false) o false)) first both.1) in
    (found.0, found.1, leb-true 1 found.0.fresh_high found.2)

-- ---- its target

-- the target of a port of a type is a type
target_known : (m : Model) → IsValid m → (t k : ℕ) (q : PortAt) → IsAt (ports_at m t) k q → IsTrue (is_type m q.target)
unfolding ports_of has_known_parents_and_targets
target_known m valid t k q at =
    let port = declared_at m t k q at in
    let entry = map_at (λ (e : Named PortAt). e.what) (ports_of m.types t) k port.0 port.1 in
    let each : IsTrue (list_all (λ d. list_all (λ p. is_type m p.target) d.ports) m.types) =
    list_all_from (λ d. list_all (λ p. is_type m p.target) d.ports) m.types (λ k d at. (and_parts _ _ (list_all_at (knows_types m) m.types valid.declared.taxonomy.known_parents k d at)).1) in
    let all = entries_pass (λ d. d.ports) (λ d. d.name) made_port (λ d p. made_port p.id d) m.types (λ d. is_type m d.target) (λ q. is_type m q.target)
    (λ id d pass. pass) (λ d a pass. pass) each t in
    subst (λ (q : PortAt). IsTrue (is_type m q.target)) port.2
    (subst (λ (q : PortAt). IsTrue (is_type m q.target)) entry.2 (list_all_at (λ (e : Named PortAt). is_type m e.what.target) (ports_of m.types t) all k entry.0 entry.1))

-- The instance of the first open port is of one type, which has the port.
pub record HasFirst (m : Model) (s : State) (i p : ℕ) : Type 0 where
  pub made : MadeInstance
  pub there : slice_get s.made i ≡ Some made
  pub kind : ℕ
  pub sole : made.kinds ≡ kind ∷ []
  pub port : PortAt
  pub found : port_of m kind p ≡ Some port
  pub kinds : kinds_at s i ≡ kind ∷ []
  pub target : port.target ≡ target_at m s (port_of_instance i p)
  pub known : IsValid m → port.target < length m.types

pub first_has : (m : Model) (s : State) (i p : ℕ) → IsFirst m s i p → HasFirst m s i p
first_has m s i p first =
    let f = first_open_is m s (port_of_instance i p) first in
    let place : i ≡ f.skipped = omega (arith, f.instance) in
    let there : slice_get s.made i ≡ Some f.made = subst (λ k. slice_get s.made k ≡ Some f.made) (sym place) f.there in
    let has : IsTrue (has_port m f.kind p) = list_any_from (λ (q : PortAt). q.id == p) (ports_at m f.kind) f.place f.port f.port_there (eq-eqb f.port.id p f.port_id) in
    let q = port_there m f.kind p has in
    let stands = find_place (λ (r : PortAt). r.id == p) (ports_at m f.kind) q.0 q.1 in
    let kinds : kinds_at s i ≡ f.kind ∷ [] = ap (λ o. option_map_or (λ (x : MadeInstance). x.kinds) o []) there ∙ f.sole in
    record {
      made = f.made;
      there = there;
      kind = f.kind;
      sole = f.sole;
      port = q.0;
      found = q.1;
      kinds = kinds;
      target = sym (ap (λ ks. option_map_or (λ (r : PortAt). r.target) (option_and_then (λ t. port_of m t p) (slice_get ks 0)) 0) kinds
          ∙ ap (λ o. option_map_or (λ (r : PortAt). r.target) o 0) q.1);
      known = λ valid. ltb-true q.0.target (length m.types) (target_known m valid f.kind stands.0 q.0 stands.1);
    }

module _ (m : Model) (s : State) (i p : ℕ) (first : IsFirst m s i p) where
  told : target_of_sole m s i p ≡ (first_has m s i p first).port.target
  told =
      let h = first_has m s i p first in
      ap (λ ks. option_map_or (λ (r : PortAt). r.target) (option_and_then (λ t. port_of m t p) (sole_of ks)) 0) h.kinds
      ∙ ap (λ o. option_map_or (λ (r : PortAt). r.target) o 0) h.found

  pub target_is : target_of_sole m s i p ≡ target_at m s (port_of_instance i p)
  target_is = told ∙ (first_has m s i p first).target

  pub target_is_type : IsValid m → target_of_sole m s i p < length m.types
  target_is_type valid = subst (λ t. t < length m.types) (sym told) ((first_has m s i p first).known valid)

-- ---- its types

module _ (m : Model) (valid : IsValid m) (t : ℕ) (known : t < length m.types) where
  next_good : IsMadeOf m 1 (new_instance m (leaves_under m t) (range_with_len 0 1))
  next_good = new_is_made m valid t (range_with_len 0 1) 1 known (ascends-range 0 1) (range_below 0 1 1 (omega arith))

  pub next_leaves : IsTrue (list_all (is_leaf m) (leaves_under m t))
  next_leaves = next_good.leaves

  -- there is one
  pub next_some : (mask : ℕ) → mask < 2 ^ 128 → kinds_of mask ≡ leaves_under m t → mask ≢ 0
  next_some mask fits is none = by (kinds_of mask) refl (subst (λ ks. IsTrue (not (is_empty ks))) (sym is) next_good.some)
    where
      by : (ks : List ℕ) → kinds_of mask ≡ ks → IsTrue (not (is_empty ks)) → ⊥
      by [] same some = false≢true some
      by (k ∷ ks) same some =
          let there : IsTrue (has_number (kinds_of mask) k) = ap (λ ls. has_number ls k) same ∙ or_left (k == k) (has_number ks k) (eq-eqb k k refl) in
          let bit = sym (has_kind mask k fits) ∙ there in
          false≢true (sym (ap (λ b. b == 1) (ap (λ n. bit_at n k) none ∙ bit_at-zero k)) ∙ bit)

-- ---- the state after it is made

-- where it is made for the first open port, that is a generation
pub generated_first : (m : Model) (s new_state : State) (i p : ℕ) (new : MadeInstance) → IsFirst m s i p → new ≡ instance_for m s (port_of_instance i p)
    → new_state ≡ extended_for (port_of_instance i p) new s → new_state ≡ generated m s
unfolding generated
generated_first m s new_state i p new first made extends =
    extends ∙ (ap (λ x. extended_for (port_of_instance i p) x s) made ∙ sym (ap (λ o. option_map_or (generated_for m s) o s) first))
