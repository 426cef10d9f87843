-- The first open port, instance by instance.
use Rattle.std.proofs.Common.{◌≡◌, ℕ, zero, suc, ◌+◌, ◌<◌, ◌≤◌, ◌∙◌, ap, sym, subst, not, Bool, true, false, refl, List, [], ◌∷◌, length, drop, Some, None, Option, get_or, ltb-true, arith}
use Rattle.std.specs.Prelude.{IsTrue, if◌then◌else◌}
use Rattle.std.specs.Option.{option_map_or}
use Rattle.std.specs.List.{list_any, list_all, find}
use Rattle.std.proofs.lemmas.Bool.{and_parts}
use Rattle.prod_model.specs.declared.model.Model.{Model}
use Rattle.prod_model.specs.declared.model.PortAt.{PortAt}
use Rattle.prod_model.specs.Forest.{is_leaf}
use Rattle.prod_model.specs.Taxonomy.{ports_at}
use Rattle.base_laws.proofs.Tests.{list_all_from}
use Rattle.state_space.specs.Made.{MadeInstance}
use Rattle.state_space.specs.State.{State, IsState}
use Rattle.state_space.specs.Generation.{PortOf, is_open, has_no_ports, open_port_or, first_open_from}
use Rattle.partial_state.specs.declared.openings.Opening.{Opening}
use Rattle.partial_state.specs.declared.openings.Opening.TheVariants.{Here, Later}
use Rattle.partial_state.specs.steps.Openings.{sole_of, first_opening, opened_or}
use Rattle.partial_state.proofs.SoleKinds.{sole_is}

-- the only type of leaves is a type
pub sole_known : (m : Model) (kinds : List ℕ) (t : ℕ) → Some t ≡ sole_of kinds → IsTrue (list_all (is_leaf m) kinds) → t < length m.types
unfolding is_leaf
sole_known m kinds t sole leaves =
    let kept = subst (λ ks. IsTrue (list_all (is_leaf m) ks)) (sole_is kinds t (sym sole)) leaves in
    ltb-true t (length m.types) (and_parts _ _ (and_parts (is_leaf m t) true kept).0).0

-- ---- the ports of a type

-- no port is open
pub none_opens : (x : MadeInstance) (ports : List PortAt) → ports ≡ [] → Later ≡ first_opening x ports
none_opens x ports is = sym (ap (first_opening x) is)

module _ (x : MadeInstance) (ports : List PortAt) (first : PortAt) (rest : List PortAt) (is : ports ≡ first ∷ rest) where
  -- the first one is
  pub first_opens : (b : Bool) → b ≡ is_open x first.id → b ≡ true → Here first.id ≡ first_opening x ports
  first_opens b told some =
      sym (ap (first_opening x) is ∙ ap (λ c. option_map_or (λ (p : PortAt). Here p.id) (if c then Some first else find (λ p. is_open x p.id) rest) Later) (sym told ∙ some))

  -- it is not
  pub other_opens : (b : Bool) (o : Opening) → b ≡ is_open x first.id → b ≡ false → o ≡ first_opening x rest → o ≡ first_opening x ports
  other_opens b o told none later =
      later ∙ sym (ap (first_opening x) is ∙ ap (λ c. option_map_or (λ (p : PortAt). Here p.id) (if c then Some first else find (λ p. is_open x p.id) rest) Later) (sym told ∙ none))

-- ---- instances

module _ (m : Model) (i : ℕ) (x : MadeInstance) (later : Option PortOf) where
  -- where the instance is of one type, the first open port of the type counts
  pub one_type : (t : ℕ) (o : Opening) → Some t ≡ sole_of x.kinds
      → o ≡ first_opening x (ports_at m t)
      → open_port_or m i x later x.kinds ≡ opened_or i o later
  one_type t o sole is =
      ap (open_port_or m i x later) (sole_is x.kinds t (sym sole)) ∙ (by (find (λ p. is_open x p.id) (ports_at m t)) ∙ ap (λ w. opened_or i w later) (sym is))
    where
      by : (found : Option PortAt) → option_map_or (λ (p : PortAt). let at : PortOf = record { instance = i; port = p.id } in Some at) found later
          ≡ opened_or i (option_map_or (λ (p : PortAt). Here p.id) found Later) later
      by None = refl
      by (Some p) = refl

  -- where it may be of several, it counts whether one of them has ports
  several_types : None ≡ sole_of x.kinds → open_port_or m i x later x.kinds ≡ (if list_any (λ t. not (has_no_ports m t)) x.kinds then None else later)
  several_types none = by x.kinds none
    where
      by : (kinds : List ℕ) → None ≡ sole_of kinds → open_port_or m i x later kinds ≡ (if list_any (λ t. not (has_no_ports m t)) kinds then None else later)
      by [] none = refl
      by (t ∷ []) none = absurd cc
      by (t ∷ u ∷ us) none = refl

  pub types_with_ports : None ≡ sole_of x.kinds → list_any (λ t. not (has_no_ports m t)) x.kinds ≡ true → open_port_or m i x later x.kinds ≡ None
  types_with_ports none some = several_types none ∙ ap (λ b. if b then None else later) some

  pub types_without_ports : None ≡ sole_of x.kinds → list_any (λ t. not (has_no_ports m t)) x.kinds ≡ false → open_port_or m i x later x.kinds ≡ later
  types_without_ports none other = several_types none ∙ ap (λ b. if b then None else later) other

-- the search goes on, or ends, with the next instance
pub next_instance : (m : Model) (xs : List MadeInstance) (i : ℕ) (x : MadeInstance) (o : Opening) → first_open_from m 0 xs ≡ first_open_from m i (drop i xs)
    → i < length xs → x ≡ get_or xs i x → ((i : ℕ) (later : Option PortOf) → open_port_or m i x later x.kinds ≡ opened_or i o later)
    → first_open_from m 0 xs ≡ opened_or i o (first_open_from m (i + 1) (drop (i + 1) xs))
next_instance m xs i x o so_far below is tells =
    let next : suc i ≡ i + 1 = omega arith in
    so_far ∙ (ap (first_open_from m i) (parts xs i below is ∙ ap (λ k. x ∷ drop k xs) next) ∙ tells i (first_open_from m (i + 1) (drop (i + 1) xs)))
  where
    parts : (xs : List MadeInstance) (i : ℕ) → i < length xs → x ≡ get_or xs i x → drop i xs ≡ x ∷ drop (suc i) xs
    parts [] i below is = absurd (omega (arith, below))
    parts (y ∷ ys) zero below is = ap (λ z. z ∷ ys) (sym is)
    parts (y ∷ ys) (suc i) below is = parts ys i (omega (arith, below)) is

-- there is none after the last instance
pub after_last : (m : Model) (xs : List MadeInstance) (i : ℕ) → length xs ≤ i → first_open_from m i (drop i xs) ≡ None
after_last m xs i past = ap (first_open_from m i) (none_left xs i past)
  where
    none_left : (xs : List MadeInstance) (i : ℕ) → length xs ≤ i → drop i xs ≡ []
    none_left [] zero past = refl
    none_left [] (suc i) past = refl
    none_left (x ∷ xs) zero past = absurd (omega (arith, past))
    none_left (x ∷ xs) (suc i) past = none_left xs i (omega (arith, past))

-- the types of all instances of a state are leaves
pub all_leaves : (m : Model) (s : State) → IsState m s → IsTrue (list_all (λ (x : MadeInstance). list_all (is_leaf m) x.kinds) s.made)
all_leaves m s state = list_all_from (λ (x : MadeInstance). list_all (is_leaf m) x.kinds) s.made (λ k x at. (state.each k x at).leaves)
