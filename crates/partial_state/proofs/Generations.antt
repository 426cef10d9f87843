-- The state after the next instance is made, step by step.
use Rattle.std.proofs.Common.{◌≡◌, ℕ, zero, suc, ◌+◌, ◌<◌, ◌≤◌, ◌∙◌, ap, ap₂, sym, subst, ◌&&◌, ◌==◌, Bool, true, false, refl, List, [], ◌∷◌, ◌++◌, length, map, Some, None, Option, get_or, arith}
use Rattle.std.specs.Prelude.{slice_get, slice_set, slice_index_or, if◌then◌else◌}
use Rattle.std.specs.Option.{option_map, option_and_then, is_some}
use Rattle.std.specs.List.{enumerate_from}
use Rattle.std.proofs.lemmas.Bool.{eq-eqb, ne_eqb}
use Rattle.std.proofs.lemmas.Option.{none-some}
use Rattle.state_space.specs.Ports.{PortState, made_here, made_elsewhere}
use Rattle.state_space.specs.Made.{MadeInstance, port_of_made}
use Rattle.state_space.specs.State.{State, number_made, port_at, changed_at, with_port}
use Rattle.state_space.specs.Generation.{PortOf, ports_after}
use Rattle.partial_state.proofs.StateChanges.{made_below}
use Rattle.partial_state.specs.steps.Generated.{port_of_instance, first_changed, instance_elsewhere, extended_for}

-- ---- the first elements changed

-- none is changed
pub none_changed : {X : Type 0} (f : X → X) (xs : List X) → first_changed 0 f xs ≡ xs
none_changed f [] = refl
none_changed f (x ∷ xs) = refl

-- one more is changed
changed_next : {X : Type 0} (f : X → X) (xs : List X) (n : ℕ) (x y : X) → n < length xs → x ≡ get_or (first_changed n f xs) n x → y ≡ f x
    → slice_set (first_changed n f xs) n y ≡ first_changed (suc n) f xs
changed_next f [] n x y below at is = absurd (omega (arith, below))
changed_next f (z ∷ zs) zero x y below at is = ap₂ (λ w ws. w ∷ ws) (is ∙ ap f at) (sym (none_changed f zs))
changed_next f (z ∷ zs) (suc n) x y below at is = ap (λ ws. f z ∷ ws) (changed_next f zs n x y (omega (arith, below)) at is)

pub one_changed : {X : Type 0} (f : X → X) (xs items : List X) (n : ℕ) (x y : X) → items ≡ first_changed n f xs → n < length xs → x ≡ get_or items n x → y ≡ f x
    → slice_set items n y ≡ first_changed (n + 1) f xs
one_changed f xs items n x y so_far below at is =
    let next : suc n ≡ n + 1 = omega arith in
    ap (λ ys. slice_set ys n y) so_far
    ∙ (changed_next f xs n x y below (at ∙ ap (λ ys. get_or ys n x) so_far) is ∙ ap (λ k. first_changed k f xs) next)

pub length-first_changed : {X : Type 0} (f : X → X) (xs : List X) (n : ℕ) → length (first_changed n f xs) ≡ length xs
length-first_changed f [] n = refl
length-first_changed f (x ∷ xs) zero = refl
length-first_changed f (x ∷ xs) (suc n) = ap suc (length-first_changed f xs n)

changed_all : {X : Type 0} (f : X → X) (xs : List X) (n : ℕ) → length xs ≤ n → first_changed n f xs ≡ map f xs
changed_all f [] n past = refl
changed_all f (x ∷ xs) zero past = absurd (omega (arith, past))
changed_all f (x ∷ xs) (suc n) past = ap (λ ys. f x ∷ ys) (changed_all f xs n (omega (arith, past)))

pub all_changed : {X : Type 0} (f : X → X) (xs items : List X) (n : ℕ) → items ≡ first_changed n f xs → length xs ≤ n → items ≡ map f xs
all_changed f xs items n so_far past = so_far ∙ changed_all f xs n past

pub first_count : {X : Type 0} (f : X → X) (xs items : List X) (n count : ℕ) → items ≡ first_changed n f xs → n ≡ count → items ≡ first_changed count f xs
first_count f xs items n count so_far same = so_far ∙ ap (λ k. first_changed k f xs) same

-- all before the last are changed
before_last : {X : Type 0} (f : X → X) (xs : List X) (z : X) → first_changed (length xs) f (xs ++ z ∷ []) ≡ map f xs ++ z ∷ []
before_last f [] z = none_changed f (z ∷ [])
before_last f (x ∷ xs) z = ap (λ ys. f x ∷ ys) (before_last f xs z)

changed_before : {X : Type 0} (f : X → X) (xs ys : List X) (i : ℕ) → i < length xs → changed_at i f (xs ++ ys) ≡ changed_at i f xs ++ ys
changed_before f [] ys i below = absurd (omega (arith, below))
changed_before f (x ∷ xs) ys zero below = refl
changed_before f (x ∷ xs) ys (suc i) below = ap (λ zs. x ∷ zs) (changed_before f xs ys i (omega (arith, below)))

-- ---- the ports of instances

module _ (n : ℕ) (at : PortOf) where
  abbrev change : ℕ → ℕ × Option PortState → Option PortState
  change k e = option_map (if (k == at.instance) && (e.0 == at.port) then made_here n else made_elsewhere n) e.1

  -- it is another port
  abbrev IsOther : ℕ → ℕ → Type 0
  IsOther k h = ((k == at.instance) && (h == at.port)) ≡ false

  other_changed : (k h : ℕ) (o : Option PortState) → IsOther k h → option_map (made_elsewhere n) o ≡ change k (h, o)
  other_changed k h o other = sym (ap (λ b. option_map (if b then made_here n else made_elsewhere n) o) other)

  -- of other ports, each is changed as one elsewhere
  others_changed : (k h : ℕ) (ports : List (Option PortState)) → ((j : ℕ) → IsOther k (h + j)) → map (option_map (made_elsewhere n)) ports ≡ map (change k) (enumerate_from h ports)
  others_changed k h [] others = refl
  others_changed k h (o ∷ ports) others =
      ap₂ (λ p ps. p ∷ ps) (other_changed k h o (subst (IsOther k) (omega arith) (others 0)))
      (others_changed k (h + 1) ports (λ j. subst (IsOther k) (omega arith) (others (suc j))))

  drop_right : (b c : Bool) → c ≡ false → (b && c) ≡ false
  drop_right true c e = e
  drop_right false c e = refl

  drop_left : (b c : Bool) → b ≡ false → (b && c) ≡ false
  drop_left true c e = absurd cc
  drop_left false c e = refl

  other_port : (k h : ℕ) → (h ≡ at.port → ⊥) → IsOther k h
  other_port k h apart = drop_right (k == at.instance) (h == at.port) (ne_eqb h at.port apart)

  other_instance : (k h : ℕ) → (k ≡ at.instance → ⊥) → IsOther k h
  other_instance k h apart = drop_left (k == at.instance) (h == at.port) (ne_eqb k at.instance apart)

  -- the ports of the instance: one is changed as the port that links it
  here_changed : (k h p : ℕ) (q : PortState) (ports : List (Option PortState)) → k ≡ at.instance → at.port ≡ h + p → slice_index_or ports p None ≡ Some q
      → slice_set (map (option_map (made_elsewhere n)) ports) p (Some (made_here n q)) ≡ map (change k) (enumerate_from h ports)
  here_changed k h p q [] same place is = absurd (none-some q is)
  here_changed k h zero q (o ∷ ports) same place is =
      let both : ((k == at.instance) && (h == at.port)) ≡ true = ap₂ (λ a b. a && b) (eq-eqb k at.instance same) (eq-eqb h at.port (omega (arith, place))) in
      ap₂ (λ r rs. r ∷ rs)
      (sym (ap (λ b. option_map (if b then made_here n else made_elsewhere n) o) both ∙ ap (option_map (made_here n)) is))
      (others_changed k (h + 1) ports (λ j. other_port k (h + 1 + j) (λ e. absurd (omega (arith, e, place)))))
  here_changed k h (suc p) q (o ∷ ports) same place is =
      ap₂ (λ r rs. r ∷ rs) (other_changed k h o (other_port k h (λ e. absurd (omega (arith, e, place)))))
      (here_changed k (h + 1) p q ports same (omega (arith, place)) is)

  abbrev after : ℕ × MadeInstance → MadeInstance
  after e = record e.1 { ports = ports_after n at e.0 e.1.ports }

  -- other instances
  elsewhere_changed : (k : ℕ) (xs : List MadeInstance) → at.instance < k → map (instance_elsewhere n) xs ≡ map after (enumerate_from k xs)
  elsewhere_changed k [] past = refl
  elsewhere_changed k (x ∷ xs) past =
      ap₂ (λ y ys. y ∷ ys)
      (ap (λ ps. record x { ports = ps }) (others_changed k 0 x.ports (λ j. other_instance k (0 + j) (λ e. absurd (omega (arith, e, past))))))
      (elsewhere_changed (k + 1) xs (omega (arith, past)))

  abbrev put : PortState → MadeInstance → MadeInstance
  put q x = record x { ports = slice_set x.ports at.port (Some (made_here n q)) }

  -- all instances made before
  all_before : (k i : ℕ) (q : PortState) (xs : List MadeInstance) → at.instance ≡ k + i → option_and_then (λ x. port_of_made x at.port) (slice_get xs i) ≡ Some q
      → changed_at i (put q) (map (instance_elsewhere n) xs) ≡ map after (enumerate_from k xs)
  all_before k i q [] place is = absurd (none-some q is)
  all_before k zero q (x ∷ xs) place is =
      ap₂ (λ y ys. y ∷ ys)
      (ap (λ ps. record x { ports = ps }) (here_changed k 0 at.port q x.ports (omega (arith, place)) (omega arith) is))
      (elsewhere_changed (k + 1) xs (omega (arith, place)))
  all_before k (suc i) q (x ∷ xs) place is =
      ap₂ (λ y ys. y ∷ ys)
      (ap (λ ps. record x { ports = ps }) (others_changed k 0 x.ports (λ j. other_instance k (0 + j) (λ e. absurd (omega (arith, e, place))))))
      (all_before (k + 1) i q xs (omega (arith, place)) is)

-- The next instance is put behind the others, those before it are changed as for a port elsewhere, and
-- then the port for which it is made is put in its place.
pub extended : (s new_state : State) (with_new before_new : List MadeInstance) (n i p : ℕ) (q links : PortState) (new : MadeInstance) → n ≡ number_made s → port_at s i p ≡ Some q
    → with_new ≡ s.made ++ new ∷ [] → before_new ≡ first_changed n (instance_elsewhere n) with_new → links ≡ made_here n q
    → new_state ≡ with_port i p links (record s { made = before_new }) → new_state ≡ extended_for (port_of_instance i p) new s
extended s new_state with_new before_new n i p q links new count is pushed changed made put_in =
    put_in ∙ (ap₂ (λ l xs. with_port i p l (with_made xs)) made (changed ∙ (ap (first_changed n (instance_elsewhere n)) pushed ∙ rest))
    ∙ ap with_made (changed_before (put n at q) (map (instance_elsewhere n) s.made) (new ∷ []) i within
    ∙ ap (λ xs. xs ++ new ∷ []) (all_before n at 0 i q s.made (omega arith) is ∙ ap (λ k. map (after k at) (enumerate_from 0 s.made)) count)))
  where
    at : PortOf
    at = port_of_instance i p

    with_made : List MadeInstance → State
    with_made xs = record s { made = xs }

    rest : first_changed n (instance_elsewhere n) (s.made ++ new ∷ []) ≡ map (instance_elsewhere n) s.made ++ new ∷ []
    rest = ap (λ k. first_changed k (instance_elsewhere n) (s.made ++ new ∷ [])) count ∙ before_last (instance_elsewhere n) s.made new

    long : {X Y : Type 0} (f : X → Y) (xs : List X) → length (map f xs) ≡ length xs
    long f [] = refl
    long f (x ∷ xs) = ap suc (long f xs)

    within : i < length (map (instance_elsewhere n) s.made)
    within = subst (λ k. i < k) (sym (long (instance_elsewhere n) s.made)) (made_below (λ x. port_of_made x p) s.made i (ap is_some is))
