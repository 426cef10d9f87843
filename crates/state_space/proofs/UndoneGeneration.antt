-- The log of a generation brings the state back.
use Rattle.std.proofs.Common.{◌≡◌, ℕ, ◌+◌, ◌-◌, ◌==◌, suc, Bool, true, false, not, ◌&&◌, List, [], ◌∷◌, ◌++◌, length, map, refl, ap, sym, ◌∙◌, subst, Some, None, Option, arith, append_assoc}
use Rattle.std.specs.Prelude.{slice_set, take, nat_lt, nat_le, if◌then◌else◌}
use Rattle.std.specs.Option.{option_map, option_map_or}
use Rattle.std.specs.List.{flat_map, enumerate_from, range_with_len}
use Rattle.std.proofs.Math.Seq.{take-append_seam}
use Rattle.std.proofs.lemmas.Bool.{and_parts, false_from_ne_true, true≢false, eqb-true}
use Rattle.std.proofs.lemmas.List.{length-append}
use Rattle.std.proofs.lemmas.Option.{same_Some, get_or_from_slice_get}
use Rattle.base_laws.specs.Places.{IsAt}
use Rattle.base_laws.proofs.Tests.{option_map_or_at}
use Rattle.prod_model.specs.declared.model.Model.{Model}
use Rattle.state_space.specs.Sets.{with_number}
use Rattle.state_space.specs.Ports.{PortState, is_closed, made_here, made_elsewhere}
use Rattle.state_space.specs.Made.{MadeInstance, port_of_made}
use Rattle.state_space.specs.State.{State, number_made, port_at, leaves_under, changed_at}
use Rattle.state_space.specs.Root.{new_instance}
use Rattle.state_space.specs.Generation.{PortOf, first_open, open_port_passes, ports_after, target_at, generated_for, generated}
use Rattle.state_space.specs.Undo.{OldValue, Port, Made, put_back, undone, old_port, generation_log}
use Rattle.state_space.specs.Laws.{GenerationIsUndone}
use Rattle.state_space.proofs.OpenPort.{IsFirstOpen}
use Rattle.state_space.proofs.GenerationKept.{first_open_is}
use Rattle.state_space.proofs.UndoLaws.{undone_in_turn}

-- ---- an element behind others

-- the element behind some others is changed
changed_behind : {X : Type 0} (f : X → X) (front : List X) (x : X) (xs : List X) → changed_at (length front) f (front ++ x ∷ xs) ≡ front ++ f x ∷ xs
changed_behind f [] x xs = refl
changed_behind f (y ∷ ys) x xs = ap (λ zs. y ∷ zs) (changed_behind f ys x xs)

-- or is set
set_behind : {X : Type 0} (front : List X) (x y : X) (xs : List X) → slice_set (front ++ x ∷ xs) (length front) y ≡ front ++ y ∷ xs
set_behind [] x y xs = refl
set_behind (z ∷ zs) x y xs = ap (λ ws. z ∷ ws) (set_behind zs x y xs)

-- ---- the ports of one instance

module _ (n : ℕ) (at : PortOf) where
  abbrev change : ℕ → ℕ × Option PortState → Option PortState
  change k e = option_map (if (k == at.instance) && (e.0 == at.port) then made_here n else made_elsewhere n) e.1

  -- a closed port is not the one for which the instance is made
  abbrev Shut : ℕ → ℕ → List (Option PortState) → Type 0
  Shut k p ports = (j : ℕ) (q : PortState) → IsAt ports j (Some q) → is_closed q ≡ true → ((k == at.instance) && ((p + j) == at.port)) ≡ false

  -- a closed port stays as it is
  closed_stays : (b : Bool) (q : PortState) → b ≡ false → is_closed q ≡ true → (if b then made_here n else made_elsewhere n) q ≡ q
  closed_stays true q other closed = absurd (true≢false other)
  closed_stays false q other closed = ap (λ b. if b then q else record q { possible = with_number n q.possible; fresh_low = q.fresh_low - 1 }) closed

  module _ (s : State) (front : List MadeInstance) (x : MadeInstance) (xs : List MadeInstance) (k : ℕ) (place : k ≡ length front) where
    -- the state with these ports of the instance
    abbrev with_ports : List (Option PortState) → State
    with_ports ports = record s { made = front ++ record x { ports = ports } ∷ xs }

    -- a port is put back behind others
    port_back : (before : List (Option PortState)) (p : ℕ) → p ≡ length before → (z : Option PortState) (q : PortState) (ports : List (Option PortState))
        → put_back (Port k p q) (with_ports (before ++ z ∷ ports)) ≡ with_ports (before ++ Some q ∷ ports)
    port_back before p at_p z q ports =
        let f : MadeInstance → MadeInstance = λ w. record w { ports = slice_set w.ports p (Some q) } in
        let parts = before ++ z ∷ ports in
        let old : MadeInstance = record x { ports = parts } in
        let inner : slice_set parts p (Some q) ≡ before ++ Some q ∷ ports =
        ap (λ i. slice_set parts i (Some q)) at_p ∙ set_behind before z (Some q) ports in
        ap (λ i. let t : State = record s { made = changed_at i f (front ++ old ∷ xs) } in t) place
        ∙ (ap (λ ws. let t : State = record s { made = ws } in t) (changed_behind f front old xs)
        ∙ ap with_ports inner)

    ports_back : (before : List (Option PortState)) (p : ℕ) → p ≡ length before → (ports : List (Option PortState)) → Shut k p ports
        → undone (flat_map (old_port k) (enumerate_from p ports)) (with_ports (before ++ map (change k) (enumerate_from p ports))) ≡ with_ports (before ++ ports)
    ports_back before p at_p [] shut = refl
    ports_back before p at_p (o ∷ ports) shut =
        by o (λ q is. subst (λ i. is_closed q ≡ true → ((k == at.instance) && (i == at.port)) ≡ false) (omega arith) (shut 0 q (ap Some is)))
        (ap (λ ps. undone later (with_ports ps)) (sym (append_assoc before (change k (p, o) ∷ []) (map (change k) (enumerate_from (p + 1) ports))))
        ∙ (ports_back (before ++ change k (p, o) ∷ []) (p + 1) (sym (length-append before (change k (p, o) ∷ []) ∙ ap (λ n. n + 1) (sym at_p))) ports
        (λ j q there closed. subst (λ i. ((k == at.instance) && (i == at.port)) ≡ false) (omega arith) (shut (suc j) q there closed))
        ∙ ap with_ports (append_assoc before (change k (p, o) ∷ []) ports)))
      where
        later : List OldValue
        later = flat_map (old_port k) (enumerate_from (p + 1) ports)

        by : (o : Option PortState) → ((q : PortState) → o ≡ Some q → is_closed q ≡ true → ((k == at.instance) && (p == at.port)) ≡ false)
            → undone later (with_ports (before ++ change k (p, o) ∷ map (change k) (enumerate_from (p + 1) ports))) ≡ with_ports (before ++ change k (p, o) ∷ ports)
            → undone (old_port k (p, o) ++ later) (with_ports (before ++ change k (p, o) ∷ map (change k) (enumerate_from (p + 1) ports))) ≡ with_ports (before ++ o ∷ ports)
        by None other rest = rest
        by (Some q) other rest = logged (is_closed q) refl
          where
            logged : (b : Bool) → is_closed q ≡ b
                → undone ((if b then [] else Port k p q ∷ []) ++ later) (with_ports (before ++ change k (p, Some q) ∷ map (change k) (enumerate_from (p + 1) ports))) ≡ with_ports (before ++ Some q ∷ ports)
            logged true closed =
                rest ∙ ap (λ w. with_ports (before ++ Some w ∷ ports)) (closed_stays ((k == at.instance) && (p == at.port)) q (other q refl closed) closed)
            logged false open_ = ap (put_back (Port k p q)) rest ∙ port_back before p at_p (change k (p, Some q)) q ports

  -- ---- all instances

  abbrev after : ℕ × MadeInstance → MadeInstance
  after e = record e.1 { ports = ports_after n at e.0 e.1.ports }

  abbrev old_ports : ℕ × MadeInstance → List OldValue
  old_ports e = flat_map (old_port e.0) (enumerate_from 0 e.1.ports)

  instances_back : (s : State) (front : List MadeInstance) (i : ℕ) → i ≡ length front → (xs : List MadeInstance)
      → ((j : ℕ) (x : MadeInstance) → IsAt xs j x → Shut (i + j) 0 x.ports)
      → undone (flat_map old_ports (enumerate_from i xs)) (record s { made = front ++ map after (enumerate_from i xs) }) ≡ record s { made = front ++ xs }
  instances_back s front i place [] shut = refl
  instances_back s front i place (x ∷ xs) shut =
      let later = flat_map old_ports (enumerate_from (i + 1) xs) in
      let with_made : List MadeInstance → State = λ made. record s { made = made } in
      let here = after (i, x) in
      let rest : undone later (with_made (front ++ here ∷ map after (enumerate_from (i + 1) xs))) ≡ with_made (front ++ here ∷ xs) =
      ap (λ made. undone later (with_made made)) (sym (append_assoc front (here ∷ []) (map after (enumerate_from (i + 1) xs))))
      ∙ (instances_back s (front ++ here ∷ []) (i + 1) (sym (length-append front (here ∷ []) ∙ ap (λ n. n + 1) (sym place))) xs
      (λ j y there. subst (λ h. Shut h 0 y.ports) (omega arith) (shut (suc j) y there))
      ∙ ap with_made (append_assoc front (here ∷ []) xs)) in
      undone_in_turn (old_ports (i, x)) later (with_made (front ++ here ∷ map after (enumerate_from (i + 1) xs)))
      ∙ (ap (undone (old_ports (i, x))) rest
      ∙ ports_back s front x xs i place [] 0 refl x.ports (subst (λ h. Shut h 0 x.ports) (omega arith) (shut 0 x refl)))

-- ---- the law

module _ (m : Model) (s : State) (at : PortOf) (f : IsFirstOpen m 0 s.made at) where
  -- the first open port is not closed
  open_not_shut : (j : ℕ) (x : MadeInstance) → IsAt s.made j x → Shut (number_made s) at (0 + j) 0 x.ports
  open_not_shut j x there p q stands closed = false_from_ne_true _ (λ here.
      let both = and_parts ((0 + j) == at.instance) ((0 + p) == at.port) here in
      let place : j ≡ f.skipped = let one = eqb-true (0 + j) at.instance both.0 in omega (arith, one, f.instance) in
      let port : p ≡ f.port.id = let one = eqb-true (0 + p) at.port both.1 in omega (arith, one, f.port_id) in
      let same : f.made ≡ x = same_Some f.made x (sym f.there ∙ subst (λ i. IsAt s.made i x) place there) in
      let told : port_of_made f.made f.port.id ≡ Some q =
      subst (λ w. port_of_made w f.port.id ≡ Some q) (sym same) (subst (λ i. port_of_made x i ≡ Some q) port (get_or_from_slice_get x.ports p (Some q) None stands)) in
      let opened = sym (ap (λ o. option_map_or (λ q. not (is_closed q)) o false) told) ∙ f.opened in
      true≢false (sym opened ∙ ap not closed))

  generation_back : undone (generation_log s) (generated_for m s at) ≡ s
  generation_back =
      let n = number_made s in
      let old = map (after n at) (enumerate_from 0 s.made) in
      let new = new_instance m (leaves_under m (target_at m s at)) (range_with_len 0 (n + 1)) in
      let with_made : List MadeInstance → State = λ made. record s { made = made } in
      let last : length (old ++ new ∷ []) - 1 ≡ length old = let long = length-append old (new ∷ []) in omega (arith, long) in
      let made : take (length (old ++ new ∷ []) - 1) (old ++ new ∷ []) ≡ old =
      ap (λ k. take k (old ++ new ∷ [])) last ∙ take-append_seam old (new ∷ []) in
      undone_in_turn (flat_map (old_ports n at) (enumerate_from 0 s.made)) (Made ∷ []) (generated_for m s at)
      ∙ (ap (λ made. undone (flat_map (old_ports n at) (enumerate_from 0 s.made)) (with_made made)) made
      ∙ instances_back n at s [] 0 refl s.made open_not_shut)

pub generation_is_undone : GenerationIsUndone
unfolding generated
generation_is_undone m s can =
    let both = and_parts (nat_lt (number_made s) m.instances) (open_port_passes m s (λ q. nat_le 1 q.fresh_high)) can in
    let found = option_map_or_at (λ at. option_map_or (λ q. nat_le 1 q.fresh_high) (port_at s at.instance at.port) false) (first_open m s) both.1 in
    ap (λ o. undone (generation_log s) (option_map_or (generated_for m s) o s)) found.1 ∙ generation_back m s found.0 (first_open_is m s found.0 found.1)
