-- Stored ports after the next instance is made.
use Rattle.std.proofs.Common.{◌≡◌, ℕ, ◌-◌, ◌<◌, ◌∙◌, ap, ap₂, sym, ◌&&◌, ◌||◌, ◌==◌, nat_lt, Bool, true, false, refl, inl, inr, List, [], ◌∷◌, ◌++◌, arith, lt-ltb, ltb-true}
use Rattle.std.specs.Prelude.{IsTrue, if◌then◌else◌}
use Rattle.std.specs.List.{filter}
use Rattle.std.proofs.lemmas.Bool.{and_parts, and_from, or_cases, or_left, or_right, eq-eqb, eqb-true, false≢true}
use Rattle.std.proofs.lemmas.Bool.Decides.{nat_tests}
use Rattle.config_value.specs.Shaped.{ascends}
use Rattle.instance_set.specs.declared.set.InstanceSet.{InstanceSet}
use Rattle.instance_set.specs.InstanceSets.{is_member}
use Rattle.port_wildcards.specs.declared.port_domain.PortDomain.{PortDomain}
use Rattle.port_wildcards.specs.Ports.{Gains, IsClosed}
use Rattle.state_space.specs.Sets.{has_number, with_number}
use Rattle.state_space.specs.Ports.{PortState, is_closed, made_here, made_elsewhere}
use Rattle.state_space.proofs.PortLaws.{has_number-filter, ascends-filter, below_rest, ascends_rest}
use Rattle.state_space.proofs.GenerationLaws.{has_number-append}
use Rattle.state_space.proofs.WholeLaws.{same_members}
use Rattle.partial_state.specs.Masks.{instances_of}
use Rattle.partial_state.specs.Views.{state_of_port}
use Rattle.partial_state.proofs.Numbers.{passing_ascend}
use Rattle.partial_state.proofs.PortNarrowings.{has_instance}

-- ---- sets with one more number

-- what is above a number ascends behind it
behind_ascends : (n : ℕ) (ys : List ℕ) → IsTrue (ascends ys) → ((k : ℕ) → IsTrue (has_number ys k) → n < k) → IsTrue (ascends (n ∷ ys))
behind_ascends n [] up above = refl
behind_ascends n (y ∷ ys) up above = and_from _ _ (lt-ltb n y (above y (or_left _ _ (eq-eqb y y refl)))) up

-- what ascends below a number, the number, and what ascends above it ascend
joined_ascend : (xs : List ℕ) (n : ℕ) (ys : List ℕ) → IsTrue (ascends xs) → ((k : ℕ) → IsTrue (has_number xs k) → k < n)
    → IsTrue (ascends ys) → ((k : ℕ) → IsTrue (has_number ys k) → n < k) → IsTrue (ascends (xs ++ n ∷ ys))
joined_ascend [] n ys up below up' above = behind_ascends n ys up' above
joined_ascend (x ∷ xs) n ys up below up' above =
    behind_ascends x (xs ++ n ∷ ys)
    (joined_ascend xs n ys (ascends_rest x xs up) (λ k there. below k (or_right (x == k) (has_number xs k) there)) up' above)
    (λ k there. elim (or_cases (has_number xs k) (has_number (n ∷ ys) k) (sym (has_number-append xs (n ∷ ys) k) ∙ there)) [
      | inl low ↦ below_rest x xs up k low
      | inr rest ↦
          let first : x < n = below x (or_left _ _ (eq-eqb x x refl)) in
          elim (or_cases (n == k) (has_number ys k) rest) [
            | inl here ↦ let same = eqb-true n k here in omega (arith, first, same)
            | inr high ↦ let past = above k high in omega (arith, first, past)
          ]
    ])

with_ascends : (n : ℕ) (set : List ℕ) → IsTrue (ascends set) → IsTrue (ascends (with_number n set))
with_ascends n set up =
    joined_ascend (filter (λ j. nat_lt j n) set) n (filter (λ j. nat_lt n j) set)
    (ascends-filter (λ j. nat_lt j n) set up)
    (λ k there. ltb-true k n (and_parts (has_number set k) (nat_lt k n) (sym (has_number-filter (λ j. nat_lt j n) set k) ∙ there)).1)
    (ascends-filter (λ j. nat_lt n j) set up)
    (λ k there. ltb-true n k (and_parts (has_number set k) (nat_lt n k) (sym (has_number-filter (λ j. nat_lt n j) set k) ∙ there)).1)

-- what it has
has_with : (n : ℕ) (set : List ℕ) (k : ℕ) → has_number (with_number n set) k ≡ (has_number set k || (k == n))
has_with n set k =
    has_number-append (filter (λ j. nat_lt j n) set) (n ∷ filter (λ j. nat_lt n j) set) k
    ∙ (ap₂ (λ a b. a || ((n == k) || b)) (has_number-filter (λ j. nat_lt j n) set k) (has_number-filter (λ j. nat_lt n j) set k)
    ∙ regroup (has_number set k))
  where
    one_of : (nat_lt k n || ((n == k) || nat_lt n k)) ≡ true
    one_of = grind (arith, nat_tests)

    either_way : ((n == k) || false) ≡ (k == n)
    either_way = grind (arith, nat_tests)

    regroup : (b : Bool) → ((b && nat_lt k n) || ((n == k) || (b && nat_lt n k))) ≡ (b || (k == n))
    regroup true = one_of
    regroup false = either_way

-- ---- stored sets

instances_ascend : (s : InstanceSet) → IsTrue (ascends (instances_of s))
unfolding instances_of
instances_ascend s = passing_ascend (is_member s) 0 256

gained : (old new : InstanceSet) (j : ℕ) → Gains j old new → instances_of new ≡ with_number j (instances_of old)
gained old new j gains =
    same_members (instances_of new) (with_number j (instances_of old)) (instances_ascend new) (with_ascends j (instances_of old) (instances_ascend old))
    (λ k there. sym (same k) ∙ there)
    (λ k there. same k ∙ there)
  where
    same : (k : ℕ) → has_number (instances_of new) k ≡ has_number (with_number j (instances_of old)) k
    same k = has_instance new k ∙ (gains k ∙ (ap (λ b. b || (k == j)) (sym (has_instance old k)) ∙ sym (has_with j (instances_of old) k)))

-- ---- stored ports

module _ (old new : PortDomain) (j : ℕ) where
  abbrev of_parts : List ℕ → List ℕ → ℕ → ℕ → PortState
  of_parts required possible low high = record { required = required; possible = possible; fresh_low = low; fresh_high = high }

  -- the port for which the instance is made
  pub stored_here : Gains j old.required new.required → Gains j old.possible new.possible → new.fresh_low ≡ old.fresh_low - 1 → new.fresh_high ≡ old.fresh_high - 1
      → state_of_port new ≡ made_here j (state_of_port old)
  stored_here required possible low high =
      ap₂ (λ r p. of_parts r p new.fresh_low new.fresh_high) (gained old.required new.required j required) (gained old.possible new.possible j possible)
      ∙ ap₂ (λ l h. of_parts (with_number j (instances_of old.required)) (with_number j (instances_of old.possible)) l h) low high

  -- another port
  pub stored_elsewhere : (IsClosed old → new ≡ old) → (¬ IsClosed old → Gains j old.possible new.possible) → new.required ≡ old.required
      → new.fresh_low ≡ old.fresh_low - 1 → new.fresh_high ≡ old.fresh_high → state_of_port new ≡ made_elsewhere j (state_of_port old)
  stored_elsewhere closed possible required low high = by (is_closed (state_of_port old)) refl
    where
      by : (b : Bool) → is_closed (state_of_port old) ≡ b
          → state_of_port new ≡ (if b then state_of_port old else of_parts (instances_of old.required) (with_number j (instances_of old.possible)) (old.fresh_low - 1) old.fresh_high)
      by true shut = ap state_of_port (closed (eqb-true old.fresh_high 0 shut))
      by false open_ =
          let gains = possible (λ shut. false≢true (sym open_ ∙ eq-eqb old.fresh_high 0 shut)) in
          ap₂ (λ r p. of_parts r p new.fresh_low new.fresh_high) (ap instances_of required) (gained old.possible new.possible j gains)
          ∙ ap₂ (λ l h. of_parts (instances_of old.required) (with_number j (instances_of old.possible)) l h) low high
