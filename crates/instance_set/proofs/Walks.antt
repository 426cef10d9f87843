-- What loops find that go over the members of a set by the least one from a number on.
use Rattle.std.proofs.Common.{◌≡◌, ℕ, ◌+◌, ◌<◌, ◌∙◌, ap, sym, subst, ◌&&◌, ◌||◌, ◌==◌, nat_lt, Bool, true, false, inl, inr, lt-ltb, ltb-true, Some, None, arith}
use Rattle.std.specs.Prelude.{IsTrue}
use Rattle.std.proofs.lemmas.Bool.{and_parts, and_right, cases_eq, cases_lt, false_from_ne_true}
use Rattle.std.proofs.lemmas.Bool.Decides.{nat_tests}
use Rattle.instance_set.specs.declared.set.InstanceSet.{InstanceSet}
use Rattle.instance_set.specs.InstanceSets.{is_member, IsLeastFrom}

pub member_low : (s : InstanceSet) (j : ℕ) → IsTrue (is_member s j) → j < 256
member_low s j member = ltb-true j 256 (and_parts (nat_lt j 256) _ member).0

-- the numbers below i of those that pass
abbrev pub HasFoundBelow : (ℕ → Bool) → ℕ → InstanceSet → Type 0
HasFoundBelow passes i found = (k : ℕ) → is_member found k ≡ (nat_lt k i && passes k)

-- members alone pass; those below a number have been gone over
module _ (passes : ℕ → Bool) (among : InstanceSet) (members : (k : ℕ) → passes k ≡ true → IsTrue (is_member among k)) (from : ℕ) where
  -- no number from there to the next member passes
  below_next : (i : ℕ) → IsLeastFrom among from (Some i) → (k : ℕ) → (nat_lt k (i + 1) && passes k) ≡ ((nat_lt k from && passes k) || ((k == i) && passes i))
  below_next i least k = elim (cases_eq k i) [
    | inl same ↦
        (let later = least.0 in
        let Right : ℕ → Type 0 = λ n. (nat_lt n (i + 1) && passes n) ≡ ((nat_lt n from && passes n) || ((n == i) && passes i)) in
        subst Right (sym same) (grind (arith, nat_tests)))
    | inr other ↦ elim (cases_lt k from) [
      | inl lower ↦ (let later = least.0 in grind (arith, nat_tests))
      | inr upper ↦ elim (cases_lt k i) [
        | inl between ↦ (let fails = false_from_ne_true (passes k) (λ yes. least.2 k upper between (members k yes)) in grind (arith, nat_tests))
        | inr past ↦ grind (arith, nat_tests)
      ]
    ]
  ]

  pub found_with : (i : ℕ) (found next : InstanceSet) → HasFoundBelow passes from found → IsLeastFrom among from (Some i) → passes i ≡ true
      → ((k : ℕ) → is_member next k ≡ (is_member found k || (k == i))) → HasFoundBelow passes (i + 1) next
  found_with i found next before least right more k = grind (arith, more k, before k, below_next i least k)

  pub found_without : (i : ℕ) (found : InstanceSet) → HasFoundBelow passes from found → IsLeastFrom among from (Some i) → passes i ≡ false → HasFoundBelow passes (i + 1) found
  found_without i found before least wrong k = grind (arith, before k, below_next i least k)

  pub found_all : (found : InstanceSet) → HasFoundBelow passes from found → IsLeastFrom among from None → (k : ℕ) → is_member found k ≡ passes k
  found_all found before none k = elim (cases_lt k from) [
    | inl lower ↦ before k ∙ ap (λ b. b && passes k) (lt-ltb k from lower)
    | inr upper ↦ (let fails = false_from_ne_true (passes k) (λ yes. none k upper (members k yes)) in before k ∙ and_right _ _ fails ∙ sym fails)
  ]
