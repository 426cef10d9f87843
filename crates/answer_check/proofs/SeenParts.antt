-- How many part links lead to each instance, as the sets of those seen say: none, one or more.
use Rattle.std.proofs.Common.{◌≡◌, ℕ, ◌+◌, ◌<◌, ◌≤◌, ◌∙◌, ap, sym, cond, true, false, ◌||◌, ◌==◌, nat_lt, nat_le, List, [], ◌∷◌, ◌++◌, inl, inr, arith}
use Rattle.std.proofs.lemmas.Grind.{fold-append}
use Rattle.std.proofs.lemmas.Bool.{cases_eq}
use Rattle.std.proofs.lemmas.Bool.Decides.{nat_tests}
use Rattle.instance_set.specs.InstanceSets.{is_member}
use Rattle.answer_check.specs.declared.parts.Seen.{Seen}
use Rattle.answer_check.specs.Breaks.{most_part_links}
use Rattle.answer_check.specs.steps.Seen.{HasSeen, SeesMore, into, is_overfull}

-- ---- one link more

into_next : (j k : ℕ) (links : List ℕ) → into j (links ++ k ∷ []) ≡ into j links + cond (k == j) 1 0
into_next j k links = fold-append (λ (a : ℕ) (n : ℕ). a + cond (n == j) 1 0) 0 links (k ∷ [])

-- a link to an instance that one led to before
once_again : (n j k : ℕ) → (j ≡ k → nat_le 1 n ≡ true) → nat_le 1 n ≡ nat_le 1 (n + cond (k == j) 1 0)
once_again n j k some = elim (cases_eq j k) [ inl same ↦ (let here = some same in grind (arith, nat_tests)) | inr other ↦ grind (arith, nat_tests) ]

twice_again : (n j k : ℕ) → (j ≡ k → nat_le 1 n ≡ true) → (nat_le 2 n || (j == k)) ≡ nat_le 2 (n + cond (k == j) 1 0)
twice_again n j k some = elim (cases_eq j k) [ inl same ↦ (let here = some same in grind (arith, nat_tests)) | inr other ↦ grind (arith, nat_tests) ]

-- a link to an instance that none led to before
once_first : (n j k : ℕ) → (nat_le 1 n || (j == k)) ≡ nat_le 1 (n + cond (k == j) 1 0)
once_first n j k = elim (cases_eq j k) [ inl same ↦ grind (arith, nat_tests) | inr other ↦ grind (arith, nat_tests) ]

twice_first : (n j k : ℕ) → (j ≡ k → nat_le 1 n ≡ false) → nat_le 2 n ≡ nat_le 2 (n + cond (k == j) 1 0)
twice_first n j k none = elim (cases_eq j k) [ inl same ↦ (let here = none same in grind (arith, nat_tests)) | inr other ↦ grind (arith, nat_tests) ]

into_other : (j k : ℕ) (links : List ℕ) → (k ≡ j → ⊥) → into j (links ++ k ∷ []) ≡ into j links
into_other j k links other = into_next j k links ∙ grind (arith, nat_tests)

-- a set has no place for it
pub link_past : (s : Seen) (k : ℕ) → 256 ≤ k → SeesMore s (k ∷ []) s
link_past s k high before seen = record {
  once = λ j low. seen.once j low ∙ ap (nat_le 1) (sym (into_other j k before (λ e. omega arith)));
  twice = λ j low. seen.twice j low ∙ ap (nat_le 2) (sym (into_other j k before (λ e. omega arith)));
}

module _ (s t : Seen) (k : ℕ) (below : k < 256) where
  pub link_again : is_member s.once k ≡ true → t.once ≡ s.once → ((j : ℕ) → is_member t.twice j ≡ (is_member s.twice j || (j == k))) → SeesMore s (k ∷ []) t
  link_again known same more before seen =
      let some : (j : ℕ) → j ≡ k → nat_le 1 (into j before) ≡ true = λ j e. ap (λ i. nat_le 1 (into i before)) e ∙ sym (seen.once k below) ∙ known in
      record {
        once = λ j low. ap (λ set. is_member set j) same ∙ seen.once j low ∙ once_again (into j before) j k (some j) ∙ ap (nat_le 1) (sym (into_next j k before));
        twice = λ j low. more j ∙ ap (λ b. b || (j == k)) (seen.twice j low) ∙ twice_again (into j before) j k (some j) ∙ ap (nat_le 2) (sym (into_next j k before));
      }

  pub link_first : is_member s.once k ≡ false → t.twice ≡ s.twice → ((j : ℕ) → is_member t.once j ≡ (is_member s.once j || (j == k))) → SeesMore s (k ∷ []) t
  link_first new same more before seen =
      let none : (j : ℕ) → j ≡ k → nat_le 1 (into j before) ≡ false = λ j e. ap (λ i. nat_le 1 (into i before)) e ∙ sym (seen.once k below) ∙ new in
      record {
        once = λ j low. more j ∙ ap (λ b. b || (j == k)) (seen.once j low) ∙ once_first (into j before) j k ∙ ap (nat_le 1) (sym (into_next j k before));
        twice = λ j low. ap (λ set. is_member set j) same ∙ seen.twice j low ∙ twice_first (into j before) j k (none j) ∙ ap (nat_le 2) (sym (into_next j k before));
      }

-- an instance is overfull where more part links lead to it than may
pub overfull : (s : Seen) (links : List ℕ) (j : ℕ) → HasSeen s links → j < 256 → is_overfull s j ≡ nat_lt (most_part_links j) (into j links)
overfull s links j seen low =
    let once = seen.once j low in
    let twice = seen.twice j low in
    elim (cases_eq j 0) [ inl same ↦ grind (arith, nat_tests) | inr other ↦ grind (arith, nat_tests) ]
