-- Going over the members of a set by the least one from a number on.
use Rattle.std.proofs.Common.{◌≡◌, ℕ, zero, suc, ◌+◌, ◌-◌, ◌<◌, ◌≤◌, ◌∙◌, ap, sym, Bool, cond, refl, inl, inr, List, [], ◌∷◌, ◌++◌, append_assoc, append-nil, Some, None, arith}
use Rattle.std.specs.Prelude.{IsTrue}
use Rattle.std.specs.List.{filter, range_with_len}
use Rattle.std.proofs.lemmas.Bool.{cases_eq, false_from_ne_true}
use Rattle.instance_set.specs.declared.set.InstanceSet.{InstanceSet}
use Rattle.instance_set.specs.InstanceSets.{is_member, IsLeastFrom}
use Rattle.instance_set.proofs.Walks.{member_low}
use Rattle.partial_state.specs.Masks.{instances_of}

taken : (p : ℕ → Bool) (a : ℕ) (rest : List ℕ) → IsTrue (p a) → cond (p a) (a ∷ rest) rest ≡ a ∷ rest
taken p a rest is = ap (λ b. cond b (a ∷ rest) rest) is

left_out : (p : ℕ → Bool) (a : ℕ) (rest : List ℕ) → ¬ IsTrue (p a) → cond (p a) (a ∷ rest) rest ≡ rest
left_out p a rest fails = ap (λ b. cond b (a ∷ rest) rest) (false_from_ne_true (p a) fails)

none_passes : (p : ℕ → Bool) (a n : ℕ) → ((k : ℕ) → a ≤ k → ¬ IsTrue (p k)) → filter p (range_with_len a n) ≡ []
none_passes p a zero fail = refl
none_passes p a (suc n) fail =
    left_out p a (filter p (range_with_len (a + 1) n)) (fail a (omega arith))
    ∙ none_passes p (a + 1) n (λ k later. fail k (omega arith))

-- up to the next that passes none does
next_passes : (p : ℕ → Bool) (a n j : ℕ) → a ≤ j → j < a + n → IsTrue (p j) → ((i : ℕ) → a ≤ i → i < j → ¬ IsTrue (p i))
    → filter p (range_with_len a n) ≡ j ∷ filter p (range_with_len (j + 1) (a + n - (j + 1)))
next_passes p a zero j from below is fail = absurd (omega arith)
next_passes p a (suc n) j from below is fail = elim (cases_eq a j) [
  | inl same ↦ here same
  | inr other ↦
      left_out p a (filter p (range_with_len (a + 1) n)) (fail a (omega arith) (omega (arith, other)))
      ∙ next_passes p (a + 1) n j (omega (arith, other)) (omega arith) is (λ i later before. fail i (omega arith) before)
      ∙ ap (λ m. j ∷ filter p (range_with_len (j + 1) (m - (j + 1)))) (omega arith)
]
  where
    here : a ≡ j → filter p (range_with_len a (suc n)) ≡ j ∷ filter p (range_with_len (j + 1) (a + suc n - (j + 1)))
    here same =
        let left : n ≡ a + suc n - (j + 1) = omega (arith, same) in
        taken p a (filter p (range_with_len (a + 1) n)) (ap p same ∙ is)
        ∙ ap (λ k. k ∷ filter p (range_with_len (k + 1) n)) same
        ∙ ap (λ m. j ∷ filter p (range_with_len (j + 1) m)) left

-- the members from a number on
pub members_from : InstanceSet → ℕ → List ℕ
members_from s from = filter (is_member s) (range_with_len from (256 - from))

pub from_start : (s : InstanceSet) → members_from s 0 ≡ instances_of s
unfolding members_from instances_of
from_start s = refl

pub from_last : (s : InstanceSet) (from : ℕ) → IsLeastFrom s from None → members_from s from ≡ []
unfolding members_from
from_last s from none = none_passes (is_member s) from (256 - from) none

pub from_next : (s : InstanceSet) (from j : ℕ) → IsLeastFrom s from (Some j) → members_from s from ≡ j ∷ members_from s (j + 1)
unfolding members_from
from_next s from j least =
    let low = member_low s j least.1 in
    let later = least.0 in
    let all : from + (256 - from) ≡ 256 = omega arith in
    next_passes (is_member s) from (256 - from) j later (omega arith) least.1 least.2
    ∙ ap (λ m. j ∷ filter (is_member s) (range_with_len (j + 1) (m - (j + 1)))) all

-- ---- what a list has that took them so far

-- one more is taken
pub taken_next : (s : InstanceSet) (from j : ℕ) (taken more all : List ℕ) → IsLeastFrom s from (Some j) → more ≡ taken ++ j ∷ []
    → taken ++ members_from s from ≡ all → more ++ members_from s (j + 1) ≡ all
taken_next s from j taken more all least pushed before =
    ap (λ js. js ++ members_from s (j + 1)) pushed ∙ append_assoc taken (j ∷ []) (members_from s (j + 1))
    ∙ ap (λ js. taken ++ js) (sym (from_next s from j least)) ∙ before

-- all are taken
pub taken_all : (s : InstanceSet) (from : ℕ) (taken all : List ℕ) → IsLeastFrom s from None → taken ++ members_from s from ≡ all → taken ≡ all
taken_all s from taken all none before =
    sym (append-nil taken) ∙ ap (λ js. taken ++ js) (sym (from_last s from none)) ∙ before
