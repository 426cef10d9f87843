-- How many instances of a set are numbered so or more.
use Rattle.std.proofs.Common.{◌≡◌, ℕ, zero, suc, ◌+◌, ◌<◌, ◌≤◌, ◌∙◌, ap, sym, Bool, true, false, cond, refl, inl, inr, List, ◌∷◌, Some, None, arith, leb-true, le-leb, ltb-true}
use Rattle.std.specs.Prelude.{nat_le, nat_lt, IsTrue}
use Rattle.std.specs.List.{filter, count_by, range_with_len}
use Rattle.std.proofs.lemmas.Bool.{false≢true, false_from_ne_true, and_parts}
use Rattle.std.proofs.lemmas.Bool.Decides.{nat_tests, eqb_tells}
use Rattle.instance_set.specs.declared.set.InstanceSet.{InstanceSet}
use Rattle.instance_set.specs.InstanceSets.{is_member, IsLeastFrom}
use Rattle.state_space.proofs.PortLaws.{one, counted}
use Rattle.partial_state.specs.Masks.{instances_of}

not_le : (a b : ℕ) → b < a → nat_le a b ≡ false
not_le a b h = grind (arith, nat_tests)

-- where none is so high none is counted
none_from : (p : ℕ → Bool) (from a n : ℕ) → ((j : ℕ) → from ≤ j → p j ≡ false) → count_by (nat_le from) (filter p (range_with_len a n)) ≡ 0
none_from p from a zero none = refl
none_from p from a (suc n) none = by (p a) refl (none_from p from (a + 1) n none)
  where
    rest : List ℕ
    rest = filter p (range_with_len (a + 1) n)

    by : (b : Bool) → p a ≡ b → count_by (nat_le from) rest ≡ 0 → count_by (nat_le from) (cond b (a ∷ rest) rest) ≡ 0
    by true is h =
        let low : nat_le from a ≡ false = false_from_ne_true (nat_le from a) (λ high. false≢true (sym (none a (leb-true from a high)) ∙ is)) in
        let head : one (nat_le from a) ≡ 0 = ap one low in
        omega (arith, h, head, counted (nat_le from) a rest)
    by false is h = h

-- from a number on all are counted by each lower bound
all_from : (p : ℕ → Bool) (from next a n : ℕ) → from ≤ a → next ≤ a
    → count_by (nat_le from) (filter p (range_with_len a n)) ≡ count_by (nat_le next) (filter p (range_with_len a n))
all_from p from next a zero low low' = refl
all_from p from next a (suc n) low low' = by (p a) (all_from p from next (a + 1) n (omega arith) (omega arith))
  where
    rest : List ℕ
    rest = filter p (range_with_len (a + 1) n)

    by : (b : Bool) → count_by (nat_le from) rest ≡ count_by (nat_le next) rest
        → count_by (nat_le from) (cond b (a ∷ rest) rest) ≡ count_by (nat_le next) (cond b (a ∷ rest) rest)
    by true h =
        let head : one (nat_le from a) ≡ 1 = ap one (le-leb from a low) in
        let head' : one (nat_le next a) ≡ 1 = ap one (le-leb next a low') in
        omega (arith, h, head, head', counted (nat_le from) a rest, counted (nat_le next) a rest)
    by false h = h

-- the least one is counted, and then those after it
least_from : (p : ℕ → Bool) (from j a n : ℕ) → p j ≡ true → from ≤ j → ((i : ℕ) → from ≤ i → i < j → p i ≡ false) → a ≤ j → j < a + n
    → count_by (nat_le from) (filter p (range_with_len a n)) ≡ 1 + count_by (nat_le (j + 1)) (filter p (range_with_len a n))
least_from p from j a zero is high none low below = absurd (omega (arith, low, below))
least_from p from j a (suc n) is high none low below = elim (eqb_tells a j) [
  | inl same ↦ here (p a) (ap p same.1 ∙ is) same.1 (all_from p from (j + 1) (a + 1) n (omega (arith, high, same.1)) (omega (arith, same.1)))
  | inr other ↦
      let under : a < j = omega (arith, low, other.1) in
      later under (p a) refl (least_from p from j (a + 1) n is high none (omega (arith, under)) (omega (arith, below)))
]
  where
    rest : List ℕ
    rest = filter p (range_with_len (a + 1) n)

    here : (b : Bool) → b ≡ true → a ≡ j → count_by (nat_le from) rest ≡ count_by (nat_le (j + 1)) rest
        → count_by (nat_le from) (cond b (a ∷ rest) rest) ≡ 1 + count_by (nat_le (j + 1)) (cond b (a ∷ rest) rest)
    here true e same h =
        let head : one (nat_le from a) ≡ 1 = ap one (le-leb from a (omega (arith, high, same))) in
        let head' : one (nat_le (j + 1) a) ≡ 0 = ap one (not_le (j + 1) a (omega (arith, same))) in
        omega (arith, h, head, head', counted (nat_le from) a rest, counted (nat_le (j + 1)) a rest)
    here false e same h = absurd (false≢true e)

    later : a < j → (b : Bool) → p a ≡ b → count_by (nat_le from) rest ≡ 1 + count_by (nat_le (j + 1)) rest
        → count_by (nat_le from) (cond b (a ∷ rest) rest) ≡ 1 + count_by (nat_le (j + 1)) (cond b (a ∷ rest) rest)
    later under true there h =
        let out : nat_le from a ≡ false = false_from_ne_true (nat_le from a) (λ high. false≢true (sym (none a (leb-true from a high) under) ∙ there)) in
        let head : one (nat_le from a) ≡ 0 = ap one out in
        let head' : one (nat_le (j + 1) a) ≡ 0 = ap one (not_le (j + 1) a (omega (arith, under))) in
        omega (arith, h, head, head', counted (nat_le from) a rest, counted (nat_le (j + 1)) a rest)
    later under false there h = h

-- a member is one of 256
pub member_below : (s : InstanceSet) (j : ℕ) → IsTrue (is_member s j) → j < 256
member_below s j is = ltb-true j 256 (and_parts (nat_lt j 256) _ is).0

-- none is counted where there is no least one
pub none_counted : (s : InstanceSet) (from : ℕ) → IsLeastFrom s from None → 0 ≡ count_by (nat_le from) (instances_of s)
unfolding instances_of
none_counted s from none = sym (none_from (is_member s) from 0 256 (λ j high. false_from_ne_true (is_member s j) (none j high)))

-- and else the least one and those after it
pub least_counted : (s : InstanceSet) (from j : ℕ) → IsLeastFrom s from (Some j)
    → 1 + count_by (nat_le (j + 1)) (instances_of s) ≡ count_by (nat_le from) (instances_of s)
unfolding instances_of
least_counted s from j least =
    sym (least_from (is_member s) from j 0 256 least.1 least.0 (λ i high under. false_from_ne_true (is_member s i) (least.2 i high under))
    (omega arith) (omega (arith, member_below s j least.1)))
