-- The counts by name, after one more fault and with room for a name.
use Rattle.std.proofs.Common.{◌≡◌, ◌≢◌, ℕ, ◌≤◌, ◌-◌, ◌^◌, List, [], ◌∷◌, ◌++◌, arith, refl, true, false, ◌⊎◌, inl, inr}
use Rattle.std.proofs.lemmas.Grind.{common_steps}
use Rattle.std.proofs.lemmas.Slice.Eq.{bytes_eq-Decides}
use Rattle.std.specs.Prelude.{map}
use Rattle.std.specs.Str.{bytes_eq}
use Rattle.cfg_io.specs.declared.fault_counts.FaultCount.{FaultCount}
use Rattle.cfg_io.specs.Causes.{raised, Rose}
use Rattle.cfg_io.specs.Counts.{count_of, with_fault}
use Rattle.cfg_io.specs.steps.Counts.{AreBounded, is_kept, with_room}
use Rattle.cfg_io.specs.FaultCounts.{shown}

is_own : (name : List ℕ) → bytes_eq name name ≡ true
is_own name = (bytes_eq-Decides name name).1 refl

kept_behind : (name : List ℕ) (times : ℕ) (cs : List (List ℕ × ℕ))
    → is_kept name (cs ++ (name, times) ∷ []) ≡ true
kept_behind name times [] = grind (arith, common_steps, is_own name)
kept_behind name times (c ∷ cs) = grind (arith, common_steps, kept_behind name times cs)

-- a name is kept once there is room for it
pub kept_in_room : (name : List ℕ) (cs : List (List ℕ × ℕ))
    → is_kept name (with_room name cs) ≡ true
kept_in_room name cs = grind (arith, common_steps, kept_behind name 0 cs)

fault_behind : (name : List ℕ) (cs : List (List ℕ × ℕ))
    → is_kept name cs ≡ false → with_fault name (cs ++ (name, 0) ∷ []) ≡ with_fault name cs
fault_behind name [] none = grind (arith, common_steps, is_own name)
fault_behind name (c ∷ cs) none = grind (arith, common_steps, fault_behind name cs)

-- room for a name does not change the counts after a fault of it
pub fault_in_room : (name : List ℕ) (cs : List (List ℕ × ℕ))
    → with_fault name (with_room name cs) ≡ with_fault name cs
fault_in_room name cs = grind (arith, common_steps, fault_behind name cs)

count_behind : (n name : List ℕ) (cs : List (List ℕ × ℕ))
    → count_of n (cs ++ (name, 0) ∷ []) ≡ count_of n cs
count_behind n name [] = grind (arith, common_steps)
count_behind n name (c ∷ cs) = grind (arith, common_steps, count_behind n name cs)

-- room for a name changes no count
pub count_in_room : (n name : List ℕ) (cs : List (List ℕ × ℕ))
    → count_of n (with_room name cs) ≡ count_of n cs
count_in_room n name cs = grind (arith, common_steps, count_behind n name cs)

-- the count of the name that failed rises
pub count_rises : (name : List ℕ) (cs : List (List ℕ × ℕ))
    → count_of name (with_fault name cs) ≡ raised (count_of name cs)
count_rises name [] = grind (arith, common_steps, is_own name)
count_rises name (c ∷ cs) = grind (arith, common_steps, count_rises name cs)

-- the count of another name stays
pub other_stays : (n name : List ℕ) (cs : List (List ℕ × ℕ))
    → n ≢ name → count_of n (with_fault name cs) ≡ count_of n cs
other_stays n name [] other = grind (arith, common_steps, bytes_eq-Decides name n)
other_stays n name (c ∷ cs) other =
    grind (arith, common_steps, other_stays n name cs other, bytes_eq-Decides c.0 name, bytes_eq-Decides c.0 n)

-- no count falls
pub count_later : (n name : List ℕ) (cs : List (List ℕ × ℕ))
    → count_of n cs ≤ 2 ^ 64 - 1 → count_of n cs ≤ count_of n (with_fault name cs)
count_later n name [] fits = grind (arith, common_steps)
count_later n name (c ∷ cs) fits = grind (arith, common_steps, count_later n name cs)

-- no count passes the last value
pub count_bounded : (n name : List ℕ) (cs : List (List ℕ × ℕ))
    → count_of n cs ≤ 2 ^ 64 - 1 → count_of n (with_fault name cs) ≤ 2 ^ 64 - 1
count_bounded n name [] fits = grind (arith, common_steps)
count_bounded n name (c ∷ cs) fits = grind (arith, common_steps, count_bounded n name cs)

-- a kept count is one of 64 bits
pub kept_fits : (n : List ℕ) (xs : List FaultCount) → count_of n (map shown xs) ≤ 2 ^ 64 - 1
kept_fits n [] = grind (arith, common_steps)
kept_fits n (x ∷ xs) = grind (arith, common_steps, kept_fits n xs, x.fits)

-- what one more fault of the name does to the counts
pub record OneFault (name : List ℕ) (old new : List (List ℕ × ℕ)) : Type 0 where
  pub rose : Rose (count_of name old) (count_of name new)
  pub later : (n : List ℕ) → count_of n old ≤ count_of n new
  pub others : (n : List ℕ) → n ≢ name → count_of n new ≡ count_of n old
  pub bounded : AreBounded new

pub one_fault : (name : List ℕ) (old new : List (List ℕ × ℕ))
    → AreBounded old → new ≡ with_fault name old → OneFault name old new
one_fault name old new fits is = rw is record {
  rose = rw count_rises (omega arith);
  later = λ n. count_later n name old (fits n);
  others = λ n other. other_stays n name old other;
  bounded = λ n. count_bounded n name old (fits n);
}

-- no count has fallen, and none has changed but that of the name
pub record Settles (name : List ℕ) (old new : List (List ℕ × ℕ)) : Type 0 where
  pub later : (n : List ℕ) → count_of n old ≤ count_of n new
  pub others : (n : List ℕ) → n ≢ name → count_of n new ≡ count_of n old

-- after room for the name, and one more fault of it or none
pub settled : (name : List ℕ) (old roomy new : List (List ℕ × ℕ))
    → AreBounded old → roomy ≡ with_room name old
    → (new ≡ roomy) ⊎ (new ≡ with_fault name roomy) → Settles name old new
settled name old roomy new fits room (inl same) = rw (same, room) record {
  later = λ n. rw count_in_room (omega arith);
  others = λ n other. count_in_room n name old;
}
settled name old roomy new fits room (inr fault) = rw (fault, room, fault_in_room) record {
  later = λ n. count_later n name old (fits n);
  others = λ n. other_stays n name old;
}
