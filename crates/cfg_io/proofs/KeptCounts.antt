-- What a step on the kept counts does to the counts by name.
use Rattle.std.proofs.Common.{◌≡◌, ℕ, ◌<◌, List, [], ◌∷◌, ◌++◌, length, arith, refl, sym, true, false, ap, get_or, zero, suc, string_bytes, slice_set, nat_lt}
use Rattle.std.proofs.lemmas.Grind.{common_steps}
use Rattle.std.proofs.lemmas.List.{map-append}
use Rattle.std.proofs.lemmas.List.Quantifiers.{position-Some}
use Rattle.std.specs.Prelude.{map, position, is_some, Some, Option}
use Rattle.std.specs.Str.{bytes_eq}
use Rattle.std.specs.List.{position_or_len}
use Rattle.cfg_io.specs.declared.fault_counts.FaultCount.{FaultCount}
use Rattle.cfg_io.specs.Causes.{raised}
use Rattle.cfg_io.specs.Counts.{with_fault}
use Rattle.cfg_io.specs.steps.Counts.{is_kept, with_room}
use Rattle.cfg_io.specs.FaultCounts.{shown}

-- a name is kept where it has a place
pub is_kept_at : (name : List ℕ) (xs : List FaultCount)
    → is_kept name (map shown xs) ≡ nat_lt (position_or_len (λ c. bytes_eq (string_bytes c.name) name) xs) (length xs)
is_kept_at name [] = refl
is_kept_at name (x ∷ xs) = grind (arith, common_steps, is_kept_at name xs)

-- a write of one more at the first place of the name is one more fault of it
pub fault_at : (name : List ℕ) (xs : List FaultCount) (i : ℕ) (y d : FaultCount)
    → i < length xs → bytes_eq (string_bytes (get_or xs i d).name) name ≡ true
    → ((k : ℕ) → k < i → bytes_eq (string_bytes (get_or xs k d).name) name ≡ false)
    → shown y ≡ (string_bytes (get_or xs i d).name, raised (get_or xs i d).times)
    → map shown (slice_set xs i y) ≡ with_fault name (map shown xs)
fault_at name [] i y d h p q e = absurd (omega arith)
fault_at name (x ∷ xs) zero y d h p q e = grind (arith, common_steps)
fault_at name (x ∷ xs) (suc i) y d h p q e =
    let other : bytes_eq (string_bytes x.name) name ≡ false = q 0 (omega arith) in
    let behind = fault_at name xs i y d (omega arith) p (λ k l. q (suc k) (omega arith)) e in
    rw other (ap (λ ys. shown x ∷ ys) behind)

-- a place was found where the name is kept
pub kept_at : (name : List ℕ) (xs ys : List FaultCount) (r : Option ℕ)
    → ys ≡ xs → r ≡ position (λ c. bytes_eq (string_bytes c.name) name) ys → is_some r ≡ is_kept name (map shown xs)
kept_at name xs ys r same e = rw (← same) (grind (arith, common_steps, is_kept_at name ys))

-- where no place was found, one more count stands behind the others
pub room_behind : (name : List ℕ) (xs : List FaultCount) (y : FaultCount)
    → is_kept name (map shown xs) ≡ false
    → shown y ≡ (name, 0) → map shown (xs ++ y ∷ []) ≡ with_room name (map shown xs)
room_behind name xs y none e = rw (map-append, none, e) refl

-- one more at the place that was found is one more fault of the name
pub fault_at_place : (name : List ℕ) (xs ys : List FaultCount) (i : ℕ) (y d : FaultCount)
    → ys ≡ xs → Some i ≡ position (λ c. bytes_eq (string_bytes c.name) name) ys
    → shown y ≡ (string_bytes (get_or xs i d).name, raised (get_or xs i d).times)
    → map shown (slice_set xs i y) ≡ with_fault name (map shown xs)
fault_at_place name xs ys i y d same found e =
    let first = position-Some (λ c. bytes_eq (string_bytes c.name) name) xs i d (sym (rw same at found)) in
    fault_at name xs i y d first.0 first.1 first.2 e

-- a name that is kept has room
pub room_kept : (name : List ℕ) (counts : List (List ℕ × ℕ))
    → is_kept name counts ≡ true → counts ≡ with_room name counts
room_kept name counts kept = rw kept refl
