-- Laws of the ends of numbers.
use Rattle.std.proofs.Common.{◌≡◌, ℤ, pos, negsuc, ◌*ℤ◌, ◌≤ℤ◌, refl, sym, ap, Bool, false, arith}
use Rattle.std.specs.Prelude.{int_lt, if◌then◌else◌}
use Rattle.std.proofs.lemmas.Int.{ints}
use Rattle.state_values.specs.declared.interval.Interval.{Interval}
use Rattle.state_values.specs.steps.Ends.{multiple_ends}

-- a number from 0 on is not below 0
not_below : (k : ℤ) → pos 0 ≤ℤ k → int_lt k (pos 0) ≡ false
not_below k above = grind (arith, ints)

-- a factor below 0 turns the ends round
pub multiple_turns : (k : ℤ) (a : Interval) → multiple_ends k a
    ≡ (if int_lt k (pos 0) then (record { low = k *ℤ a.high; high = k *ℤ a.low }) else (record { low = k *ℤ a.low; high = k *ℤ a.high }))
multiple_turns (pos k) a =
    ap (λ (b : Bool). if b then (record { low = pos k *ℤ a.high; high = pos k *ℤ a.low }) else (record { low = pos k *ℤ a.low; high = pos k *ℤ a.high }))
    (sym (not_below (pos k) (omega (arith, ints))))
multiple_turns (negsuc k) a = refl
