-- Narrowings to a range with one open end, or with one number.
use Rattle.std.proofs.Common.{◌≡◌, ◌∙◌, ap, ap₂, ℤ, ◌&&◌, arith, List}
use Rattle.std.specs.Prelude.{int_le, ◌≤ℤ◌}
use Rattle.std.specs.Ordering.{int_eq}
use Rattle.std.proofs.lemmas.Int.{ints}
use Rattle.domain_store.specs.declared.change.Change.{Change}
use Rattle.domain_store.specs.declared.interval.Interval.{Interval}
use Rattle.domain_store.specs.Intervals.{is_inside, is_in_one, IsLeastNumber, IsGreatestNumber, NarrowsNumbers}
use Rattle.domain_store.proofs.Narrowing.{alike}

from_low : (a n v : ℤ) → a ≤ℤ v → (int_le a v && int_le v n) ≡ int_le v n
from_low a n v from = grind (arith, ints)

to_high : (a n v : ℤ) → v ≤ℤ a → (int_le n v && int_le v a) ≡ int_le n v
to_high a n v to = grind (arith, ints)

one_number : (n v : ℤ) → (int_le n v && int_le v n) ≡ int_eq v n
one_number n v = grind (arith, ints)

-- the ends may be shown in another form, as a cast shows them
module _ (old new : List Interval) (result : Change) where
  pub up_to : (low n low' n' : ℤ) → low' ≡ low → n' ≡ n → IsLeastNumber old low
      → NarrowsNumbers (is_inside (record { low = low'; high = n' })) result old new → NarrowsNumbers (λ v. int_le v n) result old new
  up_to low n low' n' same_low same_n least =
      alike is_in_one (is_inside (record { low = low'; high = n' })) old new (λ v. int_le v n) result
      (λ v there. ap₂ (λ a b. int_le a v && int_le v b) same_low same_n ∙ from_low low n v (least.1 v there))

  pub from_on : (n high n' high' : ℤ) → n' ≡ n → high' ≡ high → IsGreatestNumber old high
      → NarrowsNumbers (is_inside (record { low = n'; high = high' })) result old new → NarrowsNumbers (λ v. int_le n v) result old new
  from_on n high n' high' same_n same_high greatest =
      alike is_in_one (is_inside (record { low = n'; high = high' })) old new (λ v. int_le n v) result
      (λ v there. ap₂ (λ a b. int_le a v && int_le v b) same_n same_high ∙ to_high high n v (greatest.1 v there))

  pub alone : (n n' : ℤ) → n' ≡ n
      → NarrowsNumbers (is_inside (record { low = n'; high = n' })) result old new → NarrowsNumbers (λ v. int_eq v n) result old new
  alone n n' same =
      alike is_in_one (is_inside (record { low = n'; high = n' })) old new (λ v. int_eq v n) result
      (λ v there. ap (λ a. int_le a v && int_le v a) same ∙ one_number n v)
