-- Masks of requests.
use Rattle.std.proofs.Common.{◌≡◌, ℕ, zero, suc, ◌+◌, ◌<◌, ◌≤◌, ◌^◌, ◌↔◌, Bool, true, false, not, ◌&&◌, ◌||◌, List, [], ◌∷◌, length, refl, ap, ap₂, sym, ◌∙◌, subst, arith, zero-add, ltb-true}
use Rattle.std.proofs.lemmas.Bool.{false≢true}
use Rattle.std.specs.Prelude.{IsTrue, nat_lt, slice_index_or, Some}
use Rattle.std.specs.List.{list_all, enumerate_from, range_with_len}
use Rattle.std.proofs.lemmas.Bool.Decides.{nat_tests}
use Rattle.std.proofs.lemmas.Nat.Bits.{bit_at_above}
use Rattle.std.proofs.lemmas.Option.{get_or_from_slice_get}
use Rattle.base_laws.specs.Places.{IsAt}
use Rattle.base_laws.proofs.Ranges.{list_all_below}
use Rattle.base_laws.proofs.Tests.{list_all_from}
use Rattle.prod_model.specs.declared.model.Model.{Model}
use Rattle.prod_model.specs.declared.model.Order.{Order}
use Rattle.prod_model.specs.declared.model.Request.{Request}
use Rattle.config_value.specs.declared.configuration.Instance.{Instance}
use Rattle.config_value.specs.Satisfies.{meets}
use Rattle.literal_book.specs.declared.nogood.Nogood.{Nogood}
use Rattle.literal_book.specs.Nogoods.{asks_for, has_literals, excludes}

-- a mask of 64 bits has no higher ones
pub asks_above : (mask k : ℕ) → mask < 2 ^ 64 → 64 ≤ k → nat_lt k 64 ≡ asks_for mask k
asks_above mask k fits past = rw (bit_at_above mask 64 k fits past) (grind (arith, nat_tests))

-- ---- what is kept

-- where a list of truths has a true one
read_true : (keep : List Bool) (k : ℕ) → slice_index_or keep k false ≡ true → IsAt keep k true
read_true [] k is = absurd (false≢true is)
read_true (b ∷ bs) zero is = ap Some is
read_true (b ∷ bs) (suc k) is = read_true bs k is

-- what passes of two of which the first one holds
second : (a b : Bool) → (not a || b) ≡ true → a ≡ true → b ≡ true
second true b passes holds = passes
second false b passes holds = absurd (false≢true holds)

either : (a b : Bool) → (a ≡ true → b ≡ true) → (not a || b) ≡ true
either true b follows = follows refl
either false b follows = refl

-- each request of a mask is kept where those below 64 are
pub kept_tells : (mask : ℕ) (keep : List Bool) → mask < 2 ^ 64
    → IsTrue (list_all (λ k. not (asks_for mask k) || slice_index_or keep k false) (range_with_len 0 64)) ↔ ((k : ℕ) → IsTrue (asks_for mask k) → IsAt keep k true)
kept_tells mask keep fits = (
  λ all k asked.
      let within : k < 64 = low k (k_below k asked) in
      let passes : (not (asks_for mask (0 + k)) || slice_index_or keep (0 + k) false) ≡ true =
      list_all_below (λ k. not (asks_for mask k) || slice_index_or keep k false) 0 64 k all within in
      read_true keep k (second (asks_for mask k) (slice_index_or keep k false)
      (subst (λ j. (not (asks_for mask j) || slice_index_or keep j false) ≡ true) (zero-add k) passes) asked),
  λ each. list_all_from (λ k. not (asks_for mask k) || slice_index_or keep k false) (range_with_len 0 64) (λ j k at.
      either (asks_for mask k) (slice_index_or keep k false) (λ asked. get_or_from_slice_get keep k true false (each k asked))),
)
  where
    low : (k : ℕ) → nat_lt k 64 ≡ true → k < 64
    low k is = ltb-true k 64 is

    k_below : (k : ℕ) → IsTrue (asks_for mask k) → nat_lt k 64 ≡ true
    k_below k asked = by (nat_lt k 64) refl
      where
        by : (b : Bool) → nat_lt k 64 ≡ b → b ≡ true
        by true is = refl
        by false is = let past : 64 ≤ k = grind (arith, nat_tests, is) in sym is ∙ (asks_above mask k fits past ∙ asked)

-- ---- what is met

met_from : (m : Model) (c : List Instance) (asked met a : ℕ) (rs : List Request) → ((k : ℕ) (r : Request) → IsAt rs k r → asks_for met (a + k) ≡ meets m c r)
    → list_all (λ k. not (asks_for asked k) || asks_for met k) (range_with_len a (length rs))
    ≡ list_all (λ e. not (asks_for asked e.0) || meets m c e.1) (enumerate_from a rs)
met_from m c asked met a [] each = refl
met_from m c asked met a (r ∷ rs) each =
    let first : asks_for met a ≡ meets m c r = subst (λ j. asks_for met j ≡ meets m c r) (let e : a + 0 ≡ a = omega arith in e) (each 0 r refl) in
    ap₂ (λ a b. a && b) (ap (λ b. not (asks_for asked a) || b) first)
    (met_from m c asked met (a + 1) rs (λ k s at. subst (λ j. asks_for met j ≡ meets m c s) (let e : a + suc k ≡ a + 1 + k = omega arith in e) (each (suc k) s at)))

-- a nogood excludes what meets what it asks for, where its literals hold
pub excludes_is : (m : Model) (o : Order) (n : Nogood) (c : List Instance) (met : ℕ) → ((k : ℕ) (r : Request) → IsAt o.requests k r → asks_for met k ≡ meets m c r)
    → (list_all (λ k. not (asks_for n.requests k) || asks_for met k) (range_with_len 0 (length o.requests)) && has_literals m c n.literals) ≡ excludes m o n c
unfolding excludes
excludes_is m o n c met each =
    ap (λ b. b && has_literals m c n.literals)
    (met_from m c n.requests met 0 o.requests (λ k r at. subst (λ j. asks_for met j ≡ meets m c r) (sym (zero-add k)) (each k r at)))
