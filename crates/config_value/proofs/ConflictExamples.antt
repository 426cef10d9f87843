-- Sets of requests in their order, conflicts, and a preferred one, worked out.
use Rattle.std.specs.Prelude.{◌≡◌, ◌≢◌, ℕ, zero, suc, true, false, Bool, List, [], ◌∷◌, drop, slice_get, Some, refl}
use Rattle.std.proofs.Common.{◌∙◌, sym}
use Rattle.config_value.specs.Conflict.{IsAntilexSmaller, IsProperPart}

-- ---- sets of the requests few, strong and small

abbrev nothing : List Bool
nothing = false ∷ false ∷ false ∷ []

abbrev few : List Bool
few = true ∷ false ∷ false ∷ []

abbrev strong : List Bool
strong = false ∷ true ∷ false ∷ []

abbrev few_strong : List Bool
few_strong = true ∷ true ∷ false ∷ []

abbrev small : List Bool
small = false ∷ false ∷ true ∷ []

abbrev few_small : List Bool
few_small = true ∷ false ∷ true ∷ []

abbrev strong_small : List Bool
strong_small = false ∷ true ∷ true ∷ []

abbrev all : List Bool
all = true ∷ true ∷ true ∷ []

-- Each of these eight is smaller than the next one.
nothing_few : IsAntilexSmaller nothing few
nothing_few = record { request = 0; left_out = refl; kept = refl; alike_after = refl }

few_before_strong : IsAntilexSmaller few strong
few_before_strong = record { request = 1; left_out = refl; kept = refl; alike_after = refl }

strong_before_few_strong : IsAntilexSmaller strong few_strong
strong_before_few_strong = record { request = 0; left_out = refl; kept = refl; alike_after = refl }

few_strong_before_small : IsAntilexSmaller few_strong small
few_strong_before_small = record { request = 2; left_out = refl; kept = refl; alike_after = refl }

small_before_few_small : IsAntilexSmaller small few_small
small_before_few_small = record { request = 0; left_out = refl; kept = refl; alike_after = refl }

few_small_before_strong_small : IsAntilexSmaller few_small strong_small
few_small_before_strong_small = record { request = 1; left_out = refl; kept = refl; alike_after = refl }

strong_small_before_all : IsAntilexSmaller strong_small all
strong_small_before_all = record { request = 0; left_out = refl; kept = refl; alike_after = refl }

-- Without small it is smaller than with it, whatever else is in them.
few_strong_before_few_small : IsAntilexSmaller few_strong few_small
few_strong_before_few_small = record { request = 2; left_out = refl; kept = refl; alike_after = refl }

few_strong_before_strong_small : IsAntilexSmaller few_strong strong_small
few_strong_before_strong_small = record { request = 2; left_out = refl; kept = refl; alike_after = refl }

few_strong_before_all : IsAntilexSmaller few_strong all
few_strong_before_all = record { request = 2; left_out = refl; kept = refl; alike_after = refl }

nothing_before_all : IsAntilexSmaller nothing all
nothing_before_all = record { request = 2; left_out = refl; kept = refl; alike_after = refl }

-- The reverse doesn't hold: small would have to be in the one that leaves it out.
few_small_not_before_few_strong : ¬ IsAntilexSmaller few_small few_strong
few_small_not_before_few_strong r = at r.request r.left_out r.kept r.alike_after
  where
    at : (k : ℕ) → slice_get few_small k ≡ Some false → slice_get few_strong k ≡ Some true → drop (suc k) few_small ≡ drop (suc k) few_strong → ⊥
    at zero out in_ after = cc
    at (suc zero) out in_ after = cc
    at (suc (suc zero)) out in_ after = cc
    at (suc (suc (suc k))) out in_ after = cc

strong_small_not_before_few_strong : ¬ IsAntilexSmaller strong_small few_strong
strong_small_not_before_few_strong r = at r.request r.left_out r.kept r.alike_after
  where
    at : (k : ℕ) → slice_get strong_small k ≡ Some false → slice_get few_strong k ≡ Some true → drop (suc k) strong_small ≡ drop (suc k) few_strong → ⊥
    at zero out in_ after = cc
    at (suc zero) out in_ after = cc
    at (suc (suc zero)) out in_ after = cc
    at (suc (suc (suc k))) out in_ after = cc

-- Nothing is left out of all three.
none_after_all : (y : List Bool) → ¬ IsAntilexSmaller all y
none_after_all y r = at r.request r.left_out
  where
    at : (k : ℕ) → slice_get all k ≡ Some false → ⊥
    at zero out = cc
    at (suc zero) out = cc
    at (suc (suc zero)) out = cc
    at (suc (suc (suc k))) out = cc

-- Nothing is smaller than the empty set.
none_before_nothing : (x : List Bool) → ¬ IsAntilexSmaller x nothing
none_before_nothing x r = at r.request r.kept
  where
    at : (k : ℕ) → slice_get nothing k ≡ Some true → ⊥
    at zero in_ = cc
    at (suc zero) in_ = cc
    at (suc (suc zero)) in_ = cc
    at (suc (suc (suc k))) in_ = cc

-- No set is smaller than itself.
not_before_itself : (x : List Bool) → ¬ IsAntilexSmaller x x
not_before_itself x r = absurd (at (sym r.left_out ∙ r.kept))
  where
    at : Some false ≡ Some true → ⊥
    at same = cc

-- ---- parts

-- few is a proper part of few and strong; these aren't of themselves, nor is small.
few_within : IsProperPart few few_strong
few_within = record { each_request = refl; within = within; others = others }
  where
    within : (k : ℕ) → slice_get few k ≡ Some true → slice_get few_strong k ≡ Some true
    within zero kept = refl
    within (suc zero) kept = refl
    within (suc (suc zero)) kept = cc
    within (suc (suc (suc k))) kept = cc

    others : few ≢ few_strong
    others same = cc

not_within_itself : ¬ IsProperPart few_strong few_strong
not_within_itself part = part.others refl

small_not_within : ¬ IsProperPart small few_strong
small_not_within part = at (part.within 2 refl)
  where
    at : Some false ≡ Some true → ⊥
    at same = cc
