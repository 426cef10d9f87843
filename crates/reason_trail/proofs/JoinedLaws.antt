-- What all that a state says supports, its joined descriptions support.
use Rattle.std.proofs.Common.{◌≡◌, ℕ, suc, ◌<◌, ◌+◌, Bool, List, [], ◌∷◌, refl, subst, arith}
use Rattle.std.specs.Prelude.{IsTrue}
use Rattle.std.specs.List.{list_all, flat_map, range_with_len}
use Rattle.base_laws.specs.Places.{IsAt}
use Rattle.base_laws.proofs.Ranges.{slice_get_range_with_len, range_with_len_lt}
use Rattle.config_value.specs.Literals.{has_literal}
use Rattle.state_space.specs.State.{number_made}
use Rattle.state_space.specs.Entails.{entails}
use Rattle.state_space.specs.Descriptions.{description}
use Rattle.state_space.proofs.DescriptionLists.{joined_all, flat_each}
use Rattle.state_space.proofs.DescriptionLaws.{description_is_entailed}
use Rattle.state_space.proofs.DescribedCovered.{described_is_covered}
use Rattle.reason_trail.specs.Joined.{HereIsWrittenOut}

-- lists that pass at each place of what they are made of pass one after the other
flat_from : {A B : Type 0} (p : A → Bool) (f : B → List A) (xs : List B) → ((k : ℕ) (x : B) → IsAt xs k x → IsTrue (list_all p (f x)))
    → IsTrue (list_all p (flat_map f xs))
flat_from p f [] each = refl
flat_from p f (x ∷ xs) each = joined_all p (f x) (flat_map f xs) (each 0 x refl) (flat_from p f xs (λ k. each (suc k)))

-- The instance of each number below the number of made ones is described among them.
at_number : (n i : ℕ) → i < n → IsAt (range_with_len 0 n) i i
at_number n i within = let e : 0 + i ≡ i = omega arith in subst (λ k. IsAt (range_with_len 0 n) i k) e (slice_get_range_with_len 0 n i within)

pub here_is_written_out : HereIsWrittenOut
here_is_written_out j s requests cut l valid state wide supports =
    let m = j.model in
    let numbers = range_with_len 0 (number_made s) in (
      λ c subject has. supports c subject
          (described_is_covered m s c valid state wide subject.satisfied
          (λ i within. flat_each (has_literal m c) (description m s) numbers has i i (at_number (number_made s) i within))),
      flat_from (entails m s) (description m s) numbers
          (λ k i at. (description_is_entailed m s i state (let lower = range_with_len_lt 0 (number_made s) k i at in omega arith)).all),
    )
