-- The first element of a list that passes a test: what `find` and `position` tell of it.
use Rattle.std.proofs.Common.{◌≡◌, ℕ, zero, suc, ◌<◌, ◌+◌, Bool, true, false, cond, List, [], ◌∷◌, length, get_or, Some, None, Option, refl, sym, ap, ◌∙◌, arith}
use Rattle.std.specs.List.{find, position, position_from}
use Rattle.std.proofs.lemmas.Bool.{cases_Bool, false≢true}
use Rattle.std.proofs.lemmas.Option.{same_Some, none-some, slice_get-get_or, get_or_from_slice_get}
use Rattle.std.proofs.lemmas.Iterator.Adapters.{position_from-zero}
use Rattle.std.proofs.lemmas.List.Quantifiers.{position-Some}
use Rattle.std.proofs.Common.{inl, inr}
use Rattle.base_laws.specs.Places.{IsAt}

-- x stands at place n and passes, and none before it does
pub record IsFirstPassing {A : Type 0} (p : A → Bool) (xs : List A) (n : ℕ) (x : A) : Type 0 where
  pub there : IsAt xs n x
  pub passes : p x ≡ true
  pub none_lower : (k : ℕ) (y : A) → k < n → IsAt xs k y → p y ≡ false

module _ {A : Type 0} (p : A → Bool) where
  -- what is found is the first to pass
  pub found_first : (xs : List A) (x : A) → find p xs ≡ Some x → (n : ℕ) × IsFirstPassing p xs n x
  found_first [] x found = absurd (none-some x found)
  found_first (z ∷ xs) x found = by (p z) refl found (λ more. found_first xs x more)
    where
      by : (b : Bool) → p z ≡ b → cond b (Some z) (find p xs) ≡ Some x → (find p xs ≡ Some x → (n : ℕ) × IsFirstPassing p xs n x)
          → (n : ℕ) × IsFirstPassing p (z ∷ xs) n x
      by true is here rest = (0, record { there = here; passes = ap p (sym (same_Some z x here)) ∙ is; none_lower = λ k y lower at. absurd (omega arith) })
      by false is more rest =
          let first = rest more in
          let lower : (k : ℕ) (y : A) → k < suc first.0 → IsAt (z ∷ xs) k y → p y ≡ false = later is first.0 first.1 in
          (suc first.0, record { there = first.1.there; passes = first.1.passes; none_lower = lower })
        where
          later : p z ≡ false → (n : ℕ) → IsFirstPassing p xs n x → (k : ℕ) (y : A) → k < suc n → IsAt (z ∷ xs) k y → p y ≡ false
          later fails n first zero y lower at = ap p (sym (same_Some z y at)) ∙ fails
          later fails n first (suc k) y lower at = first.none_lower k y (omega arith) at

  -- what is the first to pass is found
  pub first_found : (xs : List A) (n : ℕ) (x : A) → IsFirstPassing p xs n x → find p xs ≡ Some x
  first_found [] n x first = absurd (none-some x first.there)
  first_found (z ∷ xs) zero x first =
      let same = same_Some z x first.there in
      ap (λ b. cond b (Some z) (find p xs)) (ap p same ∙ first.passes) ∙ ap Some same
  first_found (z ∷ xs) (suc n) x first =
      ap (λ b. cond b (Some z) (find p xs)) (first.none_lower 0 z (omega arith) refl)
      ∙ first_found xs n x (record { there = first.there; passes = first.passes; none_lower = λ k y lower. first.none_lower (suc k) y (omega arith) })

  -- and its place is the position
  first_from : (xs : List A) (n : ℕ) (x : A) → IsFirstPassing p xs n x → (i : ℕ) → position_from p i xs ≡ Some (i + n)
  first_from [] n x first i = absurd (none-some x first.there)
  first_from (z ∷ xs) zero x first i =
      ap (λ b. cond b (Some i) (position_from p (i + 1) xs)) (ap p (same_Some z x first.there) ∙ first.passes) ∙ ap Some (omega arith)
  first_from (z ∷ xs) (suc n) x first i =
      ap (λ b. cond b (Some i) (position_from p (i + 1) xs)) (first.none_lower 0 z (omega arith) refl)
      ∙ first_from xs n x (record { there = first.there; passes = first.passes; none_lower = λ k y lower. first.none_lower (suc k) y (omega arith) }) (i + 1)
      ∙ ap Some (omega arith)

  pub first_position : (xs : List A) (n : ℕ) (x : A) → IsFirstPassing p xs n x → position p xs ≡ Some n
  first_position xs n x first = position_from-zero p xs ∙ first_from xs n x first 0 ∙ ap Some (omega arith)

  -- at the position stands the first to pass
  pub position_first : (xs : List A) (n : ℕ) → position p xs ≡ Some n → (x : A) × IsFirstPassing p xs n x
  position_first [] n found = absurd (none-some n found)
  position_first (d ∷ xs) n found =
      let first = position-Some p (d ∷ xs) n d found in (
        get_or (d ∷ xs) n d,
        record {
          there = slice_get-get_or (d ∷ xs) n d first.0;
          passes = first.1;
          none_lower = λ k y lower at. ap p (sym (get_or_from_slice_get (d ∷ xs) k y d at)) ∙ first.2 k lower;
        },
      )
