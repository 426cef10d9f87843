-- Lists with the element at one place changed, and lists side by side.
use Rattle.std.proofs.Common.{◌≡◌, ◌≢◌, ℕ, zero, suc, ◌-◌, List, [], ◌∷◌, length, refl, ap, sym, ◌∙◌, Some, arith}
use Rattle.std.proofs.lemmas.Option.{same_Some, none-some}
use Rattle.std.specs.Prelude.{slice_get}
use Rattle.std.specs.Option.{option_map}
use Rattle.std.specs.List.{zip, last_or}
use Rattle.base_laws.specs.Places.{IsAt}
use Rattle.state_space.specs.State.{changed_at}

module _ {X : Type 0} where
  pub length-changed_at : (i : ℕ) (f : X → X) (xs : List X) → length (changed_at i f xs) ≡ length xs
  length-changed_at i f [] = refl
  length-changed_at zero f (x ∷ xs) = refl
  length-changed_at (suc i) f (x ∷ xs) = ap suc (length-changed_at i f xs)

  -- at the place stands what f makes of the element that stood there
  pub slice_get-changed_at_same : (i : ℕ) (f : X → X) (xs : List X) → slice_get (changed_at i f xs) i ≡ option_map f (slice_get xs i)
  slice_get-changed_at_same i f [] = refl
  slice_get-changed_at_same zero f (x ∷ xs) = refl
  slice_get-changed_at_same (suc i) f (x ∷ xs) = slice_get-changed_at_same i f xs

  -- at every other place what stood there
  pub slice_get-changed_at_other : (i k : ℕ) (f : X → X) (xs : List X) → k ≢ i → slice_get (changed_at i f xs) k ≡ slice_get xs k
  slice_get-changed_at_other i k f [] other = refl
  slice_get-changed_at_other zero zero f (x ∷ xs) other = absurd (other refl)
  slice_get-changed_at_other zero (suc k) f (x ∷ xs) other = refl
  slice_get-changed_at_other (suc i) zero f (x ∷ xs) other = refl
  slice_get-changed_at_other (suc i) (suc k) f (x ∷ xs) other = slice_get-changed_at_other i k f xs (λ same. other (ap suc same))

  -- changed twice at one place
  pub changed_at-changed_at : (i : ℕ) (f g : X → X) (xs : List X) → changed_at i g (changed_at i f xs) ≡ changed_at i (λ x. g (f x)) xs
  changed_at-changed_at i f g [] = refl
  changed_at-changed_at zero f g (x ∷ xs) = refl
  changed_at-changed_at (suc i) f g (x ∷ xs) = ap (λ ys. x ∷ ys) (changed_at-changed_at i f g xs)

  -- changed to what stands there already
  pub changed_at-same : (i : ℕ) (f : X → X) (xs : List X) → ((x : X) → slice_get xs i ≡ Some x → f x ≡ x) → changed_at i f xs ≡ xs
  changed_at-same i f [] same = refl
  changed_at-same zero f (x ∷ xs) same = ap (λ y. y ∷ xs) (same x refl)
  changed_at-same (suc i) f (x ∷ xs) same = ap (λ ys. x ∷ ys) (changed_at-same i f xs same)

module _ {X Y : Type 0} where
  -- two elements side by side stand at that place of their lists
  pub zip_at : (xs : List X) (ys : List Y) (k : ℕ) (e : X × Y) → IsAt (zip xs ys) k e → IsAt xs k e.0 × IsAt ys k e.1
  zip_at [] ys k e at = absurd (none-some e at)
  zip_at (x ∷ xs) [] k e at = absurd (none-some e at)
  zip_at (x ∷ xs) (y ∷ ys) zero e at = let same = same_Some (x, y) e at in (ap (λ p. Some p.0) same, ap (λ p. Some p.1) same)
  zip_at (x ∷ xs) (y ∷ ys) (suc k) e at = zip_at xs ys k e at

-- the element at the last place is the last one
pub last_read : {X : Type 0} (x : X) (xs : List X) (y : X) → slice_get xs (length xs - 1) ≡ Some y → last_or (Some x) xs ≡ Some y
last_read x [] y at = absurd (none-some y at)
last_read x (z ∷ []) y at = at
last_read x (z ∷ w ∷ ws) y at =
    let here : suc (suc (length ws)) - 1 ≡ suc (length ws) = omega arith in
    let next : suc (length ws) - 1 ≡ length ws = omega arith in
    last_read z (w ∷ ws) y (ap (λ n. slice_get (w ∷ ws) n) next ∙ (ap (λ n. slice_get (z ∷ w ∷ ws) n) (sym here) ∙ at))
