-- Sums of whole numbers, one element after another.
use Rattle.std.proofs.Common.{◌≡◌, ℕ, ℤ, pos, ◌+ℤ◌, ◌+◌, ◌<◌, ◌∙◌, ap, sym, cond, Bool, true, false, List, [], ◌∷◌, map, take, length, get_or, Some, refl, arith}
use Rattle.std.specs.Prelude.{slice_get}
use Rattle.std.specs.List.{fold, filter}
use Rattle.std.proofs.lemmas.Int.{ints}
use Rattle.std.proofs.lemmas.Option.{slice_get-get_or}
use Rattle.std.proofs.lemmas.List.Folds.{fold-map}
use Rattle.prod_model.specs.ExprBounds.{sum_of}
use Rattle.base_laws.proofs.Steps.{fold_next}

module _ {X : Type 0} (f : X → ℤ) where
  sum_fold : (xs : List X) → sum_of (map f xs) ≡ fold (λ b x. b +ℤ f x) (pos 0) xs
  sum_fold xs = fold-map ◌+ℤ◌ f (pos 0) xs

  pub sum_next : (xs : List X) (k : ℕ) (x : X) → slice_get xs k ≡ Some x → sum_of (map f (take (k + 1) xs)) ≡ (sum_of (map f (take k xs)) +ℤ f x)
  sum_next xs k x at =
      sum_fold (take (k + 1) xs) ∙ fold_next (λ b y. b +ℤ f y) (pos 0) xs k x at ∙ ap (λ b. b +ℤ f x) (sym (sum_fold (take k xs)))

  pub sum_more : (xs : List X) (k : ℕ) (d : X) → k < length xs → sum_of (map f (take (k + 1) xs)) ≡ (sum_of (map f (take k xs)) +ℤ f (get_or xs k d))
  sum_more xs k d within = sum_next xs k (get_or xs k d) (slice_get-get_or xs k d within)

module _ {X : Type 0} (p : X → Bool) (f : X → ℤ) where
  step : (a : ℤ) (x : X) (b : Bool) (passed : List X) (all : List ℤ) → ((n : ℤ) → fold ◌+ℤ◌ n (map f passed) ≡ fold ◌+ℤ◌ n all)
      → fold ◌+ℤ◌ a (map f (cond b (x ∷ passed) passed)) ≡ fold ◌+ℤ◌ (a +ℤ cond b (f x) (pos 0)) all
  step a x true passed all rest = rest (a +ℤ f x)
  step a x false passed all rest = rest a ∙ ap (λ n. fold ◌+ℤ◌ n all) (omega (arith, ints))

  sum_filtered_from : (xs : List X) (a : ℤ) → fold ◌+ℤ◌ a (map f (filter p xs)) ≡ fold ◌+ℤ◌ a (map (λ x. cond (p x) (f x) (pos 0)) xs)
  sum_filtered_from [] a = refl
  sum_filtered_from (x ∷ xs) a = step a x (p x) (filter p xs) (map (λ y. cond (p y) (f y) (pos 0)) xs) (sum_filtered_from xs)

  -- the sum over the elements that pass is one over all, where the others count as 0
  pub sum_filtered : (xs : List X) → sum_of (map f (filter p xs)) ≡ sum_of (map (λ x. cond (p x) (f x) (pos 0)) xs)
  sum_filtered xs = sum_filtered_from xs (pos 0)
