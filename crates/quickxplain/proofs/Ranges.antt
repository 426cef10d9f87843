-- Sets that are filled in a range of places, and the order on sets place by place.
use Rattle.std.proofs.Common.{◌≡◌, ℕ, zero, suc, ◌+◌, ◌-◌, ◌<◌, ◌≤◌, List, [], ◌∷◌, refl, ap, subst, sym, ◌∙◌, ◌⊎◌, inl, inr, arith, length, slice_get, drop, set, Some, zero-add, suc-add}
use Rattle.std.specs.Prelude.{Bool, true, false, cond}
use Rattle.std.proofs.lemmas.List.Sums.{sum_by-cons}
use Rattle.config_value.specs.Conflict.{IsAntilexSmaller}
use Rattle.quickxplain.specs.steps.Ranges.{fill, kept_count, AgreeOutside, KeepsAll}

-- ---- lists, place by place

-- lists that have the same at each place are equal
pub same_places : {A : Type 0} (xs ys : List A) → ((k : ℕ) → slice_get xs k ≡ slice_get ys k) → xs ≡ ys
same_places [] [] h = refl
same_places [] (y ∷ ys) h = absurd (let e = h 0 in cc)
same_places (x ∷ xs) [] h = absurd (let e = h 0 in cc)
same_places (x ∷ xs) (y ∷ ys) h =
    let head : x ≡ y = (let e = h 0 in cc) in
    let rest = same_places xs ys (λ k. h (suc k)) in
    λ i. head i ∷ rest i

-- the places of a rest are those further on
pub slice_get-drop : {A : Type 0} (n : ℕ) (xs : List A) (k : ℕ) → slice_get (drop n xs) k ≡ slice_get xs (n + k)
slice_get-drop zero xs k = rw (zero-add k) refl
slice_get-drop (suc n) [] k = refl
slice_get-drop (suc n) (x ∷ xs) k = slice_get-drop n xs k ∙ sym (ap (slice_get (x ∷ xs)) (suc-add n k))

-- ---- the antilex order, place by place

pub further_alike : (x y : List Bool) (s : IsAntilexSmaller x y) (j : ℕ) → s.request < j → slice_get x j ≡ slice_get y j
further_alike x y s j h =
    let at : suc s.request + (j - suc s.request) ≡ j = omega (arith, h) in
    subst (λ k. slice_get x k ≡ slice_get y k) at
    (sym (slice_get-drop (suc s.request) x (j - suc s.request)) ∙ ap (λ r. slice_get r (j - suc s.request)) s.alike_after
    ∙ slice_get-drop (suc s.request) y (j - suc s.request))

pub smaller_by_places : (x y : List Bool) (k : ℕ) → slice_get x k ≡ Some false → slice_get y k ≡ Some true
    → ((j : ℕ) → k < j → slice_get x j ≡ slice_get y j) → IsAntilexSmaller x y
smaller_by_places x y k out in_ alike = record {
  request = k;
  left_out = out;
  kept = in_;
  alike_after = same_places (drop (suc k) x) (drop (suc k) y) (λ i.
      slice_get-drop (suc k) x i ∙ alike (suc k + i) (omega arith) ∙ sym (slice_get-drop (suc k) y i));
}

-- ---- what filling does

lower_place : (from to k : ℕ) → (suc k < suc from) ⊎ (suc to ≤ suc k) → (k < from) ⊎ (to ≤ k)
lower_place from to k (inl h) = inl (omega (arith, h))
lower_place from to k (inr h) = inr (omega (arith, h))

lower_end : (to k : ℕ) → (suc k < 0) ⊎ (suc to ≤ suc k) → (k < 0) ⊎ (to ≤ k)
lower_end to k (inl h) = absurd (omega (arith, h))
lower_end to k (inr h) = inr (omega (arith, h))

not_first : (to : ℕ) → (0 < 0) ⊎ (suc to ≤ 0) → ⊥
not_first to (inl h) = omega (arith, h)
not_first to (inr h) = omega (arith, h)

-- other places stay
pub fill-outside : (from to : ℕ) (b : Bool) (x : List Bool) → AgreeOutside from to x (fill from to b x)
unfolding fill
fill-outside from to b [] k h = refl
fill-outside (suc from) (suc to) b (x ∷ xs) zero h = refl
fill-outside (suc from) (suc to) b (x ∷ xs) (suc k) h = fill-outside from to b xs k (lower_place from to k h)
fill-outside (suc from) zero b (x ∷ xs) k h = refl
fill-outside zero (suc to) b (x ∷ xs) zero h = absurd (not_first to h)
fill-outside zero (suc to) b (x ∷ xs) (suc k) h = fill-outside zero to b xs k (lower_end to k h)
fill-outside zero zero b (x ∷ xs) k h = refl

-- the places have what they are filled with
pub fill-inside : (from to : ℕ) (b : Bool) (x : List Bool) (k : ℕ) → from ≤ k → k < to → k < length x → slice_get (fill from to b x) k ≡ Some b
unfolding fill
fill-inside from to b [] k low high short = absurd (omega (arith, short))
fill-inside (suc from) (suc to) b (x ∷ xs) zero low high short = absurd (omega (arith, low))
fill-inside (suc from) (suc to) b (x ∷ xs) (suc k) low high short = fill-inside from to b xs k (omega (arith, low)) (omega (arith, high)) (omega (arith, short))
fill-inside (suc from) zero b (x ∷ xs) k low high short = absurd (omega (arith, high))
fill-inside zero (suc to) b (x ∷ xs) zero low high short = refl
fill-inside zero (suc to) b (x ∷ xs) (suc k) low high short = fill-inside zero to b xs k (omega arith) (omega (arith, high)) (omega (arith, short))
fill-inside zero zero b (x ∷ xs) k low high short = absurd (omega (arith, high))

pub length-fill : (from to : ℕ) (b : Bool) (x : List Bool) → length (fill from to b x) ≡ length x
unfolding fill
length-fill from to b [] = refl
length-fill (suc from) (suc to) b (x ∷ xs) = ap suc (length-fill from to b xs)
length-fill (suc from) zero b (x ∷ xs) = refl
length-fill zero (suc to) b (x ∷ xs) = ap suc (length-fill zero to b xs)
length-fill zero zero b (x ∷ xs) = refl

-- filling what was filled
pub fill-fill : (from to : ℕ) (b d : Bool) (x : List Bool) → fill from to b (fill from to d x) ≡ fill from to b x
unfolding fill
fill-fill from to b d [] = refl
fill-fill (suc from) (suc to) b d (x ∷ xs) = ap (λ r. x ∷ r) (fill-fill from to b d xs)
fill-fill (suc from) zero b d (x ∷ xs) = refl
fill-fill zero (suc to) b d (x ∷ xs) = ap (λ r. b ∷ r) (fill-fill zero to b d xs)
fill-fill zero zero b d (x ∷ xs) = refl

-- no place is filled
pub fill-empty : (n : ℕ) (b : Bool) (x : List Bool) → fill n n b x ≡ x
unfolding fill
fill-empty n b [] = refl
fill-empty zero b (x ∷ xs) = refl
fill-empty (suc n) b (x ∷ xs) = ap (λ r. x ∷ r) (fill-empty n b xs)

-- one place more
pub fill-more : (from i : ℕ) (b : Bool) (x : List Bool) → from ≤ i → i < length x → set (fill from i b x) i b ≡ fill from (suc i) b x
unfolding fill
fill-more from i b [] low high = absurd (omega (arith, high))
fill-more (suc from) (suc i) b (x ∷ xs) low high = ap (λ r. x ∷ r) (fill-more from i b xs (omega (arith, low)) (omega (arith, high)))
fill-more (suc from) zero b (x ∷ xs) low high = absurd (omega (arith, low))
fill-more zero (suc i) b (x ∷ xs) low high = ap (λ r. b ∷ r) (fill-more zero i b xs (omega arith) (omega (arith, high)))
fill-more zero zero b (x ∷ xs) low high = ap (λ r. b ∷ r) (sym (fill-empty zero b xs))

-- two ranges side by side
pub fill-beside : (from mid to : ℕ) (b : Bool) (x : List Bool) → from ≤ mid → mid ≤ to
    → fill from mid b (fill mid to b x) ≡ fill from to b x
unfolding fill
fill-beside from mid to b [] h k = refl
fill-beside (suc from) (suc mid) (suc to) b (x ∷ xs) h k = ap (λ r. x ∷ r) (fill-beside from mid to b xs (omega (arith, h)) (omega (arith, k)))
fill-beside (suc from) (suc mid) zero b (x ∷ xs) h k = absurd (omega (arith, k))
fill-beside (suc from) zero to b (x ∷ xs) h k = absurd (omega (arith, h))
fill-beside zero (suc mid) (suc to) b (x ∷ xs) h k = ap (λ r. b ∷ r) (fill-beside zero mid to b xs (omega arith) (omega (arith, k)))
fill-beside zero (suc mid) zero b (x ∷ xs) h k = absurd (omega (arith, k))
fill-beside zero zero (suc to) b (x ∷ xs) h k = refl
fill-beside zero zero zero b (x ∷ xs) h k = refl

-- filling with what is there changes nothing
pub fill-same : (from to : ℕ) (x : List Bool) → KeepsAll from to x → fill from to true x ≡ x
unfolding fill
fill-same from to [] all = refl
fill-same (suc from) (suc to) (x ∷ xs) all = ap (λ r. x ∷ r) (fill-same from to xs (λ k low high. all (suc k) (omega (arith, low)) (omega (arith, high))))
fill-same (suc from) zero (x ∷ xs) all = refl
fill-same zero (suc to) (x ∷ xs) all =
    let head : x ≡ true = (let e = all 0 (omega arith) (omega arith) in cc) in
    let rest = fill-same zero to xs (λ k low high. all (suc k) (omega arith) (omega (arith, high))) in
    λ i. sym head i ∷ rest i
fill-same zero zero (x ∷ xs) all = refl

pub kept_count-cons : (b : Bool) (xs : List Bool) → kept_count (b ∷ xs) ≡ kept_count (b ∷ []) + kept_count xs
kept_count-cons true xs = sum_by-cons (λ b. cond b 1 0) true xs
kept_count-cons false xs = sum_by-cons (λ b. cond b 1 0) false xs

-- the set with none of them keeps as many fewer as there are places
pub kept_count-fill : (from to : ℕ) (x : List Bool) → from ≤ to → KeepsAll from to x → kept_count (fill from to false x) + (to - from) ≡ kept_count x
unfolding fill
kept_count-fill from to [] h all = no_room from to h (λ k low high. let e = all k low high in cc)
  where
    no_room : (from to : ℕ) → from ≤ to → ((k : ℕ) → from ≤ k → k < to → ⊥) → 0 + (to - from) ≡ 0
    no_room from to h none = elim (either from to h) [ inl less ↦ absurd (none from (omega arith) less) | inr same ↦ omega (arith, same) ]
      where
        either : (from to : ℕ) → from ≤ to → (from < to) ⊎ (from ≡ to)
        either from to h = grind (arith, h)
kept_count-fill (suc from) (suc to) (x ∷ xs) h all =
    let rest = kept_count-fill from to xs (omega (arith, h)) (λ k low high. all (suc k) (omega (arith, low)) (omega (arith, high))) in
    rw (kept_count-cons x (fill from to false xs), kept_count-cons x xs) (omega (arith, rest))
kept_count-fill (suc from) zero (x ∷ xs) h all = absurd (omega (arith, h))
kept_count-fill zero (suc to) (x ∷ xs) h all =
    let head : x ≡ true = (let e = all 0 (omega arith) (omega arith) in cc) in
    let rest = kept_count-fill zero to xs (omega arith) (λ k low high. all (suc k) (omega arith) (omega (arith, high))) in
    rw (head, kept_count-cons false (fill zero to false xs), kept_count-cons true xs) (omega (arith, rest))
kept_count-fill zero zero (x ∷ xs) h all = omega arith
