-- Numbers in order.
use Rattle.std.proofs.Common.{◌≡◌, ℕ, zero, suc, ◌<◌, ◌≤◌, ◌+◌, Bool, true, List, [], ◌∷◌, ◌++◌, refl, sym, ap, ◌∙◌, Some, add-zero, arith}
use Rattle.std.proofs.lemmas.Option.{same_Some, none-some}
use Rattle.std.specs.List.{enumerate_from, list_all, range_with_len}
use Rattle.base_laws.specs.Places.{IsAt}

-- at each place below n, counted from a, stands the sum of a and the place
pub slice_get_range_with_len : (a n k : ℕ) → k < n → IsAt (range_with_len a n) k (a + k)
slice_get_range_with_len a zero k h = absurd (omega arith)
slice_get_range_with_len a (suc n) zero h = ap Some (sym (add-zero a))
slice_get_range_with_len a (suc n) (suc k) h = slice_get_range_with_len (a + 1) n k (omega arith) ∙ ap Some (omega arith)

-- of n numbers from a on each is below the sum of a and n
pub range_with_len_lt : (a n k j : ℕ) → IsAt (range_with_len a n) k j → j < a + n
range_with_len_lt a zero k j e = absurd (none-some j e)
range_with_len_lt a (suc n) zero j e = omega (arith, same_Some a j e)
range_with_len_lt a (suc n) (suc k) j e = omega (arith, range_with_len_lt (a + 1) n k j e)

-- and none is below a
pub range_with_len_from : (a n k j : ℕ) → IsAt (range_with_len a n) k j → a ≤ j
range_with_len_from a zero k j e = absurd (none-some j e)
range_with_len_from a (suc n) zero j e = omega (arith, same_Some a j e)
range_with_len_from a (suc n) (suc k) j e = omega (arith, range_with_len_from (a + 1) n k j e)

-- numbers in order, parted at one of them
pub range_split : (a k r : ℕ)
    → range_with_len a (k + suc r) ≡ range_with_len a k ++ (a + k) ∷ range_with_len (a + k + 1) r
range_split a zero r =
    let e : 0 + suc r ≡ suc r = omega arith in let f : a + 0 ≡ a = omega arith in rw (e, f) refl
range_split a (suc k) r =
    let e : suc k + suc r ≡ suc (k + suc r) = omega arith in
    let f : a + suc k ≡ a + 1 + k = omega arith in
    rw (e, f) (ap (λ ns. a ∷ ns) (range_split (a + 1) k r))

-- what passes for n numbers from a on passes for each of them
pub list_all_below : (p : ℕ → Bool) (a n k : ℕ) → list_all p (range_with_len a n) ≡ true → k < n
    → p (a + k) ≡ true
list_all_below p a zero k all within = absurd (omega arith)
list_all_below p a (suc n) zero all within = let e : a + 0 ≡ a = omega arith in rw e (grind (arith))
list_all_below p a (suc n) (suc k) all within =
    let e : a + 1 + k ≡ a + suc k = omega arith in
    rw (← e) (list_all_below p (a + 1) n k (grind (arith)) (omega arith))

-- an element under its number stands there in the numbered list
pub at_enumerate : {A : Type 0} (a : ℕ) (xs : List A) (k : ℕ) (x : A) → IsAt xs k x → IsAt (enumerate_from a xs) k (a + k, x)
at_enumerate a [] k x there = absurd (none-some x there)
at_enumerate a (y ∷ xs) zero x there = let e : a + 0 ≡ a = omega arith in rw e (ap (λ z. Some (a, z)) (same_Some y x there))
at_enumerate a (y ∷ xs) (suc k) x there =
    let e : a + 1 + k ≡ a + suc k = omega arith in at_enumerate (a + 1) xs k x there ∙ ap (λ j. Some (j, x)) e

-- what stands in the numbered list has the number of its place
pub enumerate_at : {A : Type 0} (a : ℕ) (xs : List A) (k : ℕ) (e : ℕ × A) → IsAt (enumerate_from a xs) k e → (e.0 ≡ a + k) × IsAt xs k e.1
enumerate_at a [] k e there = absurd (none-some e there)
enumerate_at a (y ∷ xs) zero e there =
    let same = same_Some (a, y) e there in (ap (λ d. d.0) (sym same) ∙ sym (add-zero a), ap (λ d. Some d.1) same)
enumerate_at a (y ∷ xs) (suc k) e there =
    let rest = enumerate_at (a + 1) xs k e there in (let first = rest.0 in omega arith, rest.1)
