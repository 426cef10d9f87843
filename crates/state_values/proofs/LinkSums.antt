-- Sums over links, by the numbers of the linked instances.
use Rattle.std.proofs.Common.{◌≡◌, ℕ, zero, suc, ◌+◌, ◌<◌, ◌==◌, ℤ, pos, ◌+ℤ◌, Bool, true, false, ◌||◌, cond, List, [], ◌∷◌, ◌++◌, map, refl, sym, ap, ◌∙◌, subst, arith}
use Rattle.std.specs.Prelude.{nat_le, nat_lt}
use Rattle.std.specs.List.{filter, range_with_len}
use Rattle.std.proofs.Math.Path.{fun_ext}
use Rattle.std.proofs.lemmas.Bool.{false≢true}
use Rattle.std.proofs.lemmas.Bool.Decides.{nat_tests}
use Rattle.std.proofs.lemmas.Int.{ints}
use Rattle.std.proofs.lemmas.Option.{same_Some, none-some}
use Rattle.std.proofs.lemmas.List.FromFn.{map-range_with_len_more}
use Rattle.prod_model.specs.ExprBounds.{sum_of}
use Rattle.base_laws.specs.Places.{IsAt}
use Rattle.state_space.specs.Sets.{has_number}
use Rattle.state_values.proofs.RangeLaws.{sum_cons}

-- each is below the next
abbrev pub IsAscending : List ℕ → Type 0
IsAscending links = (k i j : ℕ) → IsAt links k i → IsAt links (suc k) j → i < j

-- the sum over the numbers below m
abbrev pub upto : (ℕ → ℤ) → ℕ → ℤ
upto v m = sum_of (map v (range_with_len 0 m))

sum_push : (xs : List ℤ) (y : ℤ) → sum_of (xs ++ y ∷ []) ≡ (sum_of xs +ℤ y)
sum_push [] y = omega (arith, ints)
sum_push (x ∷ xs) y = let rest = sum_push xs y in omega (arith, ints, rest, sum_cons x xs, sum_cons x (xs ++ y ∷ []))

pub upto_suc : (v : ℕ → ℤ) (m : ℕ) → upto v (suc m) ≡ (upto v m +ℤ v m)
upto_suc v m = ap (upto v) next ∙ ap sum_of (map-range_with_len_more v 0 m m (omega arith)) ∙ sum_push (map v (range_with_len 0 m)) (v m)
  where
    next : suc m ≡ m + 1
    next = omega arith

upto_none : (m : ℕ) → upto (λ j. pos 0) m ≡ pos 0
upto_none zero = refl
upto_none (suc m) = let rest = upto_none m in let step = upto_suc (λ j. pos 0) m in omega (arith, ints, rest, step)

pub upto_add : (a b : ℕ → ℤ) (m : ℕ) → upto (λ j. a j +ℤ b j) m ≡ (upto a m +ℤ upto b m)
upto_add a b zero = refl
upto_add a b (suc m) = let rest = upto_add a b m in omega (arith, ints, rest, upto_suc (λ j. a j +ℤ b j) m, upto_suc a m, upto_suc b m)

-- of one number alone
pub upto_one : (v : ℕ → ℤ) (l m : ℕ) → upto (λ j. cond (l == j) (v j) (pos 0)) m ≡ cond (nat_lt l m) (v l) (pos 0)
upto_one v l zero = by (nat_lt l 0) refl
  where
    by : (t : Bool) → nat_lt l 0 ≡ t → pos 0 ≡ cond t (v l) (pos 0)
    by true is = absurd (grind (arith, nat_tests))
    by false is = refl
upto_one v l (suc m) = upto_suc (λ j. cond (l == j) (v j) (pos 0)) m ∙ ap (λ n. n +ℤ cond (l == m) (v m) (pos 0)) (upto_one v l m) ∙ by (nat_lt l m) refl (l == m) refl (nat_lt l (suc m)) refl
  where
    by : (t : Bool) → nat_lt l m ≡ t → (u : Bool) → (l == m) ≡ u → (w : Bool) → nat_lt l (suc m) ≡ w
        → (cond t (v l) (pos 0) +ℤ cond u (v m) (pos 0)) ≡ cond w (v l) (pos 0)
    by true x true y w z = absurd (grind (arith, nat_tests))
    by true x false y true z = omega (arith, ints)
    by true x false y false z = absurd (grind (arith, nat_tests))
    by false x true y true z = let same : l ≡ m = grind (arith, nat_tests) in let alike = ap v same in omega (arith, ints, alike)
    by false x true y false z = absurd (grind (arith, nat_tests))
    by false x false y true z = absurd (grind (arith, nat_tests))
    by false x false y false z = refl

-- ---- links that ascend

pub rest_ascends : (l : ℕ) (ls : List ℕ) → IsAscending (l ∷ ls) → IsAscending ls
rest_ascends l ls up k = up (suc k)

-- the first is below all others
pub first_below : (l : ℕ) (ls : List ℕ) → IsAscending (l ∷ ls) → (k j : ℕ) → IsAt ls k j → l < j
first_below l [] up k j at = absurd (none-some j at)
first_below l (n ∷ ns) up zero j at = subst (λ j. l < j) (same_Some n j at) (up 0 l n refl refl)
first_below l (n ∷ ns) up (suc k) j at =
    let next = up 0 l n refl refl in
    let rest = first_below n ns (rest_ascends l (n ∷ ns) up) k j at in
    omega (arith, next, rest)

not_among : (l : ℕ) (ls : List ℕ) → ((k j : ℕ) → IsAt ls k j → l < j) → has_number ls l ≡ false
not_among l [] below = refl
not_among l (n ∷ ns) below = by (n == l) refl (not_among l ns (λ k. below (suc k)))
  where
    by : (t : Bool) → (n == l) ≡ t → has_number ns l ≡ false → (t || has_number ns l) ≡ false
    by true is rest = let less = below 0 n refl in absurd (grind (arith, nat_tests))
    by false is rest = rest

first_apart : (v : ℕ → ℤ) (l : ℕ) (ls : List ℕ) → has_number ls l ≡ false → (j : ℕ)
    → cond (has_number (l ∷ ls) j) (v j) (pos 0) ≡ (cond (l == j) (v j) (pos 0) +ℤ cond (has_number ls j) (v j) (pos 0))
first_apart v l ls apart j = by (l == j) refl (has_number ls j) refl
  where
    by : (t : Bool) → (l == j) ≡ t → (u : Bool) → has_number ls j ≡ u → cond (t || u) (v j) (pos 0) ≡ (cond t (v j) (pos 0) +ℤ cond u (v j) (pos 0))
    by true is true among = let same : l ≡ j = grind (arith, nat_tests) in absurd (false≢true (sym apart ∙ ap (has_number ls) same ∙ among))
    by true is false among = omega (arith, ints)
    by false is true among = omega (arith, ints)
    by false is false among = refl

-- The sum over links is that over the numbers below m that are linked, and over the other links.
pub sum_links : (v : ℕ → ℤ) (m : ℕ) (ls : List ℕ) → IsAscending ls
    → (upto (λ j. cond (has_number ls j) (v j) (pos 0)) m +ℤ sum_of (map v (filter (nat_le m) ls))) ≡ sum_of (map v ls)
sum_links v m [] up = let none = upto_none m in omega (arith, ints, none)
sum_links v m (l ∷ ls) up =
    ap (λ n. n +ℤ sum_of (map v (filter (nat_le m) (l ∷ ls)))) (
    ap (λ f. upto f m) (fun_ext (first_apart v l ls (not_among l ls (first_below l ls up))))
    ∙ upto_add (λ j. cond (l == j) (v j) (pos 0)) (λ j. cond (has_number ls j) (v j) (pos 0)) m
    ∙ ap (λ n. n +ℤ upto (λ j. cond (has_number ls j) (v j) (pos 0)) m) (upto_one v l m))
    ∙ by (sum_links v m ls (rest_ascends l ls up)) (nat_lt l m) refl (nat_le m l) refl
  where
    by : (upto (λ j. cond (has_number ls j) (v j) (pos 0)) m +ℤ sum_of (map v (filter (nat_le m) ls))) ≡ sum_of (map v ls)
        → (t : Bool) → nat_lt l m ≡ t → (u : Bool) → nat_le m l ≡ u
        → ((cond t (v l) (pos 0) +ℤ upto (λ j. cond (has_number ls j) (v j) (pos 0)) m) +ℤ sum_of (map v (cond u (l ∷ filter (nat_le m) ls) (filter (nat_le m) ls))))
        ≡ sum_of (v l ∷ map v ls)
    by rest true is true above = absurd (grind (arith, nat_tests))
    by rest true is false above = omega (arith, ints, rest, sum_cons (v l) (map v ls))
    by rest false is true above = omega (arith, ints, rest, sum_cons (v l) (map v ls), sum_cons (v l) (map v (filter (nat_le m) ls)))
    by rest false is false above = absurd (grind (arith, nat_tests))
