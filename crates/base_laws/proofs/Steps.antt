-- One more element of a list that is gone over place by place.
use Rattle.std.proofs.Common.{◌≡◌, ℕ, zero, suc, ◌+◌, ◌<◌, ◌≤◌, ◌∙◌, sym, ap, cond, Bool, true, false, ◌&&◌, ◌||◌, List, [], ◌∷◌, ◌++◌, length, get_or, take, drop, Some, append_assoc, append-nil, add-one, drop-cons, arith}
use Rattle.std.specs.Prelude.{slice_get}
use Rattle.std.specs.List.{count_by, flat_map, fold, list_all, list_any}
use Rattle.std.proofs.lemmas.List.{drop_all}
use Rattle.std.proofs.lemmas.List.Folds.{list_all_more, list_any_more}
use Rattle.std.proofs.lemmas.Option.{same_Some, none-some, slice_get_within, get_or_from_slice_get}

-- what was folded, and one element more
pub fold_next : {X S : Type 0} (f : S → X → S) (s : S) (xs : List X) (k : ℕ) (x : X) → slice_get xs k ≡ Some x
    → fold f s (take (k + 1) xs) ≡ f (fold f s (take k xs)) x
fold_next f s [] k x at = absurd (none-some x at)
fold_next f s (y ∷ xs) zero x at = ap (f s) (same_Some y x at)
fold_next f s (y ∷ xs) (suc k) x at =
    let e : suc k + 1 ≡ suc (k + 1) = omega arith in
    rw e (fold_next f (f s y) xs k x at)

pub count_by_next : {X : Type 0} (p : X → Bool) (xs : List X) (k : ℕ) (x : X) → slice_get xs k ≡ Some x
    → count_by p (take (k + 1) xs) ≡ count_by p (take k xs) + cond (p x) 1 0
count_by_next p xs k x at = fold_next (λ a y. a + cond (p y) 1 0) 0 xs k x at

module _ {X : Type 0} (p : X → Bool) (xs : List X) (k : ℕ) (x : X) (at : slice_get xs k ≡ Some x) where
  element : get_or xs k x ≡ x
  element = get_or_from_slice_get xs k x x at

  within : k < length xs
  within = slice_get_within xs k x at

  pub all_next : list_all p (take (k + 1) xs) ≡ (list_all p (take k xs) && p x)
  all_next = list_all_more p xs k x within ∙ ap (λ y. list_all p (take k xs) && p y) element

  pub any_next : list_any p (take (k + 1) xs) ≡ (list_any p (take k xs) || p x)
  any_next = list_any_more p xs k x within ∙ ap (λ y. list_any p (take k xs) || p y) element

-- the lists of the elements so far, and of one more
pub flat_map_take_more : {X A : Type 0} (f : X → List A) (xs : List X) (k : ℕ) (x : X) → slice_get xs k ≡ Some x → flat_map f (take (k + 1) xs) ≡ flat_map f (take k xs) ++ f x
flat_map_take_more f [] k x at = absurd (none-some x at)
flat_map_take_more f (y ∷ xs) zero x at = append-nil (f y) ∙ ap f (same_Some y x at)
flat_map_take_more f (y ∷ xs) (suc k) x at =
    let e : suc k + 1 ≡ suc (k + 1) = omega arith in
    rw e (ap (λ ys. f y ++ ys) (flat_map_take_more f xs k x at) ∙ sym (append_assoc (f y) (flat_map f (take k xs)) (f x)))

-- ---- from a place on

module _ {X : Type 0} (p : X → Bool) (xs : List X) (i : ℕ) (x : X) where
  drop_found : slice_get xs i ≡ Some x → drop i xs ≡ x ∷ drop (i + 1) xs
  drop_found found =
      drop-cons xs i x (slice_get_within xs i x found)
      ∙ ap (λ y. y ∷ drop (suc i) xs) (get_or_from_slice_get xs i x x found)
      ∙ ap (λ k. x ∷ drop k xs) (sym (add-one i))

  pub all_turn : (all : Bool) → slice_get xs i ≡ Some x → p x ≡ true → list_all p (drop i xs) ≡ all → list_all p (drop (i + 1) xs) ≡ all
  all_turn all found holds rest = let e : list_all p (drop i xs) ≡ (p x && list_all p (drop (i + 1) xs)) = ap (list_all p) (drop_found found) in grind (arith)

  pub all_stop : (all : Bool) → slice_get xs i ≡ Some x → p x ≡ false → list_all p (drop i xs) ≡ all → false ≡ all
  all_stop all found fails rest = let e : list_all p (drop i xs) ≡ (p x && list_all p (drop (i + 1) xs)) = ap (list_all p) (drop_found found) in grind (arith)

pub all_end : {X : Type 0} (p : X → Bool) (xs : List X) (i : ℕ) (all : Bool) → length xs ≤ i → list_all p (drop i xs) ≡ all → true ≡ all
all_end p xs i all past rest = ap (list_all p) (sym (drop_all i xs past)) ∙ rest
