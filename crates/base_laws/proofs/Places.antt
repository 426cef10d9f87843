-- What stands at a place of a list that is mapped, filtered, joined or searched.
use Rattle.std.proofs.Common.{◌≡◌, ℕ, zero, suc, ◌<◌, ◌+◌, Bool, true, false, cond, List, [], ◌∷◌, ◌++◌, length, get_or, map, Some, refl, sym, ap, ◌∙◌, subst, inl, inr, ◌⊎◌, zero-add, arith}
use Rattle.std.specs.Prelude.{IsTrue, slice_get}
use Rattle.std.specs.Option.{option_map}
use Rattle.std.specs.List.{filter, find, position, position_from}
use Rattle.std.proofs.lemmas.Option.{same_Some, none-some, slice_get-map, slice_get_read}
use Rattle.std.proofs.lemmas.Iterator.Adapters.{position_from-zero}
use Rattle.base_laws.specs.Places.{IsAt}

-- each place of the first list has an element of the second there that stands so to it
abbrev pub HasEach : {A : Type 0} → (A → A → Type 0) → List A → List A → Type 0
HasEach {A} R xs ys = (k : ℕ) (x : A) → IsAt xs k x → (y : A) × IsAt ys k y × R x y

-- what stands after as many elements as there are before it
pub slice_get_middle : {X : Type 0} (before : List X) (x : X) (rest : List X)
    → slice_get (before ++ x ∷ rest) (length before) ≡ Some x
slice_get_middle [] x rest = refl
slice_get_middle (b ∷ before) x rest = slice_get_middle before x rest

-- what stands in a mapped list is the image of what stands there
pub map_at : {A B : Type 0} (f : A → B) (xs : List A) (k : ℕ) (y : B) → IsAt (map f xs) k y → (x : A) × IsAt xs k x × (f x ≡ y)
map_at f [] k y there = absurd (none-some y there)
map_at f (x ∷ xs) zero y there = (x, refl, same_Some (f x) y there)
map_at f (x ∷ xs) (suc k) y there = map_at f xs k y there

-- the image of what stands at a place stands there in the mapped list
pub at_map : {A B : Type 0} (f : A → B) (xs : List A) (k : ℕ) (x : A) → IsAt xs k x → IsAt (map f xs) k (f x)
at_map f xs k x there = slice_get-map f xs k ∙ ap (option_map f) there

-- what stands at a place stands there before more
pub at_front : {A : Type 0} (xs ys : List A) (k : ℕ) (x : A) → IsAt xs k x → IsAt (xs ++ ys) k x
at_front [] ys k x there = absurd (none-some x there)
at_front (z ∷ xs) ys zero x there = there
at_front (z ∷ xs) ys (suc k) x there = at_front xs ys k x there

-- what stands among those that pass stands among all, and passes
pub filter_at : {A : Type 0} (p : A → Bool) (xs : List A) (k : ℕ) (x : A) → IsAt (filter p xs) k x → (j : ℕ) × IsAt xs j x × IsTrue (p x)
filter_at p [] k x there = absurd (none-some x there)
filter_at {A} p (y ∷ xs) k x there = by (p y) refl k there (λ k. filter_at p xs k x)
  where
    by : (b : Bool) → p y ≡ b → (k : ℕ) → IsAt (cond b (y ∷ filter p xs) (filter p xs)) k x
        → ((k : ℕ) → IsAt (filter p xs) k x → (j : ℕ) × IsAt xs j x × IsTrue (p x)) → (j : ℕ) × IsAt (y ∷ xs) j x × IsTrue (p x)
    by true is zero there rest = (0, there, ap p (sym (same_Some y x there)) ∙ is)
    by true is (suc k) there rest = let found = rest k there in (suc found.0, found.1, found.2)
    by false is k there rest = let found = rest k there in (suc found.0, found.1, found.2)

-- what is found stands somewhere and passes the test
pub find_at : {A : Type 0} (p : A → Bool) (xs : List A) (x : A) → find p xs ≡ Some x → (k : ℕ) × IsAt xs k x × IsTrue (p x)
find_at p [] x found = absurd (none-some x found)
find_at {A} p (y ∷ xs) x found = by (p y) refl (find_at p xs x) found
  where
    by : (b : Bool) → p y ≡ b → (find p xs ≡ Some x → (k : ℕ) × IsAt xs k x × IsTrue (p x)) → cond b (Some y) (find p xs) ≡ Some x
        → (k : ℕ) × IsAt (y ∷ xs) k x × IsTrue (p x)
    by true is rest here = (0, here, ap p (sym (same_Some y x here)) ∙ is)
    by false is rest more = let found = rest more in (suc found.0, found.1, found.2)

-- the first of the second list to pass the test stands at a place, and stands so to an element
pub record IsFirstAt {A : Type 0} (p : A → Bool) (R : A → A → Type 0) (x : A) (ys : List A) : Type 0 where
  pub place : ℕ
  pub there : A
  pub stands : IsAt ys place there
  pub related : R x there
  pub first : (i : ℕ) → position_from p i ys ≡ Some (i + place)

-- where each place of the first list has an element of the second there that stands so to it, what is found in the first
-- has one in the second, at the first place that passes
pub find_place : {A : Type 0} (p : A → Bool) (R : A → A → Type 0) (same : (x y : A) → R x y → p y ≡ p x) (xs ys : List A) (x : A)
    → find p xs ≡ Some x → HasEach R xs ys → IsFirstAt p R x ys
find_place p R same [] ys x found each = absurd (none-some x found)
find_place p R same (x' ∷ xs) [] x found each = let first = each 0 x' refl in absurd (none-some first.0 first.1)
find_place p R same (x' ∷ xs) (y' ∷ ys) x found each = by (p x') refl (λ more. find_place p R same xs ys x more (λ k. each (suc k))) found
  where
    first : R x' y'
    first = let at = each 0 x' refl in subst (λ y. R x' y) (sym (same_Some y' at.0 at.1)) at.2

    by : (b : Bool) → p x' ≡ b → (find p xs ≡ Some x → IsFirstAt p R x ys) → cond b (Some x') (find p xs) ≡ Some x → IsFirstAt p R x (y' ∷ ys)
    by true is rest here = record {
      place = 0;
      there = y';
      stands = refl;
      related = subst (λ z. R z y') (same_Some x' x here) first;
      first = λ i. ap (λ b. cond b (Some i) (position_from p (i + 1) ys)) (same x' y' first ∙ is) ∙ ap Some (omega arith);
    }
    by false is rest more =
        let found = rest more in
        record {
          place = suc found.place;
          there = found.there;
          stands = found.stands;
          related = found.related;
          first = λ i. ap (λ b. cond b (Some i) (position_from p (i + 1) ys)) (same x' y' first ∙ is) ∙ found.first (i + 1) ∙ ap Some (omega arith);
        }

-- the first place that passes, counted from 0
pub position_is : {A : Type 0} (p : A → Bool) (xs : List A) (k : ℕ) → ((i : ℕ) → position_from p i xs ≡ Some (i + k)) → position p xs ≡ Some k
position_is p xs k from = position_from-zero p xs ∙ from 0 ∙ ap Some (omega arith)

-- what was read of a list at a place in range stands there in a list that is equal
pub read_at : {X : Type 0} (xs ys : List X) (k : ℕ) (x : X) → xs ≡ ys → k < length xs → x ≡ get_or xs k x → slice_get ys k ≡ Some x
read_at xs ys k x same within is = ap (λ zs. slice_get zs k) (sym same) ∙ slice_get_read xs (length xs) k x refl within is

-- ---- lists one after another

-- what stands in the second list stands in both together, as many places further on as the first has elements
pub at_back : {A : Type 0} (xs ys : List A) (j : ℕ) (y : A) → IsAt ys j y → IsAt (xs ++ ys) (length xs + j) y
at_back [] ys j y there = subst (λ k. IsAt ys k y) (sym (zero-add j)) there
at_back (x ∷ xs) ys j y there =
    let e : length (x ∷ xs) + j ≡ suc (length xs + j) = omega arith in
    subst (λ k. IsAt (x ∷ (xs ++ ys)) k y) (sym e) (at_back xs ys j y there)

-- what stands in two lists together stands in the first, or so much further on in the second
pub at_either : {A : Type 0} (xs ys : List A) (k : ℕ) (x : A) → IsAt (xs ++ ys) k x
    → IsAt xs k x ⊎ ((j : ℕ) × (k ≡ length xs + j) × IsAt ys j x)
at_either [] ys k x there = inr (k, sym (zero-add k), there)
at_either (z ∷ xs) ys zero x there = inl there
at_either (z ∷ xs) ys (suc k) x there = elim (at_either xs ys k x there) [
  | inl front ↦ inl front
  | inr back ↦ inr (back.0, omega (arith, back.1), back.2)
]
