-- Lists side by side, and lists that are joined.
use Rattle.std.proofs.Common.{◌≡◌, ℕ, zero, suc, ◌<◌, pos, Bool, List, [], ◌∷◌, ◌++◌, map, reverse, refl, sym, ap, ◌∙◌, length, get_or, Some, arith}
use Rattle.std.specs.Prelude.{slice_get}
use Rattle.std.specs.List.{filter, flat_map, list_any, zip}
use Rattle.std.proofs.lemmas.List.{length-map, reverse-append}
use Rattle.std.proofs.lemmas.List.Folds.{list_any-append}
use Rattle.std.proofs.lemmas.Grind.{flat_map-append}
use Rattle.std.proofs.lemmas.Option.{same_Some, none-some, slice_get_read, slice_get-get_or}

-- ---- side by side

module _ {X Y : Type 0} where
  pub zip_first : (xs : List X) (ys : List Y) (k : ℕ) (pair : X × Y) → slice_get (zip xs ys) k ≡ Some pair → slice_get xs k ≡ Some pair.0
  zip_first [] ys k pair at = absurd (none-some pair at)
  zip_first (v ∷ xs) [] k pair at = absurd (none-some pair at)
  zip_first (v ∷ xs) (w ∷ ys) zero pair at = ap (λ p. Some p.0) (same_Some (v, w) pair at)
  zip_first (v ∷ xs) (w ∷ ys) (suc k) pair at = zip_first xs ys k pair at

  pub zip_second : (xs : List X) (ys : List Y) (k : ℕ) (pair : X × Y) → slice_get (zip xs ys) k ≡ Some pair → slice_get ys k ≡ Some pair.1
  zip_second [] ys k pair at = absurd (none-some pair at)
  zip_second (v ∷ xs) [] k pair at = absurd (none-some pair at)
  zip_second (v ∷ xs) (w ∷ ys) zero pair at = ap (λ p. Some p.1) (same_Some (v, w) pair at)
  zip_second (v ∷ xs) (w ∷ ys) (suc k) pair at = zip_second xs ys k pair at

-- what stands at a place of two lists stands there side by side
pub slice_get_zip : {X Y : Type 0} (xs : List X) (ys : List Y) (k : ℕ) (x : X) (y : Y)
    → slice_get xs k ≡ Some x → slice_get ys k ≡ Some y → slice_get (zip xs ys) k ≡ Some (x, y)
slice_get_zip [] ys k x y at_x at_y = absurd (cc)
slice_get_zip (v ∷ xs) [] k x y at_x at_y = absurd (cc)
slice_get_zip (v ∷ xs) (w ∷ ys) zero x y at_x at_y = cc
slice_get_zip (v ∷ xs) (w ∷ ys) (suc k) x y at_x at_y = slice_get_zip xs ys k x y at_x at_y

pub length_zip : {X Y : Type 0} (xs : List X) (ys : List Y) → length xs ≡ length ys → length (zip xs ys) ≡ length xs
length_zip [] ys same = refl
length_zip (x ∷ xs) [] same = absurd (omega arith)
length_zip (x ∷ xs) (y ∷ ys) same = ap suc (length_zip xs ys (omega arith))

pub slice_get_map_read : {R X : Type 0} (read : R → X) (rs : List R) (k : ℕ) (r : R) → k < length rs → r ≡ get_or rs k r → slice_get (map read rs) k ≡ Some (read r)
slice_get_map_read read [] k r within at = absurd (omega arith)
slice_get_map_read read (q ∷ rs) zero r within at = ap (λ x. Some (read x)) (sym at)
slice_get_map_read read (q ∷ rs) (suc k) r within at = slice_get_map_read read rs k r (omega arith) at

-- what is read of three lists that are as long as each other is what they have at that place side by side
pub triple_read : {R D A V : Type 0} (read : R → D) (rs : List R) (xs : List A) (vs : List V) (k : ℕ) (r : R) (x : A) (otherwise : V)
    → length rs ≡ length xs → length vs ≡ length xs → k < length xs → r ≡ get_or rs k r → x ≡ get_or xs k x
    → slice_get (zip (map read rs) (zip xs vs)) k ≡ Some (read r, (x, get_or vs k otherwise))
triple_read read rs xs vs k r x otherwise long same within at_r at_x =
    slice_get_zip (map read rs) (zip xs vs) k (read r) (x, get_or vs k otherwise)
    (slice_get_map_read read rs k r (omega arith) at_r)
    (slice_get_zip xs vs k x (get_or vs k otherwise) (slice_get_read xs (length xs) k x refl within at_x) (slice_get-get_or vs k otherwise (omega arith)))

-- three lists side by side end with them
pub length_triple : {R D A V : Type 0} (read : R → D) (rs : List R) (xs : List A) (vs : List V) → length rs ≡ length xs → length vs ≡ length xs
    → length (zip (map read rs) (zip xs vs)) ≡ length xs
length_triple read rs xs vs long same =
    let pairs = length_zip xs vs (sym same) in
    let reads = length-map rs read in
    let all = length_zip (map read rs) (zip xs vs) (reads ∙ long ∙ sym pairs) in
    all ∙ reads ∙ long

-- ---- joined

-- of two joined lists whose first parts are as long, the parts are equal
pub same_parts : {A : Type 0} (xs ys r s : List A) → length xs ≡ length ys → xs ++ r ≡ ys ++ s → (xs ≡ ys) × (r ≡ s)
same_parts [] [] r s n e = (refl, e)
same_parts [] (y ∷ ys) r s n e = absurd cc
same_parts (x ∷ xs) [] r s n e = absurd cc
same_parts (x ∷ xs) (y ∷ ys) r s n e =
    let head : x ≡ y = cc in
    let long : length xs ≡ length ys = cc in
    let tail : xs ++ r ≡ ys ++ s = cc in
    let rest = same_parts xs ys r s long tail in
    (λ i. head i ∷ rest.0 i, rest.1)

-- lists of counts that are equal as whole numbers are equal
pub same_counts : (xs ys : List ℕ) → map pos xs ≡ map pos ys → xs ≡ ys
same_counts [] [] e = refl
same_counts [] (y ∷ ys) e = absurd cc
same_counts (x ∷ xs) [] e = absurd cc
same_counts (x ∷ xs) (y ∷ ys) e =
    let head : x ≡ y = cc in
    let rest : xs ≡ ys = same_counts xs ys cc in
    λ i. head i ∷ rest i

-- ---- mapped, filtered and turned round

-- what passes two tests that agree is the same
pub filter_same : {X : Type 0} (p q : X → Bool) → ((x : X) → p x ≡ q x) → (xs : List X) → filter p xs ≡ filter q xs
filter_same p q same [] = refl
filter_same p q same (x ∷ xs) = let here = same x in let rest = filter_same p q same xs in grind (arith)

-- a list passes a test turned round as it does as it stands
pub list_any_flat_map_reverse : {X Y : Type 0} (p : Y → Bool) (f : X → List Y) (xs : List X) → list_any p (flat_map f (reverse xs)) ≡ list_any p (flat_map f xs)
list_any_flat_map_reverse p f [] = refl
list_any_flat_map_reverse p f (x ∷ xs) =
    let turned = ap (list_any p) (ap (flat_map f) (reverse-append (x ∷ []) xs) ∙ flat_map-append f (reverse xs) (x ∷ [])) in
    let parts = list_any-append p (flat_map f (reverse xs)) (flat_map f (x ∷ [])) in
    let more = list_any-append p (f x) (flat_map f xs) in
    let one = list_any-append p (f x) [] in
    let rest = list_any_flat_map_reverse p f xs in
    grind (arith)
