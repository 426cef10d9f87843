-- Lists, an item at a time.
use Rattle.std.proofs.Common.{◌≡◌, ℕ, ◌+◌, ◌<◌, ◌≤◌, Bool, List, [], ◌∷◌, ◌++◌, length, get_or, map, take, sum_by, sym, ap, ◌∙◌, cond, zero-add, arith}
use Rattle.std.specs.List.{filter, range_with_len}
use Rattle.std.proofs.lemmas.List.{map-append, length-map, length_push, get_or-map}
use Rattle.std.proofs.lemmas.List.Elements.{filter_more}
use Rattle.std.proofs.lemmas.List.FromFn.{map-range_with_len_more, length-map-range_with_len, get_or-map-range_with_len}
use Rattle.std.proofs.lemmas.List.Sums.{length-filter, count_by-le-length, sum_by_push, sum_by_more, sum_by_more_le}
use Rattle.base_laws.proofs.Ranges.{range_split}

-- one more of a table that a function of the place makes
pub table_more : {X : Type 0} (f : ℕ → X) (xs ys : List X) (n : ℕ) (x : X) → xs ≡ map f (range_with_len 0 n) → ys ≡ xs ++ x ∷ [] → x ≡ f n
    → ys ≡ map f (range_with_len 0 (n + 1))
table_more f xs ys n x so_far pushed is =
    pushed ∙ ap (λ zs. zs ++ x ∷ []) so_far ∙ ap (λ y. map f (range_with_len 0 n) ++ y ∷ []) is ∙ sym (map-range_with_len_more f 0 n n (zero-add n))

-- the same where each item is seen through a function
pub table_map_more : {X Y : Type 0} (h : Y → X) (f : ℕ → X) (xs ys : List Y) (n : ℕ) (y : Y) → map h xs ≡ map f (range_with_len 0 n) → ys ≡ xs ++ y ∷ [] → h y ≡ f n
    → map h ys ≡ map f (range_with_len 0 (n + 1))
table_map_more h f xs ys n y so_far pushed is = table_more f (map h xs) (map h ys) n (h y) so_far (ap (map h) pushed ∙ map-append h xs (y ∷ [])) is

-- one item more of a list that passes a test, or fails it
pub filter_next : {X : Type 0} (p : X → Bool) (xs : List X) (i : ℕ) (x : X) → i < length xs → x ≡ get_or xs i x
    → filter p (take (i + 1) xs) ≡ filter p (take i xs) ++ cond (p x) (x ∷ []) []
filter_next p xs i x within is = filter_more p xs i x within ∙ ap (λ y. filter p (take i xs) ++ cond (p y) (y ∷ []) []) (sym is)

-- a filter keeps no more than there is
pub length_filter_le : {X : Type 0} (p : X → Bool) (xs : List X) → length (filter p xs) ≤ length xs
length_filter_le p xs = omega (arith, length-filter p xs, count_by-le-length p xs)

-- a sum over one number more
pub sum_by_range_more : (g : ℕ → ℕ) (a n : ℕ) → sum_by g (range_with_len a (n + 1)) ≡ sum_by g (range_with_len a n) + g (a + n)
sum_by_range_more g a n = ap (sum_by g) (range_split a n 0) ∙ sum_by_push g (range_with_len a n) (a + n)

-- a sum within that of the items so far, after one item more
pub sum_by_take_le : {X : Type 0} (f : X → ℕ) (xs : List X) (i : ℕ) (x : X) (n k : ℕ) → i < length xs → x ≡ get_or xs i x → n ≤ sum_by f (take i xs) → k ≤ f x
    → n + k ≤ sum_by f (take (i + 1) xs)
sum_by_take_le f xs i x n k within is few more = omega (arith, sum_by_more f xs i x within, ap f is)

-- a list within its limit, after one more
pub length_push_le : {X : Type 0} (xs ys : List X) (n : ℕ) (x : X) → length xs ≤ n → ys ≡ xs ++ x ∷ [] → length ys ≤ n + 1
length_push_le xs ys n x few pushed = omega (arith, ap length pushed, length_push xs x)

-- how long a table is
pub length_table : {X : Type 0} (f : ℕ → X) (xs : List X) (n : ℕ) → xs ≡ map f (range_with_len 0 n) → length xs ≡ n
length_table f xs n is = ap length is ∙ length-map-range_with_len f 0 n

-- a row of a table
pub table_row : {X : Type 0} (f : ℕ → X) (xs : List X) (n t : ℕ) (x : X) → xs ≡ map f (range_with_len 0 n) → t < n → x ≡ get_or xs t x → x ≡ f t
table_row f xs n t x is within read = read ∙ ap (λ l. get_or l t x) is ∙ get_or-map-range_with_len f 0 n t t x within (zero-add t)

-- a sum within that of the items so far, and one item more, are within the whole
pub sum_by_next_lt : {X : Type 0} (f : X → ℕ) (xs : List X) (i n most : ℕ) (x : X) → i < length xs → x ≡ get_or xs i x → n ≤ sum_by f (take i xs)
    → sum_by f xs < most → n + f x < most
sum_by_next_lt f xs i n most x within is few all = omega (arith, sum_by_more_le f xs i x within, ap f is)

-- the same where each row is seen through a function
pub table_map_row : {X Y : Type 0} (h : Y → X) (f : ℕ → X) (ys : List Y) (n t : ℕ) (y : Y) → map h ys ≡ map f (range_with_len 0 n) → t < n → y ≡ get_or ys t y → h y ≡ f t
table_map_row h f ys n t y is within read =
    let inside : t < length ys = omega (arith, length-map ys h, length_table f (map h ys) n is) in
    table_row f (map h ys) n t (h y) is within (ap h read ∙ sym (get_or-map h ys t y (h y) inside))
