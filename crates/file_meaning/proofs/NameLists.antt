-- Lists of names and of what is read from values: names looked up, and names that differ.
use Rattle.std.proofs.Common.{◌≡◌, ℕ, zero, suc, ◌<◌, ◌+◌, Bool, true, List, [], ◌∷◌, map, length, refl, sym, ap, ap₂, subst, ◌∙◌, Some, arith, sum_by}
use Rattle.std.specs.Prelude.{IsTrue, nat_lt, ◌==◌}
use Rattle.std.specs.List.{list_any, position_or_len, enumerate_from, fold}
use Rattle.std.proofs.lemmas.Bool.{false≢true, and_parts, and_from, not-true, not_from_false}
use Rattle.std.proofs.lemmas.Bool.Decides.{nat_tests}
use Rattle.std.proofs.lemmas.Option.{none-some, same_Some}
use Rattle.base_laws.specs.Places.{IsAt}
use Rattle.base_laws.proofs.Tests.{list_any_at, list_any_from}
use Rattle.serde_json.specs.Data.{Data}
use Rattle.prod_model.specs.Names.{same_text, is_distinct, is_distinct_number}
use Rattle.prod_model.proofs.EntryNames.{same_text_same}
use Rattle.file_values.specs.declared.part.Part.{Part}
use Rattle.file_values.specs.Twice.{Placed}
use Rattle.file_meaning.proofs.NoneFails.{by_test}

-- ---- lists read from lists

-- what is read alike at each place is the same list
pub map_same : {X Y : Type 0} (f g : X → Y) (xs : List X) → ((k : ℕ) (x : X) → IsAt xs k x → f x ≡ g x) → map f xs ≡ map g xs
map_same f g [] same = refl
map_same f g (x ∷ xs) same = ap₂ (λ y ys. y ∷ ys) (same 0 x refl) (map_same f g xs (λ k y at. same (suc k) y at))

-- what is summed alike at each element
pub sum_same : {X Y : Type 0} (f : Y → ℕ) (g : X → Y) (h : X → ℕ) → ((x : X) → f (g x) ≡ h x) → (xs : List X) → sum_by f (map g xs) ≡ sum_by h xs
sum_same {X} {Y} f g h same xs = from 0 xs
  where
    from : (n : ℕ) (xs : List X) → fold (λ a y. a + f y) n (map g xs) ≡ fold (λ a x. a + h x) n xs
    from n [] = refl
    from n (x ∷ xs) = ap (λ k. fold (λ a y. a + f y) (n + k) (map g xs)) (same x) ∙ from (n + h x) xs

-- the texts of values that are numbered in order
pub texts_numbered : (f : Data → List ℕ) (g : ℕ → List Part) (n : ℕ) (ds : List Data)
    → map (λ (p : Placed). p.text) (map (λ (p : ℕ × Data). record { text = f p.1; place = g p.0 }) (enumerate_from n ds)) ≡ map f ds
texts_numbered f g n [] = refl
texts_numbered f g n (d ∷ ds) = ap (λ more. f d ∷ more) (texts_numbered f g (n + 1) ds)

-- ---- names that are looked up

-- the place of a name is within exactly where one passes
pub found_within : {X : Type 0} (p : X → Bool) (xs : List X) → IsTrue (list_any p xs) → IsTrue (nat_lt (position_or_len p xs) (length xs))
found_within p [] some = absurd (false≢true some)
found_within p (x ∷ xs) some = let rest = found_within p xs in grind (arith, nat_tests)

pub within_found : {X : Type 0} (p : X → Bool) (xs : List X) → IsTrue (nat_lt (position_or_len p xs) (length xs)) → IsTrue (list_any p xs)
within_found p [] within = absurd (grind (arith, nat_tests))
within_found p (x ∷ xs) within = let rest = within_found p xs in grind (arith, nat_tests)

-- the place of a name that is among them has the name
pub found_at : (name : List ℕ) (names : List (List ℕ)) → IsTrue (list_any (λ n. same_text n name) names)
    → IsAt names (position_or_len (λ n. same_text n name) names) name
found_at name [] some = absurd (false≢true some)
found_at name (n ∷ names) some = by_test (same_text n name)
    (λ is. let zero_place : position_or_len (λ k. same_text k name) (n ∷ names) ≡ 0 = grind (arith) in
    subst (λ k. IsAt (n ∷ names) k name) (sym zero_place) (ap Some (same_text_same n name is)))
    (λ other. let next : position_or_len (λ k. same_text k name) (n ∷ names) ≡ suc (position_or_len (λ k. same_text k name) names) = grind (arith) in
    let rest : IsTrue (list_any (λ k. same_text k name) names) = grind (arith) in
    subst (λ k. IsAt (n ∷ names) k name) (sym next) (found_at name names rest))

-- ---- names that differ

-- a name that stands later stands among the rest
pub distinct_apart : (xs : List (List ℕ)) → IsTrue (is_distinct xs) → (i j : ℕ) (x y : List ℕ) → IsAt xs i x → IsAt xs j y → i < j → IsTrue (same_text x y) → ⊥
distinct_apart [] distinct i j x y at_i at_j less same = none-some x at_i
distinct_apart (z ∷ xs) distinct i zero x y at_i at_j less same = omega (arith, less)
distinct_apart (z ∷ xs) distinct zero (suc j) x y at_i at_j less same =
    let none = not-true (list_any (same_text z) xs) (and_parts _ _ distinct).0 in
    let is : z ≡ x = same_Some z x at_i in
    let some : IsTrue (list_any (same_text z) xs) = list_any_from (same_text z) xs j y at_j (ap (λ n. same_text n y) is ∙ same) in
    false≢true (sym none ∙ some)
distinct_apart (z ∷ xs) distinct (suc i) (suc j) x y at_i at_j less same =
    distinct_apart xs (and_parts _ _ distinct).1 i j x y at_i at_j (omega (arith, less)) same

-- names of which no two are the same differ
pub distinct_from : (xs : List (List ℕ)) → ((i j : ℕ) (x y : List ℕ) → IsAt xs i x → IsAt xs j y → i < j → ¬ IsTrue (same_text x y)) → IsTrue (is_distinct xs)
distinct_from [] apart = refl
distinct_from (z ∷ xs) apart =
    and_from _ _ (not_from_false _ (by_test (list_any (same_text z) xs)
    (λ some. let found = list_any_at (same_text z) xs some in absurd (apart 0 (suc found.0) z found.1 refl found.2 (omega arith) found.3))
    (λ none. none)))
    (distinct_from xs (λ i j x y at_i at_j less. apart (suc i) (suc j) x y at_i at_j (omega (arith, less))))

-- the same for numbers
pub distinct_number_apart : (xs : List ℕ) → IsTrue (is_distinct_number xs) → (i j : ℕ) (x y : ℕ) → IsAt xs i x → IsAt xs j y → i < j → x ≡ y → ⊥
distinct_number_apart [] distinct i j x y at_i at_j less same = none-some x at_i
distinct_number_apart (z ∷ xs) distinct i zero x y at_i at_j less same = omega (arith, less)
distinct_number_apart (z ∷ xs) distinct zero (suc j) x y at_i at_j less same =
    let none = not-true (list_any (λ k. z == k) xs) (and_parts _ _ distinct).0 in
    let is : z ≡ x = same_Some z x at_i in
    let equal : z ≡ y = is ∙ same in
    let test : (z == y) ≡ true = grind (arith, nat_tests) in
    let some : IsTrue (list_any (λ k. z == k) xs) = list_any_from (λ k. z == k) xs j y at_j test in
    false≢true (sym none ∙ some)
distinct_number_apart (z ∷ xs) distinct (suc i) (suc j) x y at_i at_j less same =
    distinct_number_apart xs (and_parts _ _ distinct).1 i j x y at_i at_j (omega (arith, less)) same

pub distinct_number_from : (xs : List ℕ) → ((i j : ℕ) (x y : ℕ) → IsAt xs i x → IsAt xs j y → i < j → ¬ (x ≡ y)) → IsTrue (is_distinct_number xs)
distinct_number_from [] apart = refl
distinct_number_from (z ∷ xs) apart =
    and_from _ _ (not_from_false _ (by_test (list_any (λ k. z == k) xs)
    (λ some. let found = list_any_at (λ k. z == k) xs some in absurd (apart 0 (suc found.0) z found.1 refl found.2 (omega arith) (equal found.1 found.3)))
    (λ none. none)))
    (distinct_number_from xs (λ i j x y at_i at_j less. apart (suc i) (suc j) x y at_i at_j (omega (arith, less))))
  where
    equal : (y : ℕ) → (z == y) ≡ true → z ≡ y
    equal y test = grind (arith, nat_tests)
