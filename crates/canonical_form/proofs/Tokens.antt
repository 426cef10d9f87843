-- A number, a name or a word ends at the first byte that can't belong to it, so bytes begin with one of them at most.
use Rattle.std.proofs.Common.{◌≡◌, ℕ, zero, suc, ◌+◌, ◌<◌, ◌≤◌, ◌^◌, Bool, true, false, List, [], ◌∷◌, ◌++◌, length, take, drop, get_or, refl, sym, subst, arith}
use Rattle.std.specs.Prelude.{IsTrue}
use Rattle.std.specs.List.{list_all}
use Rattle.std.specs.Fmt.{decimal}
use Rattle.std.specs.Char.{digit_value}
use Rattle.std.specs.Str.Parse.{AllDigits}
use Rattle.std.proofs.lemmas.Bool.{false≢true}
use Rattle.std.proofs.lemmas.Bool.Decides.{nat_tests}
use Rattle.std.proofs.lemmas.Fmt.{decimal_is_IsNumeral}
use Rattle.prod_model.specs.Names.{is_digit}
use Rattle.canonical_form.specs.AnswerParts.{End, belongs}
use Rattle.canonical_form.specs.BadLine.{ends_there}

head_stays : (end : End) (b : ℕ) (bs x : List ℕ) → belongs end b ≡ true → IsTrue (ends_there end x) → x ≡ b ∷ bs → ⊥
head_stays end b bs x belonging ends same =
    let out : IsTrue (ends_there end (b ∷ bs)) = subst (λ v. IsTrue (ends_there end v)) same ends in
    false≢true (grind (arith))

pub token_unique : (end : End) (a b x y : List ℕ) → list_all (belongs end) a ≡ true → list_all (belongs end) b ≡ true
    → IsTrue (ends_there end x) → IsTrue (ends_there end y) → a ++ x ≡ b ++ y → (a ≡ b) × (x ≡ y)
token_unique end [] [] x y all_a all_b ends_x ends_y same = (refl, same)
token_unique end [] (b ∷ bs) x y all_a all_b ends_x ends_y same = absurd (head_stays end b (bs ++ y) x (grind (arith)) ends_x same)
token_unique end (a ∷ as') [] x y all_a all_b ends_x ends_y same = absurd (head_stays end a (as' ++ x) y (grind (arith)) ends_y (sym same))
token_unique end (a ∷ as') (b ∷ bs) x y all_a all_b ends_x ends_y same =
    let rest = token_unique end as' bs x y (grind (arith)) (grind (arith)) ends_x ends_y (cc) in
    let first : a ≡ b = cc in
    let both : as' ≡ bs = rest.0 in
    (cc, rest.1)

-- ---- digits

digit_from_value : (c : ℕ) → digit_value c < 10 → is_digit c ≡ true
digit_from_value c low = grind (arith, nat_tests)

digits_all : (bs : List ℕ) → AllDigits 10 bs → list_all is_digit bs ≡ true
digits_all [] all = refl
digits_all (b ∷ bs) all = let here = digit_from_value b all.0 in let rest = digits_all bs all.1 in grind (arith)

pub decimal_digits : (n : ℕ) → n < 2 ^ 64 → list_all is_digit (decimal n) ≡ true
decimal_digits n fits = digits_all (decimal n) (decimal_is_IsNumeral n fits).0.1

first_of_digits : (bs : List ℕ) → 0 < length bs → list_all is_digit bs ≡ true → (d : ℕ) × (ds : List ℕ) × (bs ≡ d ∷ ds) × (is_digit d ≡ true)
first_of_digits [] some all = absurd (omega arith)
first_of_digits (d ∷ ds) some all = (d, ds, refl, grind (arith))

-- the first of the digits
pub decimal_cons : (n : ℕ) → n < 2 ^ 64 → (d : ℕ) × (ds : List ℕ) × (decimal n ≡ d ∷ ds) × (is_digit d ≡ true)
decimal_cons n fits = first_of_digits (decimal n) (decimal_is_IsNumeral n fits).0.0 (decimal_digits n fits)

-- ---- a token, byte by byte

pub list_all_take_more : (p : ℕ → Bool) (bs : List ℕ) (n : ℕ) → n < length bs → list_all p (take n bs) ≡ true → p (get_or bs n 0) ≡ true → list_all p (take (n + 1) bs) ≡ true
list_all_take_more p [] n within front here = absurd (omega arith)
list_all_take_more p (b ∷ bs) zero within front here = grind (arith)
list_all_take_more p (b ∷ bs) (suc n) within front here =
    let e : suc n + 1 ≡ suc (n + 1) = omega arith in
    let rest = list_all_take_more p bs n (omega arith) (grind (arith)) here in
    rw e (grind (arith))

pub ends_at : (end : End) (bs : List ℕ) (n : ℕ) → n < length bs → belongs end (get_or bs n 0) ≡ false → IsTrue (ends_there end (drop n bs))
ends_at end [] n within out = absurd (omega arith)
ends_at end (b ∷ bs) zero within out = grind (arith)
ends_at end (b ∷ bs) (suc n) within out = ends_at end bs n (omega arith) out

pub ends_past : (end : End) (bs : List ℕ) (n : ℕ) → length bs ≤ n → IsTrue (ends_there end (drop n bs))
ends_past end [] zero past = refl
ends_past end [] (suc n) past = refl
ends_past end (b ∷ bs) zero past = absurd (omega arith)
ends_past end (b ∷ bs) (suc n) past = ends_past end bs n (omega arith)
