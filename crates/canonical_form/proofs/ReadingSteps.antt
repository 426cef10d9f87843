-- What the small steps of a reader tell.
use Rattle.std.proofs.Common.{◌≡◌, ◌≢◌, ℕ, ℤ, pos, negsuc, suc, ◌-◌, ◌<◌, ◌≤◌, ◌^◌, Bool, true, false, cond, ◌==◌, List, [], ◌∷◌, ◌++◌, length, take, drop, Option, Some, None, Result, Ok, to_z, of_z, refl, sym, ap, subst, ◌∙◌, append_assoc, length-append, arith}
use Rattle.std.specs.Prelude.{IsTrue, IfSome, MatchOption}
use Rattle.std.specs.Borrow.{Bor}
use Rattle.std.specs.List.{list_all}
use Rattle.std.specs.Fmt.{decimal, signed_decimal}
use Rattle.std.specs.Int.{w64}
use Rattle.std.specs.Int.Signed.{mag}
use Rattle.std.specs.Int.RustNames.{FitsSigned}
use Rattle.std.specs.Str.{IsUtf8}
use Rattle.std.specs.Str.Parse.{ParsesSigned}
use Rattle.std.proofs.lemmas.Int.{ints, to_z-of_z}
use Rattle.std.proofs.lemmas.Str.{IsUtf8-from_ascii}
use Rattle.std.proofs.lemmas.Fmt.{IsAscii-signed, parse-signed_decimal}
use Rattle.std.proofs.lemmas.Bool.{false≢true}
use Rattle.std.proofs.lemmas.Bool.Decides.{nat_tests}
use Rattle.std.proofs.lemmas.List.{take_at, drop_at, append_cancel_left}
use Rattle.prod_model.specs.Names.{same_text}
use Rattle.prod_model.specs.Limits
use Rattle.prod_model.specs.Limits.{is_within}
use Rattle.canonical_form.specs.AnswerParts.{End, belongs, behind_number}
use Rattle.canonical_form.specs.BadLine.{ends_there}
use Rattle.canonical_form.specs.steps.Reading.{Takes, IsToken, without_sign, is_link_from}
use Rattle.canonical_form.proofs.Tokens.{token_unique, decimal_digits}
use Rattle.canonical_form.proofs.OneNext.{within_pos, within_negsuc, sign_apart}
use Rattle.prod_model.proofs.NameLaws.{same_text_refl}

pub stripped_found : (s p : List ℕ) (r : Option (Bor (List ℕ))) → MatchOption r ((rest : List ℕ) → s ≢ p ++ rest) (λ x. s ≡ p ++ x.now) → IfSome r (λ x. s ≡ p ++ x.now)
stripped_found s p None cases = tt
stripped_found s p (Some x) cases = cases

pub stripped_none : (s p : List ℕ) (r : Option (Bor (List ℕ))) → MatchOption r ((rest : List ℕ) → s ≢ p ++ rest) (λ x. s ≡ p ++ x.now) → r ≡ None → (rest : List ℕ) → s ≢ p ++ rest
stripped_none s p None cases none = cases
stripped_none s p (Some x) cases none = absurd (cc)

-- ---- tokens

-- a text of such bytes that ends there is the token
pub token_is : (end : End) (bytes front rest text behind : List ℕ) → IsToken end bytes front rest → list_all (belongs end) text ≡ true → Takes text end bytes behind
    → (front ≡ text) × (rest ≡ behind)
token_is end bytes front rest text behind token all takes =
    token_unique end front text rest behind token.belonging all token.takes.ends takes.ends (sym token.takes.parts ∙ takes.parts)

pub number_is : (n : ℕ) (bytes front rest behind : List ℕ) → n < 2 ^ 64 → IsToken behind_number bytes front rest → Takes (decimal n) behind_number bytes behind
    → (front ≡ decimal n) × (rest ≡ behind)
number_is n bytes front rest behind fits token takes = token_is behind_number bytes front rest (decimal n) behind token (decimal_digits n fits) takes

-- ---- signs

take_front : (front rest bytes : List ℕ) → bytes ≡ front ++ rest → take (length bytes - length rest) bytes ≡ front
take_front front rest bytes parts =
    let long : length front ≡ length bytes - length rest = omega (arith, length-append front rest, ap length parts) in
    ap (take (length bytes - length rest)) parts ∙ take_at front rest (length bytes - length rest) long

drop_front : (front rest bytes : List ℕ) → bytes ≡ front ++ rest → drop (length bytes - length rest) bytes ≡ rest
drop_front front rest bytes parts =
    let long : length front ≡ length bytes - length rest = omega (arith, length-append front rest, ap length parts) in
    ap (drop (length bytes - length rest)) parts ∙ drop_at front rest (length bytes - length rest) long

sign_cases : (b : ℕ) (bs : List ℕ) (t : Bool) → (b == 45) ≡ t → without_sign (b ∷ bs) ≡ cond t bs (b ∷ bs)
sign_cases b bs t is = ap (λ u. cond u bs (b ∷ bs)) is

-- what stands behind a sign ends the bytes
record IsFront (bytes behind : List ℕ) : Type 0 where
  front : List ℕ
  parts : bytes ≡ front ++ behind

sign_front : (b : ℕ) (bs : List ℕ) (t : Bool) → IsFront (b ∷ bs) (cond t bs (b ∷ bs))
sign_front b bs true = record { front = b ∷ []; parts = refl }
sign_front b bs false = record { front = []; parts = refl }

without_sign_front : (bytes : List ℕ) → IsFront bytes (without_sign bytes)
without_sign_front [] = record { front = []; parts = refl }
without_sign_front (b ∷ bs) = sign_front b bs (b == 45)

pub signed_takes : (bytes digits rest front : List ℕ) → IsToken behind_number (without_sign bytes) digits rest → front ≡ take (length bytes - length rest) bytes
    → (behind : List ℕ) → behind ≡ drop (length bytes - length rest) bytes → Takes front behind_number bytes behind
signed_takes bytes digits rest front token is behind behind_is =
    let f = without_sign_front bytes in
    let parts : bytes ≡ (f.front ++ digits) ++ rest = f.parts ∙ ap (λ t. f.front ++ t) token.takes.parts ∙ sym (append_assoc f.front digits rest) in
    let taken : front ≡ f.front ++ digits = is ∙ take_front (f.front ++ digits) rest bytes parts in
    let left : behind ≡ rest = behind_is ∙ drop_front (f.front ++ digits) rest bytes parts in
    record { parts = parts ∙ ap (λ t. t ++ rest) (sym taken) ∙ ap (λ t. front ++ t) (sym left); ends = subst (λ t. IsTrue (ends_there behind_number t)) (sym left) token.takes.ends }

is_sign : (b : ℕ) → b ≡ 45 → (b == 45) ≡ true
is_sign b same = grind (arith, nat_tests)

no_sign : (b : ℕ) → (b == 45) ≡ true → b ≡ 45
no_sign b same = grind (arith, nat_tests)

-- behind the sign of a number its digits are the token
rest_is : (bytes digits rest behind : List ℕ) (v : ℤ) → is_within Limits.farthest_end v ≡ true → IsToken behind_number (without_sign bytes) digits rest
    → Takes (signed_decimal v) behind_number bytes behind → rest ≡ behind
rest_is [] digits rest behind (pos n) within token takes =
    (number_is n [] digits rest behind (within_pos n within) token takes).1
rest_is [] digits rest behind (negsuc n) within token takes = absurd (let e : [] ≡ 45 ∷ (decimal (suc n) ++ behind) = takes.parts in cc)
rest_is (b ∷ bs) digits rest behind (pos n) within token takes = rest_of_pos (b == 45) refl
  where
    rest_of_pos : (t : Bool) → (b == 45) ≡ t → rest ≡ behind
    rest_of_pos true is = absurd (sign_apart n behind bs (within_pos n within) (sym takes.parts ∙ ap (λ c. c ∷ bs) (no_sign b is)))
    rest_of_pos false is =
        (number_is n (b ∷ bs) digits rest behind (within_pos n within) (subst (λ bytes. IsToken behind_number bytes digits rest) (sign_cases b bs false is) token) takes).1
rest_is (b ∷ bs) digits rest behind (negsuc n) within token takes =
    let head : b ∷ bs ≡ 45 ∷ (decimal (suc n) ++ behind) = takes.parts in
    let sign : b ≡ 45 = cc in
    let tail : bs ≡ decimal (suc n) ++ behind = cc in
    let token' = subst (λ bytes. IsToken behind_number bytes digits rest) (sign_cases b bs true (is_sign b sign)) token in
    (number_is (suc n) bs digits rest behind (within_negsuc n within) token' (record { parts = tail; ends = takes.ends })).1

pub signed_only : (bytes digits rest front behind : List ℕ) (v : ℤ) → is_within Limits.farthest_end v ≡ true → IsToken behind_number (without_sign bytes) digits rest
    → front ≡ take (length bytes - length rest) bytes → Takes (signed_decimal v) behind_number bytes behind → signed_decimal v ≡ front
signed_only bytes digits rest front behind v within token is takes =
    let same = rest_is bytes digits rest behind v within token takes in
    sym (take_front (signed_decimal v) rest bytes (takes.parts ∙ ap (λ t. signed_decimal v ++ t) (sym same))) ∙ sym is

-- ---- numbers and their texts

within_mag : (v : ℤ) → is_within Limits.farthest_end v ≡ true → mag v < 2 ^ 63
within_mag (pos n) within = grind (arith, nat_tests, ints)
within_mag (negsuc n) within = grind (arith, nat_tests, ints)

within_fits : (v : ℤ) → is_within Limits.farthest_end v ≡ true → FitsSigned w64 v
within_fits (pos n) within = grind (arith, nat_tests, ints)
within_fits (negsuc n) within = grind (arith, nat_tests, ints)

pub signed_utf8 : (v : ℤ) (text : List ℕ) → is_within Limits.farthest_end v ≡ true → text ≡ signed_decimal v → IsUtf8 text
signed_utf8 v text within same = subst IsUtf8 (sym same) (IsUtf8-from_ascii (signed_decimal v) (IsAscii-signed v (within_mag v within)))

pub signed_parses : {E : Type 0} (v : ℤ) (text : List ℕ) (r : Result ℤ E) → is_within Limits.farthest_end v ≡ true → text ≡ signed_decimal v → ParsesSigned w64 10 text r → r ≡ Ok v
signed_parses v text r within same parses = parse-signed_decimal w64 v text r (within_fits v within) (within_mag v within) same parses

pub another_text : (v : ℤ) (text : List ℕ) → text ≡ signed_decimal v → same_text (signed_decimal v) text ≡ false → ⊥
another_text v text same other =
    let e : same_text (signed_decimal v) (signed_decimal v) ≡ false = subst (λ t. same_text (signed_decimal v) t ≡ false) same other in
    false≢true (sym e ∙ same_text_refl (signed_decimal v))

pub link_within : (low j : ℕ) → j < Limits.most_instances → is_within Limits.farthest_end (pos j) ≡ true
link_within low j few = grind (arith, nat_tests, ints)

pub link_is : (low j : ℕ) → low ≤ j → j < Limits.most_instances → is_link_from low (pos j) ≡ true
link_is low j from few = grind (arith, nat_tests, ints)

-- ---- what is kept of a number

pub wrapped_text : (v z : ℤ) (text : List ℕ) → FitsSigned w64 v → z ≡ v → text ≡ signed_decimal v → same_text (signed_decimal (to_z w64 (of_z w64 z))) text ≡ false → ⊥
wrapped_text v z text fits same is other =
    let back : to_z w64 (of_z w64 z) ≡ v = ap (λ y. to_z w64 (of_z w64 y)) same ∙ to_z-of_z w64 v fits in
    another_text v text is (subst (λ y. same_text (signed_decimal y) text ≡ false) back other)

pub small_fits : (n : ℕ) → n < 2 ^ 32 → FitsSigned w64 (pos n)
small_fits n small = grind (arith, ints)

some_number : (v z : ℤ) → Some v ≡ Some z → v ≡ z
some_number v z same = cc

pub no_link_from : (low j : ℕ) (v : ℤ) → Some v ≡ Some (pos j) → low ≤ j → j < Limits.most_instances → is_link_from low (to_z w64 (of_z w64 v)) ≡ false → ⊥
no_link_from low j v same from few other =
    let back : to_z w64 (of_z w64 v) ≡ pos j = ap (λ y. to_z w64 (of_z w64 y)) (some_number v (pos j) same) ∙ to_z-of_z w64 (pos j) (small_fits j (omega arith)) in
    let refused : is_link_from low (pos j) ≡ false = subst (λ y. is_link_from low y ≡ false) back other in
    false≢true (sym refused ∙ link_is low j from few)

-- ---- what stands behind a name and a sign

same_tail : (b : ℕ) (xs ys : List ℕ) → b ∷ xs ≡ b ∷ ys → xs ≡ ys
same_tail b xs ys same = cc

pub piece_behind : (sign : ℕ) (name named value behind rest bytes : List ℕ) → named ≡ name → bytes ≡ 32 ∷ (named ++ (sign ∷ behind))
    → bytes ≡ ((32 ∷ name) ++ (sign ∷ []) ++ value) ++ rest → behind ≡ value ++ rest
piece_behind sign name named value behind rest bytes is found parts =
    let whole : 32 ∷ (name ++ (sign ∷ behind)) ≡ 32 ∷ (name ++ (sign ∷ (value ++ rest))) =
    ap (λ n. 32 ∷ (n ++ (sign ∷ behind))) (sym is) ∙ sym found ∙ parts ∙ simp append_assoc in
    same_tail sign behind (value ++ rest) (append_cancel_left name _ _ (same_tail 32 _ _ whole))
