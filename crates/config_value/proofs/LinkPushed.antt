-- First mentions of instances, with one link more at the end.
use Rattle.std.proofs.Common.{◌≡◌, ℕ, ◌+◌, ◌-◌, ◌<◌, ◌≤◌, ◌∙◌, ap, sym, cond, Bool, true, false, ◌&&◌, ◌||◌, ◌==◌, nat_lt, List, [], ◌∷◌, ◌++◌, length, Option, Some, None, refl, ltb-true, lt-ltb, le-ltb, ap₂, add-zero, arith}
use Rattle.std.specs.Option.{option_map_or, option_or, is_some}
use Rattle.std.specs.List.{find, position, position_from}
use Rattle.std.proofs.lemmas.List.Folds.{find-append}
use Rattle.std.proofs.lemmas.Iterator.Adapters.{position_from-zero}
use Rattle.std.proofs.lemmas.Bool.Decides.{nat_tests}
use Rattle.config_value.specs.Numbered.{Link}
use Rattle.config_value.proofs.Mention.{is_some_position, leads_to, from_lower, mentioned_lower, comes_before, mentioned_before}

-- ---- what is first found, with one element more

or_cond : {A : Type 0} (b : Bool) (x : A) (o q : Option A) → cond b (Some x) (option_or o q) ≡ option_or (cond b (Some x) o) q
or_cond true x o q = refl
or_cond false x o q = refl

position_from_pushed : (p : Link → Bool) (i : ℕ) (ls : List Link) (l : Link) → position_from p i (ls ++ l ∷ []) ≡ option_or (position_from p i ls) (cond (p l) (Some (i + length ls)) None)
position_from_pushed p i [] l = ap (λ n. cond (p l) (Some n) None) (sym (add-zero i))
position_from_pushed p i (x ∷ ls) l =
    ap (cond (p x) (Some i)) (position_from_pushed p (i + 1) ls l)
    ∙ or_cond (p x) i (position_from p (i + 1) ls) (cond (p l) (Some (i + 1 + length ls)) None)
    ∙ ap (λ n. option_or (cond (p x) (Some i) (position_from p (i + 1) ls)) (cond (p l) (Some n) None)) (omega arith)

from_below_cond : (b : Bool) (i n : ℕ) (o : Option ℕ) → i < n → option_map_or (λ a. nat_lt a n) o true ≡ true → option_map_or (λ a. nat_lt a n) (cond b (Some i) o) true ≡ true
from_below_cond true i n o low below = lt-ltb i n low
from_below_cond false i n o low below = below

from_below : (p : Link → Bool) (i n : ℕ) (ls : List Link) → n ≡ i + length ls → option_map_or (λ a. nat_lt a n) (position_from p i ls) true ≡ true
from_below p i n [] end = refl
from_below p i n (x ∷ ls) end = from_below_cond (p x) i n (position_from p (i + 1) ls) (omega arith) (from_below p (i + 1) n ls (omega arith))

find_pushed : (p : Link → Bool) (ls : List Link) (l : Link) → find p (ls ++ l ∷ []) ≡ option_or (find p ls) (cond (p l) (Some l) None)
find_pushed p ls l = find-append p ls (l ∷ [])

position_pushed : (p : Link → Bool) (ls : List Link) (l : Link) → position p (ls ++ l ∷ []) ≡ option_or (position p ls) (cond (p l) (Some (length ls)) None)
position_pushed p ls l =
    position_from-zero p (ls ++ l ∷ []) ∙ position_from_pushed p 0 ls l
    ∙ ap (λ n. option_or (position_from p 0 ls) (cond (p l) (Some n) None)) (omega arith)
    ∙ ap (λ o. option_or o (cond (p l) (Some (length ls)) None)) (sym (position_from-zero p ls))

position_below : (p : Link → Bool) (ls : List Link) → option_map_or (λ a. nat_lt a (length ls)) (position p ls) true ≡ true
position_below p ls = ap (λ o. option_map_or (λ a. nat_lt a (length ls)) o true) (position_from-zero p ls) ∙ from_below p 0 (length ls) ls (omega arith)

-- ---- mentions

before_pushed : (n : ℕ) (a b : Option ℕ) (ti tj : Bool) → option_map_or (λ k. nat_lt k n) a true ≡ true → option_map_or (λ k. nat_lt k n) b true ≡ true → (ti && tj) ≡ false
    → comes_before (option_or a (cond ti (Some n) None)) (option_or b (cond tj (Some n) None)) ≡ cond (is_some b) (comes_before a b) (cond tj (is_some a) false)
before_pushed n None None true true low high apart = absurd cc
before_pushed n None None true false low high apart = refl
before_pushed n None None false true low high apart = refl
before_pushed n None None false false low high apart = refl
before_pushed n None (Some k) true tj low high apart = le-ltb n k (omega (arith, ltb-true k n high))
before_pushed n None (Some k) false tj low high apart = refl
before_pushed n (Some k) None ti true low high apart = low
before_pushed n (Some k) None ti false low high apart = refl
before_pushed n (Some k) (Some h) ti tj low high apart = refl

lower_pushed : (j : ℕ) (l : Link) (o : Option Link) (t : Bool) → from_lower j (option_or o (cond t (Some l) None)) ≡ cond (is_some o) (from_lower j o) (cond t (nat_lt l.from j) false)
lower_pushed j l None true = refl
lower_pushed j l None false = refl
lower_pushed j l (Some k) t = refl

-- a link leads to the instance
abbrev pub is_mentioned : List Link → ℕ → Bool
is_mentioned ls j = is_some (find (leads_to j) ls)

-- the instance is first mentioned by a lower one, and, but for instance 1, after the instance numbered one less
abbrev pub in_turn_of : List Link → ℕ → Bool
in_turn_of ls j = mentioned_lower ls j && ((j == 1) || mentioned_before ls (j - 1) j)

pub mentioned_pushed : (ls : List Link) (l : Link) (j : ℕ) → is_mentioned (ls ++ l ∷ []) j ≡ (is_mentioned ls j || (l.to == j))
mentioned_pushed ls l j = ap is_some (find_pushed (leads_to j) ls l) ∙ by_cases (find (leads_to j) ls) (l.to == j)
  where
    by_cases : (o : Option Link) (t : Bool) → is_some (option_or o (cond t (Some l) None)) ≡ (is_some o || t)
    by_cases None true = refl
    by_cases None false = refl
    by_cases (Some k) t = refl

both_pushed : (found leads lower low one before earlier : Bool)
    → (cond found lower (cond leads low false) && (one || cond found before (cond leads earlier false)))
    ≡ cond found (lower && (one || before)) (cond leads (low && (one || earlier)) false)
both_pushed true leads lower low one before earlier = refl
both_pushed false true lower low one before earlier = refl
both_pushed false false lower low one before earlier = refl

apart : (to j : ℕ) → 1 ≤ j → ((to == (j - 1)) && (to == j)) ≡ false
apart to j high = grind (arith, nat_tests)

-- one more link settles the turn of an instance that none before leads to
pub in_turn_pushed : (ls : List Link) (l : Link) (j : ℕ) → 1 ≤ j
    → in_turn_of (ls ++ l ∷ []) j ≡ cond (is_mentioned ls j) (in_turn_of ls j) (cond (l.to == j) (nat_lt l.from j && ((j == 1) || is_mentioned ls (j - 1))) false)
in_turn_pushed ls l j high =
    let at_j = position (leads_to j) ls in
    let at_i = position (leads_to (j - 1)) ls in
    let lower : mentioned_lower (ls ++ l ∷ []) j ≡ cond (is_mentioned ls j) (mentioned_lower ls j) (cond (l.to == j) (nat_lt l.from j) false) =
    ap (from_lower j) (find_pushed (leads_to j) ls l) ∙ lower_pushed j l (find (leads_to j) ls) (l.to == j) in
    let before : mentioned_before (ls ++ l ∷ []) (j - 1) j ≡ cond (is_mentioned ls j) (mentioned_before ls (j - 1) j) (cond (l.to == j) (is_mentioned ls (j - 1)) false) =
    ap₂ comes_before (position_pushed (leads_to (j - 1)) ls l) (position_pushed (leads_to j) ls l)
    ∙ before_pushed (length ls) at_i at_j (l.to == (j - 1)) (l.to == j) (position_below (leads_to (j - 1)) ls) (position_below (leads_to j) ls) (apart l.to j high)
    ∙ ap₂ (λ f g. cond f (mentioned_before ls (j - 1) j) (cond (l.to == j) g false)) (is_some_position (leads_to j) ls) (is_some_position (leads_to (j - 1)) ls) in
    ap₂ (λ a b. a && ((j == 1) || b)) lower before
    ∙ both_pushed (is_mentioned ls j) (l.to == j) (mentioned_lower ls j) (nat_lt l.from j) (j == 1) (mentioned_before ls (j - 1) j) (is_mentioned ls (j - 1))

-- an instance that no link leads to is not in turn
pub in_turn_mentioned : (ls : List Link) (j : ℕ) → is_mentioned ls j ≡ false → in_turn_of ls j ≡ false
in_turn_mentioned ls j none = by_found (find (leads_to j) ls) none
  where
    by_found : (o : Option Link) → is_some o ≡ false → (from_lower j o && ((j == 1) || mentioned_before ls (j - 1) j)) ≡ false
    by_found None none = refl
    by_found (Some l) none = absurd cc
