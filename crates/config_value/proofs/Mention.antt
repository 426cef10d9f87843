-- First mentions in a list of links, link by link.
use Rattle.std.proofs.Common.{◌≡◌, ℕ, suc, ◌+◌, Bool, true, false, cond, ◌&&◌, ◌==◌, nat_lt, List, [], ◌∷◌, Option, None, Some, refl, sym, ap, ◌∙◌, arith}
use Rattle.std.specs.Option.{option_map, option_map_or, is_some}
use Rattle.std.specs.List.{position, position_from, find}
use Rattle.std.proofs.lemmas.Bool.{lt-ltb, le-ltb}
use Rattle.std.proofs.lemmas.Bool.Decides.{nat_tests}
use Rattle.std.proofs.lemmas.Iterator.Adapters.{position_from-zero}
use Rattle.std.proofs.Math.Bool.{and-true}
use Rattle.config_value.specs.Numbered.{Link}

-- ---- what `is_numbered` tests, of any list of links

abbrev pub leads_to : ℕ → Link → Bool
leads_to j l = l.to == j

-- the link, if there is one, comes from an instance below j
abbrev pub from_lower : ℕ → Option Link → Bool
from_lower j o = option_map_or (λ i. nat_lt i j) (option_map (λ l. l.from) o) false

abbrev pub mentioned_lower : List Link → ℕ → Bool
mentioned_lower ls j = from_lower j (find (leads_to j) ls)

-- the first place is before the second, and both are there
abbrev pub comes_before : Option ℕ → Option ℕ → Bool
comes_before p q = option_map_or (λ a. option_map_or (λ b. nat_lt a b) q false) p false

abbrev pub mentioned_before : List Link → ℕ → ℕ → Bool
mentioned_before ls i j = comes_before (position (leads_to i) ls) (position (leads_to j) ls)

-- ---- one link more in front

position_from_suc : (p : Link → Bool) (i : ℕ) (ls : List Link)
    → position_from p (i + 1) ls ≡ option_map suc (position_from p i ls)
position_from_suc p i [] = refl
position_from_suc p i (l ∷ ls) = by_test (p l) _ _ (position_from_suc p (i + 1) ls)
  where
    by_test : (t : Bool) (o q : Option ℕ) → q ≡ option_map suc o
        → cond t (Some (i + 1)) q ≡ option_map suc (cond t (Some i) o)
    by_test true o q same = ap Some (omega arith)
    by_test false o q same = same

position_cons : (p : Link → Bool) (l : Link) (ls : List Link)
    → position p (l ∷ ls) ≡ cond (p l) (Some 0) (option_map suc (position p ls))
position_cons p l ls =
    position_from-zero p (l ∷ ls)
    ∙ ap (cond (p l) (Some 0)) (position_from_suc p 0 ls ∙ ap (option_map suc) (sym (position_from-zero p ls)))

is_some_cond : (t : Bool) {A B : Type 0} (x : A) (y : B) (f : B → B) (o : Option A) (q : Option B)
    → is_some q ≡ is_some o → is_some (cond t (Some y) (option_map f q)) ≡ is_some (cond t (Some x) o)
is_some_cond true x y f o q same = refl
is_some_cond false x y f o None same = same
is_some_cond false x y f o (Some z) same = same

-- an element that is found has a place
pub is_some_position : (p : Link → Bool) (ls : List Link) → is_some (position p ls) ≡ is_some (find p ls)
is_some_position p [] = refl
is_some_position p (l ∷ ls) =
    ap is_some (position_cons p l ls)
    ∙ is_some_cond (p l) l 0 suc (find p ls) (position p ls) (is_some_position p ls)

comes_before_cons : (s t : Bool) (p q : Option ℕ)
    → comes_before (cond s (Some 0) (option_map suc p)) (cond t (Some 0) (option_map suc q))
    ≡ cond t false (cond s (is_some q) (comes_before p q))
comes_before_cons true true p q = refl
comes_before_cons false true None q = refl
comes_before_cons false true (Some a) q = le-ltb (suc a) 0 (omega arith)
comes_before_cons true false p None = refl
comes_before_cons true false p (Some b) = lt-ltb 0 (suc b) (omega arith)
comes_before_cons false false None q = refl
comes_before_cons false false (Some a) None = refl
comes_before_cons false false (Some a) (Some b) = grind (arith, nat_tests)

-- whether the first link mentions the later instance, the earlier one, or neither
pub mentioned_before_cons : (l : Link) (ls : List Link) (i j : ℕ)
    → mentioned_before (l ∷ ls) i j
    ≡ cond (l.to == j) false (cond (l.to == i) (is_some (find (leads_to j) ls)) (mentioned_before ls i j))
mentioned_before_cons l ls i j =
    ap (λ p. comes_before p (position (leads_to j) (l ∷ ls))) (position_cons (leads_to i) l ls)
    ∙ ap (comes_before (cond (l.to == i) (Some 0) (option_map suc (position (leads_to i) ls))))
    (position_cons (leads_to j) l ls)
    ∙ comes_before_cons (l.to == i) (l.to == j) (position (leads_to i) ls) (position (leads_to j) ls)
    ∙ ap (λ b. cond (l.to == j) false (cond (l.to == i) b (mentioned_before ls i j)))
    (is_some_position (leads_to j) ls)

-- what a lower instance mentions is mentioned
pub mentioned_lower_is_some : (ls : List Link) (j : ℕ)
    → (mentioned_lower ls j && is_some (find (leads_to j) ls)) ≡ mentioned_lower ls j
mentioned_lower_is_some ls j = by_find (find (leads_to j) ls)
  where
    by_find : (o : Option Link) → (from_lower j o && is_some o) ≡ from_lower j o
    by_find None = refl
    by_find (Some l) = and-true (nat_lt l.from j)
