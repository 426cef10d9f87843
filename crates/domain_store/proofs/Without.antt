-- Intervals without a number have exactly the others.
use Rattle.std.proofs.Common.{◌≡◌, ◌∙◌, ap, sym, ℕ, suc, ◌+◌, ◌<◌, Bool, true, false, ◌&&◌, ◌||◌, not, List, [], ◌∷◌, ◌++◌, take, drop, length, get_or, refl, ℤ, pos, arith}
use Rattle.std.specs.Prelude.{IsTrue, int_le, int_lt, ◌+ℤ◌, ◌-ℤ◌, if◌then◌else◌}
use Rattle.std.specs.Ordering.{int_eq}
use Rattle.std.specs.List.{list_all}
use Rattle.std.proofs.lemmas.Int.{ints}
use Rattle.std.proofs.lemmas.Bool.{and_parts, and_from}
use Rattle.std.proofs.lemmas.List.{drop_more, take-append-drop}
use Rattle.std.proofs.lemmas.List.Folds.{list_any-append, list_all-append}
use Rattle.domain_store.specs.declared.interval.Interval.{Interval}
use Rattle.domain_store.specs.Intervals.{is_inside, is_in_one, is_apart, ascend_apart}
use Rattle.domain_store.specs.steps.Without.{below, above, without, replaced}
use Rattle.domain_store.proofs.Intervals.{inside_parts, in_turn, past}

-- what is apart from an interval is apart from one that ends before it
ends_before : (r x : Interval) → IsTrue (int_le x.high r.high) → (rs : List Interval) → IsTrue (list_all (is_apart r) rs) → IsTrue (list_all (is_apart x) rs)
ends_before r x ends [] all = refl
ends_before r x ends (s ∷ rs) all =
    let both = and_parts (is_apart r s) (list_all (is_apart r) rs) all in
    and_from (is_apart x s) (list_all (is_apart x) rs) (by r.high s.low x.high ends both.0) (ends_before r x ends rs both.1)
  where
    by : (a b c : ℤ) → IsTrue (int_le c a) → IsTrue (int_lt (a +ℤ pos 1) b) → IsTrue (int_lt (c +ℤ pos 1) b)
    by a b c ends apart = grind (arith, ints)

module _ (n : ℤ) (r : Interval) (inside : IsTrue (is_inside r n)) where
  without_member : (v : ℤ) → is_in_one (without n r) v ≡ (is_inside r v && not (int_eq v n))
  without_member v = by r.low r.high inside (int_lt r.low n) (int_lt n r.high) refl refl
    where
      by : (a b : ℤ) → IsTrue (int_le a n && int_le n b) → (p q : Bool) → int_lt a n ≡ p → int_lt n b ≡ q
          → is_in_one (if p then (if q then record { low = a; high = n -ℤ pos 1 } ∷ record { low = n +ℤ pos 1; high = b } ∷ [] else record { low = a; high = n -ℤ pos 1 } ∷ []) else (if q then record { low = n +ℤ pos 1; high = b } ∷ [] else [])) v
          ≡ ((int_le a v && int_le v b) && not (int_eq v n))
      by a b within true true p q = grind (arith, ints)
      by a b within true false p q = grind (arith, ints)
      by a b within false true p q = grind (arith, ints)
      by a b within false false p q = grind (arith, ints)

  -- what lies before the interval lies before what is left of it
  without_apart : (s : Interval) → IsTrue (is_apart s r) → IsTrue (list_all (is_apart s) (without n r))
  without_apart s apart = by r.low r.high s.high apart inside (int_lt r.low n) (int_lt n r.high) refl refl
    where
      by : (a b c : ℤ) → IsTrue (int_lt (c +ℤ pos 1) a) → IsTrue (int_le a n && int_le n b) → (p q : Bool) → int_lt a n ≡ p → int_lt n b ≡ q
          → IsTrue (list_all (λ (x : Interval). int_lt (c +ℤ pos 1) x.low) (if p then (if q then record { low = a; high = n -ℤ pos 1 } ∷ record { low = n +ℤ pos 1; high = b } ∷ [] else record { low = a; high = n -ℤ pos 1 } ∷ []) else (if q then record { low = n +ℤ pos 1; high = b } ∷ [] else [])))
      by a b c apart within true true p q = grind (arith, ints)
      by a b c apart within true false p q = grind (arith, ints)
      by a b c apart within false true p q = grind (arith, ints)
      by a b c apart within false false p q = refl

  without_ascends : (rs : List Interval) → IsTrue (list_all (is_apart r) rs) → IsTrue (ascend_apart rs) → IsTrue (ascend_apart (without n r ++ rs))
  without_ascends rs all rest = by (int_lt r.low n) (int_lt n r.high) refl refl
    where
      lower : int_lt r.low n ≡ true → IsTrue (int_le r.low (n -ℤ pos 1))
      lower p = of r.low p
        where
          of : (a : ℤ) → int_lt a n ≡ true → IsTrue (int_le a (n -ℤ pos 1))
          of a p = grind (arith, ints)

      upper : int_lt n r.high ≡ true → IsTrue (int_le (n +ℤ pos 1) r.high)
      upper q = of r.high q
        where
          of : (b : ℤ) → int_lt n b ≡ true → IsTrue (int_le (n +ℤ pos 1) b)
          of b q = grind (arith, ints)

      gap : IsTrue (is_apart (below n r) (above n r))
      gap = grind (arith, ints)

      lower_all : IsTrue (list_all (is_apart (below n r)) rs)
      lower_all = ends_before r (below n r) (of r.high (inside_parts r n inside).1) rs all
        where
          of : (b : ℤ) → IsTrue (int_le n b) → IsTrue (int_le (n -ℤ pos 1) b)
          of b h = grind (arith, ints)

      upper_all : IsTrue (list_all (is_apart (above n r)) rs)
      upper_all = ends_before r (above n r) (of r.high) rs all
        where
          of : (b : ℤ) → IsTrue (int_le b b)
          of b = grind (arith, ints)

      one : (x : Interval) (xs : List Interval) → IsTrue (int_le x.low x.high) → IsTrue (list_all (is_apart x) xs) → IsTrue (ascend_apart xs) → IsTrue (ascend_apart (x ∷ xs))
      one x xs some apart more = and_from (int_le x.low x.high && list_all (is_apart x) xs) (ascend_apart xs) (and_from (int_le x.low x.high) (list_all (is_apart x) xs) some apart) more

      by : (p q : Bool) → int_lt r.low n ≡ p → int_lt n r.high ≡ q
          → IsTrue (ascend_apart ((if p then (if q then below n r ∷ above n r ∷ [] else below n r ∷ []) else (if q then above n r ∷ [] else [])) ++ rs))
      by true true p q = one (below n r) (above n r ∷ rs) (lower p) (and_from (is_apart (below n r) (above n r)) (list_all (is_apart (below n r)) rs) gap lower_all) (one (above n r) rs (upper q) upper_all rest)
      by true false p q = one (below n r) rs (lower p) lower_all rest
      by false true p q = one (above n r) rs (upper q) upper_all rest
      by false false p q = rest

  -- ---- among others

  at_front : (a b c : Bool) → (IsTrue c → IsTrue b) → ((a && b) || c) ≡ ((a || c) && b)
  at_front true true c later = refl
  at_front true false true later = sym (later refl)
  at_front true false false later = refl
  at_front false b true later = sym (later refl)
  at_front false b false later = refl

  behind : (a b c : Bool) → (IsTrue a → IsTrue c) → (a || (b && c)) ≡ ((a || b) && c)
  behind true b c first = sym (first refl)
  behind false b c first = refl

  pub removed_member : (xs rs : List Interval) → IsTrue (ascend_apart (xs ++ r ∷ rs)) → (v : ℤ)
      → is_in_one (xs ++ (without n r ++ rs)) v ≡ (is_in_one (xs ++ r ∷ rs) v && not (int_eq v n))
  removed_member [] rs h v =
      list_any-append (λ x. is_inside x v) (without n r) rs
      ∙ ap (λ b. b || is_in_one rs v) (without_member v)
      ∙ at_front (is_inside r v) (not (int_eq v n)) (is_in_one rs v) (λ there. by r.high (inside_parts r n inside).1 (past r rs v (in_turn r rs h).1 there))
    where
      by : (b : ℤ) → IsTrue (int_le n b) → IsTrue (int_lt (b +ℤ pos 1) v) → IsTrue (not (int_eq v n))
      by b within after = grind (arith, ints)
  removed_member (s ∷ xs) rs h v =
      let parts = in_turn s (xs ++ r ∷ rs) h in
      let later = and_parts (list_all (is_apart s) xs) (list_all (is_apart s) (r ∷ rs)) (sym (list_all-append (is_apart s) xs (r ∷ rs)) ∙ parts.1) in
      let apart = and_parts (is_apart s r) (list_all (is_apart s) rs) later.1 in
      ap (λ b. is_inside s v || b) (removed_member xs rs parts.2 v)
      ∙ behind (is_inside s v) (is_in_one (xs ++ r ∷ rs) v) (not (int_eq v n)) (λ there. by s.high r.low apart.0 (inside_parts s v there).1 (inside_parts r n inside).0)
    where
      by : (a b : ℤ) → IsTrue (int_lt (a +ℤ pos 1) b) → IsTrue (int_le v a) → IsTrue (int_le b n) → IsTrue (not (int_eq v n))
      by a b apart before from = grind (arith, ints)

  pub removed_ascends : (xs rs : List Interval) → IsTrue (ascend_apart (xs ++ r ∷ rs)) → IsTrue (ascend_apart (xs ++ (without n r ++ rs)))
  removed_ascends [] rs h = let parts = in_turn r rs h in without_ascends rs parts.1 parts.2
  removed_ascends (s ∷ xs) rs h =
      let parts = in_turn s (xs ++ r ∷ rs) h in
      let later = and_parts (list_all (is_apart s) xs) (list_all (is_apart s) (r ∷ rs)) (sym (list_all-append (is_apart s) xs (r ∷ rs)) ∙ parts.1) in
      let apart = and_parts (is_apart s r) (list_all (is_apart s) rs) later.1 in
      let left = list_all-append (is_apart s) (without n r) rs ∙ and_from (list_all (is_apart s) (without n r)) (list_all (is_apart s) rs) (without_apart s apart.0) apart.1 in
      let all = list_all-append (is_apart s) xs (without n r ++ rs) ∙ and_from (list_all (is_apart s) xs) (list_all (is_apart s) (without n r ++ rs)) later.0 left in
      and_from (int_le s.low s.high && list_all (is_apart s) (xs ++ (without n r ++ rs))) (ascend_apart (xs ++ (without n r ++ rs)))
      (and_from (int_le s.low s.high) (list_all (is_apart s) (xs ++ (without n r ++ rs))) parts.0 all)
      (removed_ascends xs rs parts.2)

-- ---- the interval at a place

module _ (n : ℤ) (found any : Interval) (k : ℕ) (old : List Interval) (within : k < length old) (read : found ≡ get_or old k any)
    (inside : IsTrue (is_inside found n)) where
  apart_there : old ≡ take k old ++ found ∷ drop (suc k) old
  apart_there =
      let on : k + 1 ≡ suc k = omega arith in
      sym (take-append-drop k old)
      ∙ ap (λ l. take k old ++ l) (drop_more old k any within ∙ (λ j. sym read j ∷ drop (on j) old))

  pub replaced_member : IsTrue (ascend_apart old) → (v : ℤ) → is_in_one (replaced old k (without n found)) v ≡ (is_in_one old v && not (int_eq v n))
  replaced_member h v =
      removed_member n found inside (take k old) (drop (suc k) old) (sym (ap ascend_apart apart_there) ∙ h) v
      ∙ ap (λ l. is_in_one l v && not (int_eq v n)) (sym apart_there)

  pub replaced_ascends : IsTrue (ascend_apart old) → IsTrue (ascend_apart (replaced old k (without n found)))
  replaced_ascends h = removed_ascends n found inside (take k old) (drop (suc k) old) (sym (ap ascend_apart apart_there) ∙ h)
