-- Sums over instances fit.
use Rattle.std.proofs.Common.{◌≡◌, ℕ, zero, suc, ◌≤◌, ◌*◌, ℤ, pos, negsuc, ◌+ℤ◌, ◌*ℤ◌, ◌≤ℤ◌, Bool, true, false, cond, List, [], ◌∷◌, ◌++◌, map, length, refl, sym, ap, ◌∙◌, subst, arith}
use Rattle.std.specs.Prelude.{IsTrue, IsFalse, int_le, int_lt}
use Rattle.std.specs.Int.{int_min, int_max}
use Rattle.std.specs.Ordering.{int_eq}
use Rattle.std.proofs.Math.IntN.{pos-*ℤ-pos, pos-*ℤ-negsuc, zero-*ℤ, *ℤ-zero, suc_ℤ-*ℤ}
use Rattle.std.proofs.Math.Nat.{mul-le-mul_right}
use Rattle.std.proofs.lemmas.Simd.{map-map}
use Rattle.std.proofs.lemmas.Bool.{false≢true}
use Rattle.std.proofs.lemmas.Int.{ints, clamps}
use Rattle.prod_model.specs.ExprBounds.{sum_of}
use Rattle.base_laws.specs.Places.{IsAt}
use Rattle.config_value.specs.declared.literal.Literal.{Literal}
use Rattle.state_values.specs.Kleene.{Kleene, True, False, Open}
use Rattle.state_values.specs.Tallies.{Share, Rest, shows_low, shows_high, share_low, share_high, share_range, by_sign, rest_range, tally}
use Rattle.state_values.specs.Ranges.{ranges_sum}
use Rattle.state_values.specs.Fits.{HoldAll, FitsLow, FitsHigh, FitsRange, FitsTruth}
use Rattle.state_values.proofs.KleeneLaws.{front, back}
use Rattle.state_values.proofs.RangeLaws.{fits_range_sum, fits_ranges_sum, sum_cons}

-- as many numbers as the list has, from a to b each
sum_between : (a b : ℤ) (ns : List ℤ) → ((k : ℕ) (n : ℤ) → IsAt ns k n → a ≤ℤ n) → ((k : ℕ) (n : ℤ) → IsAt ns k n → n ≤ℤ b)
    → ((pos (length ns) *ℤ a) ≤ℤ sum_of ns) × (sum_of ns ≤ℤ (pos (length ns) *ℤ b))
sum_between a b [] low high = (omega (arith, ints, zero-*ℤ a), omega (arith, ints, zero-*ℤ b))
sum_between a b (n ∷ ns) low high =
    let rest = sum_between a b ns (λ k. low (suc k)) (λ k. high (suc k)) in
    let l = low 0 n refl in
    let h = high 0 n refl in
    (omega (arith, ints, l, rest.0, sum_cons n ns, suc_ℤ-*ℤ (pos (length ns)) a), omega (arith, ints, h, rest.1, sum_cons n ns, suc_ℤ-*ℤ (pos (length ns)) b))

module _ (H : Literal → Type 0) where
  -- what a counted instance really adds, and that the share tells it
  pub record FitsCounted (s : Share) (x : ℤ) : Type 0 where
    pub least : s.least ≤ℤ x
    pub greatest : x ≤ℤ s.greatest
    pub low : (n : ℤ) → n ≤ℤ s.low → HoldAll H (s.at_least n) → n ≤ℤ x
    pub high : (n : ℤ) → s.high ≤ℤ n → HoldAll H (s.at_most n) → x ≤ℤ n

  shown_low : (s : Share) (x n : ℤ) → FitsCounted s x → n ≤ℤ s.low → HoldAll H (shows_low s n) → n ≤ℤ x
  shown_low s x n fits within all = by (int_le n s.least) refl all
    where
      by : (t : Bool) → int_le n s.least ≡ t → HoldAll H (cond t [] (s.at_least n)) → n ≤ℤ x
      by true is all = let l = fits.least in grind (arith, ints)
      by false is all = fits.low n within all

  shown_high : (s : Share) (x n : ℤ) → FitsCounted s x → s.high ≤ℤ n → HoldAll H (shows_high s n) → x ≤ℤ n
  shown_high s x n fits within all = by (int_le s.greatest n) refl all
    where
      by : (t : Bool) → int_le s.greatest n ≡ t → HoldAll H (cond t [] (s.at_most n)) → x ≤ℤ n
      by true is all = let g = fits.greatest in grind (arith, ints)
      by false is all = fits.high n within all

  -- what an instance adds: x where it is counted, and else 0
  pub fits_share_low : (s : Share) (x : ℤ) (counted : Bool) → FitsTruth H s.counted counted → (IsTrue counted → FitsCounted s x)
      → FitsLow H (share_low s) (cond counted x (pos 0))
  fits_share_low s x counted is fits = by s.counted is
    where
      by_yes : (by : List Literal) (c : Bool) → (HoldAll H by → IsTrue c) → (IsTrue c → FitsCounted s x) → (t : Bool) → int_lt (pos 0) s.low ≡ t
          → HoldAll H (cond t (by ++ shows_low s s.low) (shows_low s s.low)) → s.low ≤ℤ cond c x (pos 0)
      by_yes by true is fits true above all = shown_low s x s.low (fits refl) (omega (arith, ints)) (back H by (shows_low s s.low) all)
      by_yes by true is fits false above all = shown_low s x s.low (fits refl) (omega (arith, ints)) all
      by_yes by false is fits true above all = absurd (false≢true (is (front H by (shows_low s s.low) all)))
      by_yes by false is fits false above all = grind (arith, ints)

      by_no : (by : List Literal) (c : Bool) → (HoldAll H by → IsFalse c) → (IsTrue c → FitsCounted s x) → (t : Bool) → int_le (pos 0) s.least ≡ t
          → HoldAll H (cond t [] by) → pos 0 ≤ℤ cond c x (pos 0)
      by_no by true is fits true above all = let l = (fits refl).least in grind (arith, ints)
      by_no by true is fits false above all = absurd (false≢true (sym (is all)))
      by_no by false is fits t above all = omega (arith, ints)

      by_open : (c : Bool) → (IsTrue c → FitsCounted s x) → HoldAll H (shows_low s (int_min (pos 0) s.low)) → int_min (pos 0) s.low ≤ℤ cond c x (pos 0)
      by_open true fits all = shown_low s x (int_min (pos 0) s.low) (fits refl) (omega (arith, ints, clamps)) all
      by_open false fits all = omega (arith, ints, clamps)

      by : (o : Kleene) → FitsTruth H o counted → FitsLow H (elim o [
        | True ls ↦ record { number = s.low; by = cond (int_lt (pos 0) s.low) (ls ++ shows_low s s.low) (shows_low s s.low) }
        | False ls ↦ record { number = pos 0; by = cond (int_le (pos 0) s.least) [] ls }
        | Open ↦ record { number = int_min (pos 0) s.low; by = shows_low s (int_min (pos 0) s.low) }
      ]) (cond counted x (pos 0))
      by (True ls) is = λ all. by_yes ls counted is fits (int_lt (pos 0) s.low) refl all
      by (False ls) is = λ all. by_no ls counted is fits (int_le (pos 0) s.least) refl all
      by Open is = λ all. by_open counted fits all

  pub fits_share_high : (s : Share) (x : ℤ) (counted : Bool) → FitsTruth H s.counted counted → (IsTrue counted → FitsCounted s x)
      → FitsHigh H (share_high s) (cond counted x (pos 0))
  fits_share_high s x counted is fits = by s.counted is
    where
      by_yes : (by : List Literal) (c : Bool) → (HoldAll H by → IsTrue c) → (IsTrue c → FitsCounted s x) → (t : Bool) → int_lt s.high (pos 0) ≡ t
          → HoldAll H (cond t (by ++ shows_high s s.high) (shows_high s s.high)) → cond c x (pos 0) ≤ℤ s.high
      by_yes by true is fits true above all = shown_high s x s.high (fits refl) (omega (arith, ints)) (back H by (shows_high s s.high) all)
      by_yes by true is fits false above all = shown_high s x s.high (fits refl) (omega (arith, ints)) all
      by_yes by false is fits true above all = absurd (false≢true (is (front H by (shows_high s s.high) all)))
      by_yes by false is fits false above all = grind (arith, ints)

      by_no : (by : List Literal) (c : Bool) → (HoldAll H by → IsFalse c) → (IsTrue c → FitsCounted s x) → (t : Bool) → int_le s.greatest (pos 0) ≡ t
          → HoldAll H (cond t [] by) → cond c x (pos 0) ≤ℤ pos 0
      by_no by true is fits true above all = let g = (fits refl).greatest in grind (arith, ints)
      by_no by true is fits false above all = absurd (false≢true (sym (is all)))
      by_no by false is fits t above all = omega (arith, ints)

      by_open : (c : Bool) → (IsTrue c → FitsCounted s x) → HoldAll H (shows_high s (int_max (pos 0) s.high)) → cond c x (pos 0) ≤ℤ int_max (pos 0) s.high
      by_open true fits all = shown_high s x (int_max (pos 0) s.high) (fits refl) (omega (arith, ints, clamps)) all
      by_open false fits all = omega (arith, ints, clamps)

      by : (o : Kleene) → FitsTruth H o counted → FitsHigh H (elim o [
        | True ls ↦ record { number = s.high; by = cond (int_lt s.high (pos 0)) (ls ++ shows_high s s.high) (shows_high s s.high) }
        | False ls ↦ record { number = pos 0; by = cond (int_le s.greatest (pos 0)) [] ls }
        | Open ↦ record { number = int_max (pos 0) s.high; by = shows_high s (int_max (pos 0) s.high) }
      ]) (cond counted x (pos 0))
      by (True ls) is = λ all. by_yes ls counted is fits (int_lt s.high (pos 0)) refl all
      by (False ls) is = λ all. by_no ls counted is fits (int_le s.greatest (pos 0)) refl all
      by Open is = λ all. by_open counted fits all

  pub fits_share : (s : Share) (x : ℤ) (counted : Bool) → FitsTruth H s.counted counted → (IsTrue counted → FitsCounted s x)
      → FitsRange H (share_range s) (cond counted x (pos 0))
  fits_share s x counted is fits = (fits_share_low s x counted is fits, fits_share_high s x counted is fits)

  -- ---- the rest

  -- the numbers that the rest adds
  pub record FitsRest (r : Rest) (ns : List ℤ) : Type 0 where
    pub more : HoldAll H r.more → r.fewest ≤ length ns
    pub fewer : HoldAll H r.fewer → length ns ≤ r.most
    pub low : (k : ℕ) (n : ℤ) → IsAt ns k n → r.low ≤ℤ n
    pub high : (k : ℕ) (n : ℤ) → IsAt ns k n → n ≤ℤ r.high

  all_between : (r : Rest) (ns : List ℤ) → FitsRest r ns → ((pos (length ns) *ℤ r.low) ≤ℤ sum_of ns) × (sum_of ns ≤ℤ (pos (length ns) *ℤ r.high))
  all_between r ns fits = sum_between r.low r.high ns fits.low fits.high

  -- fewer of what is not below 0 are no more, and more of what is not above 0
  times_fewer : (k n : ℕ) (a : ℤ) → pos 0 ≤ℤ a → k ≤ n → (pos k *ℤ a) ≤ℤ (pos n *ℤ a)
  times_fewer k n (pos a) above less = let more : k * a ≤ n * a = mul-le-mul_right a less in omega (arith, ints, more, pos-*ℤ-pos k a, pos-*ℤ-pos n a)
  times_fewer k n (negsuc a) above less = absurd (omega (arith, ints, above))

  times_lesser : (k n : ℕ) (a : ℤ) → a ≤ℤ pos 0 → k ≤ n → (pos n *ℤ a) ≤ℤ (pos k *ℤ a)
  times_lesser k n (negsuc a) below less = let more : k * suc a ≤ n * suc a = mul-le-mul_right (suc a) less in omega (arith, ints, more, pos-*ℤ-negsuc k a, pos-*ℤ-negsuc n a)
  times_lesser zero n (pos zero) below less = omega (arith, ints, pos-*ℤ-pos n 0, pos-*ℤ-pos 0 0)
  times_lesser (suc k) n (pos zero) below less = omega (arith, ints, pos-*ℤ-pos n 0, pos-*ℤ-pos (suc k) 0)
  times_lesser k n (pos (suc a)) below less = absurd (omega (arith, ints, below))

  times_zero : (k : ℕ) (a : ℤ) → a ≡ pos 0 → (pos k *ℤ a) ≡ pos 0
  times_zero k a is = ap (λ a. pos k *ℤ a) is ∙ *ℤ-zero (pos k)

  fits_rest_low : (r : Rest) (ns : List ℤ) → FitsRest r ns → HoldAll H (by_sign r.low r.more r.fewer)
      → int_min (pos r.fewest *ℤ r.low) (pos r.most *ℤ r.low) ≤ℤ sum_of ns
  fits_rest_low r ns fits all = by (int_eq r.low (pos 0)) refl (int_lt (pos 0) r.low) refl all
    where
      sum : (pos (length ns) *ℤ r.low) ≤ℤ sum_of ns
      sum = (all_between r ns fits).0

      Goal : Type 0
      Goal = int_min (pos r.fewest *ℤ r.low) (pos r.most *ℤ r.low) ≤ℤ sum_of ns

      by : (t : Bool) → int_eq r.low (pos 0) ≡ t → (u : Bool) → int_lt (pos 0) r.low ≡ u → HoldAll H (cond t [] (cond u r.more r.fewer)) → Goal
      by true is u other all =
          let zero : r.low ≡ pos 0 = grind (arith, ints) in
          let none = times_zero (length ns) r.low zero in
          let few = times_zero r.fewest r.low zero in
          omega (arith, ints, clamps, sum, none, few)
      by false is true other all = let less = times_fewer r.fewest (length ns) r.low (grind (arith, ints)) (fits.more all) in omega (arith, ints, clamps, less, sum)
      by false is false other all = let less = times_lesser (length ns) r.most r.low (grind (arith, ints)) (fits.fewer all) in omega (arith, ints, clamps, less, sum)

  fits_rest_high : (r : Rest) (ns : List ℤ) → FitsRest r ns → HoldAll H (by_sign r.high r.fewer r.more)
      → sum_of ns ≤ℤ int_max (pos r.fewest *ℤ r.high) (pos r.most *ℤ r.high)
  fits_rest_high r ns fits all = by (int_eq r.high (pos 0)) refl (int_lt (pos 0) r.high) refl all
    where
      sum : sum_of ns ≤ℤ (pos (length ns) *ℤ r.high)
      sum = (all_between r ns fits).1

      Goal : Type 0
      Goal = sum_of ns ≤ℤ int_max (pos r.fewest *ℤ r.high) (pos r.most *ℤ r.high)

      by : (t : Bool) → int_eq r.high (pos 0) ≡ t → (u : Bool) → int_lt (pos 0) r.high ≡ u → HoldAll H (cond t [] (cond u r.fewer r.more)) → Goal
      by true is u other all =
          let zero : r.high ≡ pos 0 = grind (arith, ints) in
          let none = times_zero (length ns) r.high zero in
          let few = times_zero r.fewest r.high zero in
          omega (arith, ints, clamps, sum, none, few)
      by false is true other all = let less = times_fewer (length ns) r.most r.high (grind (arith, ints)) (fits.fewer all) in omega (arith, ints, clamps, less, sum)
      by false is false other all = let less = times_lesser r.fewest (length ns) r.high (grind (arith, ints)) (fits.more all) in omega (arith, ints, clamps, less, sum)

  pub fits_rest : (r : Rest) (ns : List ℤ) → FitsRest r ns → FitsRange H (rest_range r) (sum_of ns)
  fits_rest r ns fits = (fits_rest_low r ns fits, fits_rest_high r ns fits)

  -- What made instances and the rest add: x where one is counted, and the numbers of the rest.
  pub fits_tally : {X : Type 0} (s : X → Share) (counted : X → Bool) (x : X → ℤ) (js : List X) (r : Rest) (ns : List ℤ)
      → ((k : ℕ) (j : X) → IsAt js k j → FitsTruth H (s j).counted (counted j))
      → ((k : ℕ) (j : X) → IsAt js k j → IsTrue (counted j) → FitsCounted (s j) (x j)) → FitsRest r ns
      → FitsRange H (tally (map s js) r) (sum_of (map (λ j. cond (counted j) (x j) (pos 0)) js) +ℤ sum_of ns)
  fits_tally s counted x js r ns is fits rest = fits_range_sum H (ranges_sum (map share_range (map s js))) (rest_range r) (sum_of (map (λ j. cond (counted j) (x j) (pos 0)) js)) (sum_of ns)
      (subst (λ rs. FitsRange H (ranges_sum rs) (sum_of (map (λ j. cond (counted j) (x j) (pos 0)) js))) (sym (map-map share_range s js))
      (fits_ranges_sum H (λ j. share_range (s j)) (λ j. cond (counted j) (x j) (pos 0)) js (λ k j at. fits_share (s j) (x j) (counted j) (is k j at) (fits k j at))))
      (fits_rest r ns rest)
