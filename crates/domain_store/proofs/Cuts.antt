-- Intervals cut to a range have exactly the numbers of the range that they had.
use Rattle.std.proofs.Common.{◌≡◌, ◌∙◌, ap, ap₂, sym, Bool, true, false, ◌&&◌, ◌||◌, List, [], ◌∷◌, ◌++◌, refl, inl, inr, ℤ, pos, arith}
use Rattle.std.specs.Prelude.{IsTrue, int_le, int_lt, ◌+ℤ◌, if◌then◌else◌}
use Rattle.std.specs.List.{list_any, list_all}
use Rattle.std.proofs.lemmas.Int.{ints}
use Rattle.std.proofs.lemmas.Bool.{and_parts, and_from, or_cases, or_left, or_right, false≢true}
use Rattle.domain_store.specs.declared.change.Change.TheVariants.{Same, Smaller, Empty}
use Rattle.domain_store.specs.declared.interval.Interval.{Interval}
use Rattle.domain_store.specs.Intervals.{is_inside, is_in_one, is_apart, ascend_apart, are_intervals, NarrowsNumbers}
use Rattle.domain_store.specs.steps.Cut.{is_some, is_part, common, cut}
use Rattle.domain_store.specs.steps.Ends.{low_of}
use Rattle.domain_store.proofs.Narrowing.{AllPass, NonePass, empty_narrows, same_narrows, smaller_narrows}
use Rattle.domain_store.proofs.Intervals.{inside_parts, in_turn, least, low_inside, high_inside}

greater_le : (a b v : ℤ) → int_le (if int_le a b then b else a) v ≡ (int_le a v && int_le b v)
greater_le a b v = grind (arith, ints)

le_lesser : (a b v : ℤ) → int_le v (if int_le a b then a else b) ≡ (int_le v a && int_le v b)
le_lesser a b v = grind (arith, ints)

crossed : (a b c d : Bool) → ((a && b) && (c && d)) ≡ ((a && c) && (b && d))
crossed true true c d = refl
crossed true false true d = refl
crossed true false false d = refl
crossed false b c d = refl

module _ (range : Interval) where
  common_inside : (r : Interval) (v : ℤ) → is_inside (common range r) v ≡ (is_inside r v && is_inside range v)
  common_inside r v =
      ap₂ ◌&&◌ (greater_le r.low range.low v) (le_lesser r.high range.high v)
      ∙ crossed (int_le r.low v) (int_le range.low v) (int_le v r.high) (int_le v range.high)

  none_inside : (r : Interval) (v : ℤ) → is_some r ≡ false → is_inside r v ≡ false
  none_inside r v none = by r.low r.high none
    where
      by : (a b : ℤ) → int_le a b ≡ false → (int_le a v && int_le v b) ≡ false
      by a b crossing = grind (arith, ints)

  cut_first : (r : Interval) (rs : List Interval) (b : Bool) → is_some (common range r) ≡ b
      → cut range (r ∷ rs) ≡ (if b then common range r ∷ cut range rs else cut range rs)
  cut_first r rs b is = ap (λ some. if some then common range r ∷ cut range rs else cut range rs) is

  pub cut_member : (rs : List Interval) (v : ℤ) → is_in_one (cut range rs) v ≡ (is_in_one rs v && is_inside range v)
  cut_member [] v = refl
  cut_member (r ∷ rs) v = by (cut_member rs v) (is_some (common range r)) refl
    where
      joined : (a b c : Bool) → ((a && c) || (b && c)) ≡ ((a || b) && c)
      joined true b true = refl
      joined true true false = refl
      joined true false false = refl
      joined false b c = refl

      skipped : (a b c : Bool) → (a && c) ≡ false → (b && c) ≡ ((a || b) && c)
      skipped true true true none = refl
      skipped true false true none = sym none
      skipped true true false none = refl
      skipped true false false none = refl
      skipped false b c none = refl

      by : is_in_one (cut range rs) v ≡ (is_in_one rs v && is_inside range v) → (b : Bool) → is_some (common range r) ≡ b
          → is_in_one (cut range (r ∷ rs)) v ≡ (is_in_one (r ∷ rs) v && is_inside range v)
      by rest true is =
          ap (λ xs. is_in_one xs v) (cut_first r rs true is)
          ∙ ap₂ ◌||◌ (common_inside r v) rest
          ∙ joined (is_inside r v) (is_in_one rs v) (is_inside range v)
      by rest false is =
          ap (λ xs. is_in_one xs v) (cut_first r rs false is)
          ∙ rest
          ∙ skipped (is_inside r v) (is_in_one rs v) (is_inside range v) (sym (common_inside r v) ∙ none_inside (common range r) v is)

  common_apart : (r s : Interval) → IsTrue (is_apart r s) → IsTrue (is_apart (common range r) (common range s))
  common_apart r s apart = by r.high s.low range.high range.low apart
    where
      by : (a b c d : ℤ) → IsTrue (int_lt (a +ℤ pos 1) b) → IsTrue (int_lt ((if int_le a c then a else c) +ℤ pos 1) (if int_le b d then d else b))
      by a b c d h = grind (arith, ints)

  all_apart : (r : Interval) (rs : List Interval) → IsTrue (list_all (is_apart r) rs) → IsTrue (list_all (is_apart (common range r)) (cut range rs))
  all_apart r [] all = refl
  all_apart r (s ∷ rs) all = by (all_apart r rs (and_parts (is_apart r s) (list_all (is_apart r) rs) all).1) (is_some (common range s)) refl
    where
      both : IsTrue (is_apart r s) × IsTrue (list_all (is_apart r) rs)
      both = and_parts (is_apart r s) (list_all (is_apart r) rs) all

      by : IsTrue (list_all (is_apart (common range r)) (cut range rs)) → (b : Bool) → is_some (common range s) ≡ b
          → IsTrue (list_all (is_apart (common range r)) (cut range (s ∷ rs)))
      by rest true is = ap (list_all (is_apart (common range r))) (cut_first s rs true is)
          ∙ and_from (is_apart (common range r) (common range s)) (list_all (is_apart (common range r)) (cut range rs)) (common_apart r s both.0) rest
      by rest false is = ap (list_all (is_apart (common range r))) (cut_first s rs false is) ∙ rest

  pub cut_ascends : (rs : List Interval) → IsTrue (ascend_apart rs) → IsTrue (ascend_apart (cut range rs))
  cut_ascends [] h = refl
  cut_ascends (r ∷ rs) h = by (cut_ascends rs (in_turn r rs h).2) (is_some (common range r)) refl
    where
      parts : IsTrue (int_le r.low r.high) × IsTrue (list_all (is_apart r) rs) × IsTrue (ascend_apart rs)
      parts = in_turn r rs h

      by : IsTrue (ascend_apart (cut range rs)) → (b : Bool) → is_some (common range r) ≡ b → IsTrue (ascend_apart (cut range (r ∷ rs)))
      by rest true is =
          ap ascend_apart (cut_first r rs true is)
          ∙ and_from (is_some (common range r) && list_all (is_apart (common range r)) (cut range rs)) (ascend_apart (cut range rs))
          (and_from (is_some (common range r)) (list_all (is_apart (common range r)) (cut range rs)) is (all_apart r rs parts.1))
          rest
      by rest false is = ap ascend_apart (cut_first r rs false is) ∙ rest

  abbrev pub meets : List Interval → Bool
  meets rs = list_any (λ r. is_some (common range r)) rs

  -- nothing is left where no interval meets the range
  cut_none : (rs : List Interval) → meets rs ≡ false → cut range rs ≡ []
  cut_none [] none = refl
  cut_none (r ∷ rs) none = by (cut_none rs) (is_some (common range r)) (meets rs) refl refl none
    where
      by : (meets rs ≡ false → cut range rs ≡ []) → (b more : Bool) → is_some (common range r) ≡ b → meets rs ≡ more → (is_some (common range r) || meets rs) ≡ false → cut range (r ∷ rs) ≡ []
      by next true more is rest none = absurd (false≢true (sym none ∙ ap (λ b. b || meets rs) is))
      by next false true is rest none = absurd (false≢true (sym none ∙ ap₂ ◌||◌ is rest))
      by next false false is rest none = cut_first r rs false is ∙ next rest

  -- and something where one does
  cut_some : (rs : List Interval) → IsTrue (meets rs) → are_intervals (cut range rs) ≡ ascend_apart (cut range rs)
  cut_some [] some = absurd (false≢true some)
  cut_some (r ∷ rs) some = by (cut_some rs) (is_some (common range r)) refl
    where
      by : (IsTrue (meets rs) → are_intervals (cut range rs) ≡ ascend_apart (cut range rs)) → (b : Bool) → is_some (common range r) ≡ b
          → are_intervals (cut range (r ∷ rs)) ≡ ascend_apart (cut range (r ∷ rs))
      by next true is = ap are_intervals (cut_first r rs true is) ∙ sym (ap ascend_apart (cut_first r rs true is))
      by next false is =
          ap are_intervals (cut_first r rs false is)
          ∙ next (sym (ap (λ b. b || meets rs) is) ∙ some)
          ∙ sym (ap ascend_apart (cut_first r rs false is))

  pub ascending : (rs : List Interval) → IsTrue (are_intervals rs) → IsTrue (ascend_apart rs)
  ascending [] h = refl
  ascending (r ∷ rs) h = h

  pub cut_formed : (rs : List Interval) → IsTrue (are_intervals rs) → IsTrue (meets rs) → IsTrue (are_intervals (cut range rs))
  cut_formed rs h some = cut_some rs some ∙ cut_ascends rs (ascending rs h)

  pub none_meets : (rs : List Interval) → meets rs ≡ false → NonePass is_in_one (is_inside range) rs rs
  none_meets rs none v there within =
      false≢true (sym (ap (λ xs. is_in_one xs v) (cut_none rs none)) ∙ cut_member rs v ∙ and_from (is_in_one rs v) (is_inside range v) there within)

  pub some_meets : (rs : List Interval) → IsTrue (are_intervals rs) → IsTrue (meets rs) → NonePass is_in_one (is_inside range) rs rs → ⊥
  some_meets rs h some none =
      let left = (least (cut range rs) (cut_formed rs h some)).0 in
      let both = and_parts (is_in_one rs (low_of (cut range rs))) (is_inside range (low_of (cut range rs))) (sym (cut_member rs (low_of (cut range rs))) ∙ left) in
      none (low_of (cut range rs)) both.0 both.1

  pub parts_pass : (rs : List Interval) → IsTrue (list_all (is_part range) rs) → AllPass is_in_one (is_inside range) rs rs
  parts_pass [] all v there = absurd (false≢true there)
  parts_pass (r ∷ rs) all v there =
      let both = and_parts (is_part range r) (list_all (is_part range) rs) all in
      elim (or_cases (is_inside r v) (is_in_one rs v) there) [
        | inl here ↦ by r.low r.high range.low range.high both.0 here
        | inr later ↦ parts_pass rs both.1 v later
      ]
    where
      by : (a b c d : ℤ) → IsTrue (int_le c a && int_le b d) → IsTrue (int_le a v && int_le v b) → IsTrue (int_le c v && int_le v d)
      by a b c d part inside = grind (arith, ints)

  pub pass_parts : (rs : List Interval) → IsTrue (ascend_apart rs) → AllPass is_in_one (is_inside range) rs rs → IsTrue (list_all (is_part range) rs)
  pass_parts [] h all = refl
  pass_parts (r ∷ rs) h all =
      let parts = in_turn r rs h in
      let low = inside_parts range r.low (all r.low (or_left (is_inside r r.low) (is_in_one rs r.low) (low_inside r parts.0))) in
      let high = inside_parts range r.high (all r.high (or_left (is_inside r r.high) (is_in_one rs r.high) (high_inside r parts.0))) in
      and_from (is_part range r) (list_all (is_part range) rs) (and_from (int_le range.low r.low) (int_le r.high range.high) low.0 high.1)
      (pass_parts rs parts.2 (λ v there. all v (or_right (is_inside r v) (is_in_one rs v) there)))

  pub some_not_part : (rs : List Interval) → IsTrue (are_intervals rs) → list_all (is_part range) rs ≡ false → AllPass is_in_one (is_inside range) rs rs → ⊥
  some_not_part rs h fails all = false≢true (sym fails ∙ pass_parts rs (ascending rs h) all)

  -- one interval more
  pub cut_more : (rs : List Interval) (r : Interval) → cut range (rs ++ r ∷ []) ≡ cut range rs ++ (if is_some (common range r) then common range r ∷ [] else [])
  cut_more [] r = by (is_some (common range r))
    where
      by : (b : Bool) → (if b then common range r ∷ [] else []) ≡ (if b then common range r ∷ [] else [])
      by b = refl
  cut_more (s ∷ rs) r = by (cut_more rs r) (is_some (common range s))
    where
      by : cut range (rs ++ r ∷ []) ≡ cut range rs ++ (if is_some (common range r) then common range r ∷ [] else []) → (b : Bool)
          → (if b then common range s ∷ cut range (rs ++ r ∷ []) else cut range (rs ++ r ∷ []))
          ≡ (if b then common range s ∷ cut range rs else cut range rs) ++ (if is_some (common range r) then common range r ∷ [] else [])
      by rest true = ap (λ xs. common range s ∷ xs) rest
      by rest false = rest

  -- ---- the answers

  some_number : (rs : List Interval) → IsTrue (are_intervals rs) → AllPass is_in_one (is_inside range) rs rs → NonePass is_in_one (is_inside range) rs rs → ⊥
  some_number rs h all none = let least_in = (least rs h).0 in none (low_of rs) least_in (all (low_of rs) least_in)

  pub numbers_emptied : (rs : List Interval) → IsTrue (are_intervals rs) → meets rs ≡ false → NarrowsNumbers (is_inside range) Empty rs rs
  numbers_emptied rs h none =
      empty_narrows is_in_one (is_inside range) rs rs (none_meets rs none) (λ all. some_number rs h all (none_meets rs none))

  pub numbers_same : (rs : List Interval) → IsTrue (are_intervals rs) → IsTrue (list_all (is_part range) rs) → NarrowsNumbers (is_inside range) Same rs rs
  numbers_same rs h all = same_narrows is_in_one (is_inside range) rs rs (parts_pass rs all) (λ none. some_number rs h (parts_pass rs all) none)

  pub numbers_fewer : (rs new : List Interval) → IsTrue (are_intervals rs) → IsTrue (meets rs) → list_all (is_part range) rs ≡ false → new ≡ cut range rs
      → NarrowsNumbers (is_inside range) Smaller rs new
  numbers_fewer rs new h some fails is =
      smaller_narrows is_in_one (is_inside range) rs new (some_not_part rs h fails) (some_meets rs h some)
      (λ v. ap (λ xs. is_in_one xs v) is ∙ cut_member rs v)

  pub numbers_formed : (rs new : List Interval) → IsTrue (are_intervals rs) → IsTrue (meets rs) → new ≡ cut range rs → IsTrue (are_intervals new)
  numbers_formed rs new h some is = ap are_intervals is ∙ cut_formed rs h some
