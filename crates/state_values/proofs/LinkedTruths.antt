-- Truths at all links, or at any, by the numbers of the linked instances.
use Rattle.std.proofs.Common.{◌≡◌, ℕ, zero, suc, ◌==◌, Bool, true, false, not, ◌&&◌, ◌||◌, List, [], ◌∷◌, Some, refl, sym, ap, ◌∙◌, arith}
use Rattle.std.specs.Prelude.{IsTrue, IsFalse, nat_lt}
use Rattle.std.specs.List.{list_all, list_any, range_with_len}
use Rattle.std.proofs.Math.Path.{fun_ext}
use Rattle.std.proofs.lemmas.Bool.{false≢true, and_parts}
use Rattle.std.proofs.lemmas.Bool.Decides.{nat_tests}
use Rattle.std.proofs.lemmas.Option.{same_Some, none-some}
use Rattle.base_laws.specs.Places.{IsAt}
use Rattle.base_laws.proofs.Tests.{list_all_at, list_all_from}
use Rattle.base_laws.proofs.Ranges.{slice_get_range_with_len}
use Rattle.config_value.specs.declared.literal.Literal.{Literal}
use Rattle.state_space.specs.Sets.{has_number}
use Rattle.state_values.specs.Kleene.{Kleene, True, False, Open, negated, both, implied}
use Rattle.state_values.specs.Fits.{FitsTruth}
use Rattle.state_values.proofs.KleeneLaws.{front, fits_negated, fits_both, fits_either, any_by_all}
use Rattle.state_values.proofs.RangeLaws.{same_test}
use Rattle.state_values.proofs.NumbersHold.{among_at}

module _ (H : Literal → Type 0) where
  -- where the first isn't so, nothing has to be known of the second
  pub fits_implied : (o p : Kleene) (a b : Bool) → FitsTruth H o a → (IsTrue a → FitsTruth H p b) → FitsTruth H (implied o p) (not a || b)
  fits_implied o p true b first second = fits_either H (negated o) p false b (fits_negated H o true first) (second refl)
  fits_implied (True by) (True more) false b first second = λ all. refl
  fits_implied (True by) (False more) false b first second = λ all. absurd (false≢true (first (front H by more all)))
  fits_implied (True by) Open false b first second = tt
  fits_implied (False by) (True more) false b first second = λ all. refl
  fits_implied (False by) (False more) false b first second = λ all. refl
  fits_implied (False by) Open false b first second = λ all. refl
  fits_implied Open (True more) false b first second = λ all. refl
  fits_implied Open (False more) false b first second = tt
  fits_implied Open Open false b first second = tt

  pub fits_joined : (o p : Kleene) (a b : Bool) → FitsTruth H o a → (IsTrue a → FitsTruth H p b) → FitsTruth H (both o p) (a && b)
  fits_joined o p true b first second = fits_both H o p true b first (second refl)
  fits_joined (True by) (True more) false b first second = λ all. first (front H by more all)
  fits_joined (True by) (False more) false b first second = λ all. refl
  fits_joined (True by) Open false b first second = tt
  fits_joined (False by) p false b first second = λ all. refl
  fits_joined Open (True more) false b first second = tt
  fits_joined Open (False more) false b first second = λ all. refl
  fits_joined Open Open false b first second = tt

-- ---- tests of lists, place by place

pub at_among : (ls : List ℕ) (k j : ℕ) → IsAt ls k j → IsTrue (has_number ls j)
at_among [] k j at = absurd (none-some j at)
at_among (l ∷ ls) zero j at = let same : (l == j) ≡ true = (let is = same_Some l j at in grind (arith, nat_tests)) in ap (λ b. b || has_number ls j) same
at_among (l ∷ ls) (suc k) j at = or_true (l == j) (has_number ls j) (at_among ls k j at)
  where
    or_true : (a b : Bool) → b ≡ true → (a || b) ≡ true
    or_true true b is = refl
    or_true false b is = is

first_or : (a b : Bool) → IsTrue (a || b) → IsFalse a → IsTrue b
first_or true b is fails = absurd (false≢true (sym fails))
first_or false b is fails = is

either_or : (a b : Bool) → (IsFalse a → IsTrue b) → IsTrue (a || b)
either_or true b rest = refl
either_or false b rest = rest refl

pub by_test : (b : Bool) {P : Type 0} → (IsTrue b → P) → (IsFalse b → P) → P
by_test true passes fails = passes refl
by_test false passes fails = fails refl

-- A truth at all links is one at the linked numbers below m, and at the other links.
pub all_by_numbers : (t : ℕ → Bool) (m : ℕ) (ls : List ℕ)
    → (list_all (λ j. not (has_number ls j) || t j) (range_with_len 0 m) && list_all (λ j. nat_lt j m || t j) ls) ≡ list_all t ls
all_by_numbers t m ls = same_test _ _ to from
  where
    to : IsTrue (list_all (λ j. not (has_number ls j) || t j) (range_with_len 0 m) && list_all (λ j. nat_lt j m || t j) ls) → IsTrue (list_all t ls)
    to is =
        let parts = and_parts (list_all (λ j. not (has_number ls j) || t j) (range_with_len 0 m)) (list_all (λ j. nat_lt j m || t j) ls) is in
        list_all_from t ls (λ k j at. by_test (nat_lt j m)
        (λ below. first_or (not (has_number ls j)) (t j)
        (list_all_at (λ j. not (has_number ls j) || t j) (range_with_len 0 m) parts.0 j j (slice_get_range_with_len 0 m j (grind (arith, nat_tests)) ∙ ap Some (omega arith)))
        (ap not (at_among ls k j at)))
        (λ above. first_or (nat_lt j m) (t j) (list_all_at (λ j. nat_lt j m || t j) ls parts.1 k j at) above))

    from : IsTrue (list_all t ls) → IsTrue (list_all (λ j. not (has_number ls j) || t j) (range_with_len 0 m) && list_all (λ j. nat_lt j m || t j) ls)
    from all =
        ap (λ b. b && list_all (λ j. nat_lt j m || t j) ls)
        (list_all_from (λ j. not (has_number ls j) || t j) (range_with_len 0 m) (λ k j at. by_test (has_number ls j)
        (λ among. either_or (not (has_number ls j)) (t j) (λ fails. let place = among_at ls j among in list_all_at t ls all place.0 j place.1))
        (λ apart. ap (λ b. not b || t j) apart)))
        ∙ list_all_from (λ j. nat_lt j m || t j) ls (λ k j at. either_or (nat_lt j m) (t j) (λ fails. list_all_at t ls all k j at))

-- and one at any link is one at a linked number below m, or at another link
pub any_by_numbers : (t : ℕ → Bool) (m : ℕ) (ls : List ℕ)
    → (list_any (λ j. has_number ls j && t j) (range_with_len 0 m) || not (list_all (λ j. nat_lt j m || not (t j)) ls)) ≡ list_any t ls
any_by_numbers t m ls =
    ap (λ b. b || not (list_all (λ j. nat_lt j m || not (t j)) ls)) (any_by_all (λ j. has_number ls j && t j) (range_with_len 0 m)
    ∙ ap (λ f. not (list_all f (range_with_len 0 m))) (fun_ext (λ j. not_and (has_number ls j) (t j))))
    ∙ or_not (list_all (λ j. not (has_number ls j) || not (t j)) (range_with_len 0 m)) (list_all (λ j. nat_lt j m || not (t j)) ls)
    ∙ ap not (all_by_numbers (λ j. not (t j)) m ls)
    ∙ sym (any_by_all t ls)
  where
    not_and : (a b : Bool) → not (a && b) ≡ (not a || not b)
    not_and true b = refl
    not_and false b = refl

    or_not : (a b : Bool) → (not a || not b) ≡ not (a && b)
    or_not true b = refl
    or_not false b = refl
