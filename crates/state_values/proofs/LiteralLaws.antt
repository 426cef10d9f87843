-- What literals of a configuration tell of its types, values and links.
use Rattle.std.proofs.Common.{◌≡◌, ℕ, ◌≤◌, ◌==◌, ℤ, pos, ◌≤ℤ◌, Bool, true, false, not, ◌&&◌, cond, List, [], ◌∷◌, length, Option, Some, None, refl, sym, ap, ◌∙◌, subst, arith}
use Rattle.std.specs.Prelude.{IsTrue, IsFalse, nat_le, nat_lt, int_le, slice_get}
use Rattle.std.specs.Option.{option_map_or}
use Rattle.std.specs.Ordering.{int_eq}
use Rattle.std.specs.List.{list_all, filter}
use Rattle.std.proofs.lemmas.List.Sums.{length-filter}
use Rattle.std.proofs.lemmas.Bool.{false≢true, and_parts}
use Rattle.std.proofs.lemmas.Bool.Decides.{nat_tests}
use Rattle.std.proofs.lemmas.Int.{ints}
use Rattle.prod_model.specs.declared.model.Model.{Model}
use Rattle.config_value.specs.declared.configuration.Instance.{Instance}
use Rattle.config_value.specs.Value.{value_of, links_of, value_at_instance, links_at_instance, under, is_under}
use Rattle.config_value.specs.declared.literal.Literal.{Literal}
use Rattle.config_value.specs.declared.literal.Literal.TheVariants as literal
use Rattle.state_space.specs.Sets.{has_number}
use Rattle.config_value.specs.Literals.{has_attribute, has_port, has_literal, has_value_that, has_links_that, count_from}
use Rattle.state_space.specs.State.{State, number_made, low_at, high_at, allows_at}
use Rattle.state_values.specs.Sights.{port_state, is_surely_under, is_maybe_under}
use Rattle.state_values.specs.Kleene.{True, False, Open}
use Rattle.state_values.specs.Fits.{HoldAll, FitsTruth}
use Rattle.state_values.specs.Sights.{under_type, linked, is_closed, has_word}

-- the configuration has the literal
abbrev pub Has : Model → List Instance → Literal → Type 0
Has m c l = IsTrue (has_literal m c l)

-- the first of a list holds, and the second
pub only : (H : Literal → Type 0) (l : Literal) (ls : List Literal) → HoldAll H (l ∷ ls) → H l
only H l ls all = all l (0, omega arith, refl)

pub second : (H : Literal → Type 0) (k l : Literal) (ls : List Literal) → HoldAll H (k ∷ l ∷ ls) → H l
second H k l ls all = all l (1, omega arith, refl)

module _ (m : Model) (c : List Instance) where
  pub links_pass : (i p : ℕ) (pass : List ℕ → Bool) → IsTrue (has_links_that m c i p pass) → IsTrue (pass (links_at_instance m c p i))
  links_pass i p pass has = by (slice_get c i) has
    where
      by : (o : Option Instance) → IsTrue (option_map_or (λ x. has_port m x.kind p && pass (links_of m x p)) o false)
          → IsTrue (pass (option_map_or (λ x. links_of m x p) o []))
      by None has = absurd (false≢true has)
      by (Some x) has = (and_parts (has_port m x.kind p) (pass (links_of m x p)) has).1

  pub value_passes : (i a : ℕ) (passes : ℤ → Bool) → IsTrue (has_value_that m c i a passes) → IsTrue (passes (value_at_instance m c a i))
  value_passes i a passes has = by (slice_get c i) has
    where
      by : (o : Option Instance) → IsTrue (option_map_or (λ x. has_attribute m x.kind a && passes (value_of m x a)) o false)
          → IsTrue (passes (option_map_or (λ x. value_of m x a) o (pos 0)))
      by None has = absurd (false≢true has)
      by (Some x) has = (and_parts (has_attribute m x.kind a) (passes (value_of m x a)) has).1

  pub has_at_least : (i a : ℕ) (v : ℤ) → Has m c (literal.AtLeast i a v) → v ≤ℤ value_at_instance m c a i
  unfolding has_literal
  has_at_least i a v has = let is = value_passes i a (λ n. int_le v n) has in grind (arith, ints)

  pub has_at_most : (i a : ℕ) (v : ℤ) → Has m c (literal.AtMost i a v) → value_at_instance m c a i ≤ℤ v
  unfolding has_literal
  has_at_most i a v has = let is = value_passes i a (λ n. int_le n v) has in grind (arith, ints)

  not_true : (b : Bool) → IsTrue (not b) → IsFalse b
  not_true true is = sym is
  not_true false is = refl

  pub has_other : (i a : ℕ) (v : ℤ) → Has m c (literal.ValueIsNot i a v) → IsFalse (int_eq (value_at_instance m c a i) v)
  unfolding has_literal
  has_other i a v has = not_true (int_eq (value_at_instance m c a i) v) (value_passes i a (λ n. not (int_eq n v)) has)

  pub has_linked : (i p j : ℕ) → Has m c (literal.Linked i p j) → IsTrue (has_number (links_at_instance m c p i) j)
  unfolding has_literal
  has_linked i p j has = links_pass i p (λ links. has_number links j) has

  pub has_not_linked : (i p j : ℕ) → Has m c (literal.NotLinked i p j) → IsFalse (has_number (links_at_instance m c p i) j)
  unfolding has_literal
  has_not_linked i p j has = not_true (has_number (links_at_instance m c p i) j) (links_pass i p (λ links. not (has_number links j)) has)

  pub has_fresh_at_most : (i p from n : ℕ) → Has m c (literal.FreshAtMost i p from n) → count_from from (links_at_instance m c p i) ≤ n
  unfolding has_literal
  has_fresh_at_most i p from n has = let is = links_pass i p (λ links. nat_le (count_from from links) n) has in grind (arith, nat_tests)

  pub has_fresh_at_least : (i p from n : ℕ) → Has m c (literal.FreshAtLeast i p from n) → n ≤ count_from from (links_at_instance m c p i)
  unfolding has_literal
  has_fresh_at_least i p from n has = let is = links_pass i p (λ links. nat_le n (count_from from links)) has in grind (arith, nat_tests)

  pub has_kind : (i u : ℕ) → Has m c (literal.Kind i u) → IsTrue (is_under m c u i)
  unfolding has_literal
  has_kind i u has = has

  pub has_not_kind : (i u : ℕ) → Has m c (literal.NotKind i u) → IsFalse (is_under m c u i)
  unfolding has_literal
  has_not_kind i u has = by (slice_get c i) has
    where
      by : (o : Option Instance) → IsTrue (option_map_or (λ x. not (under m u x)) o false) → IsFalse (option_map_or (under m u) o false)
      by None has = absurd (false≢true has)
      by (Some x) has = not_true (under m u x) has

  -- ---- outcomes fit

  pub fits_under_type : (st : State) (u j : ℕ) → FitsTruth (Has m c) (under_type m st u j) (is_under m c u j)
  fits_under_type st u j = by (is_surely_under m st u j) (is_maybe_under m st u j)
    where
      by : (s t : Bool) → FitsTruth (Has m c) (cond s (True (literal.Kind j u ∷ [])) (cond t Open (False (literal.NotKind j u ∷ [])))) (is_under m c u j)
      by true t = λ all. has_kind j u (only (Has m c) (literal.Kind j u) [] all)
      by false true = tt
      by false false = λ all. has_not_kind j u (only (Has m c) (literal.NotKind j u) [] all)

  pub fits_linked : (st : State) (i p j : ℕ) → FitsTruth (Has m c) (linked st i p j) (has_number (links_at_instance m c p i) j)
  fits_linked st i p j = by (has_number (port_state st i p).required j) (has_number (port_state st i p).possible j)
    where
      by : (s t : Bool) → FitsTruth (Has m c) (cond s (True (literal.Linked i p j ∷ [])) (cond t Open (False (literal.NotLinked i p j ∷ [])))) (has_number (links_at_instance m c p i) j)
      by true t = λ all. has_linked i p j (only (Has m c) (literal.Linked i p j) [] all)
      by false true = tt
      by false false = λ all. has_not_linked i p j (only (Has m c) (literal.NotLinked i p j) [] all)

  -- no fresh link: all links are below
  none_passing : (from : ℕ) (ls : List ℕ) → length (filter (nat_le from) ls) ≤ 0 → list_all (λ j. nat_lt j from) ls ≡ true
  none_passing from [] few = refl
  none_passing from (l ∷ ls) few = by (nat_le from l) refl (none_passing from ls) few
    where
      by : (t : Bool) → nat_le from l ≡ t → (length (filter (nat_le from) ls) ≤ 0 → list_all (λ j. nat_lt j from) ls ≡ true)
          → length (cond t (l ∷ filter (nat_le from) ls) (filter (nat_le from) ls)) ≤ 0 → (nat_lt l from && list_all (λ j. nat_lt j from) ls) ≡ true
      by true is rest few = absurd (omega (arith, few))
      by false is rest few = let below : nat_lt l from ≡ true = grind (arith, nat_tests) in ap (λ b. b && list_all (λ j. nat_lt j from) ls) below ∙ rest few

  none_fresh : (from : ℕ) (ls : List ℕ) → count_from from ls ≤ 0 → list_all (λ j. nat_lt j from) ls ≡ true
  none_fresh from ls few = none_passing from ls (subst (λ n. n ≤ 0) (sym (length-filter (nat_le from) ls)) few)

  pub fits_closed : (st : State) (i p : ℕ) (b : Bool) → (list_all (λ j. nat_lt j (number_made st)) (links_at_instance m c p i) ≡ true → b ≡ true)
      → FitsTruth (Has m c) (is_closed st i p) b
  fits_closed st i p b whole = by ((port_state st i p).fresh_high == 0)
    where
      by : (s : Bool) → FitsTruth (Has m c) (cond s (True (literal.FreshAtMost i p (number_made st) 0 ∷ [])) Open) b
      by true = λ all. whole (none_fresh (number_made st) (links_at_instance m c p i) (has_fresh_at_most i p (number_made st) 0 (only (Has m c) (literal.FreshAtMost i p (number_made st) 0) [] all)))
      by false = tt

  pub fits_has_word : (st : State) (i a w : ℕ) → FitsTruth (Has m c) (has_word st i a w) (int_eq (value_at_instance m c a i) (pos w))
  fits_has_word st i a w = by (int_eq (low_at st i a) (pos w) && int_eq (high_at st i a) (pos w)) (allows_at st i a (pos w))
    where
      by : (s t : Bool) → FitsTruth (Has m c) (cond s (True (literal.AtLeast i a (pos w) ∷ literal.AtMost i a (pos w) ∷ [])) (cond t Open (False (literal.ValueIsNot i a (pos w) ∷ []))))
          (int_eq (value_at_instance m c a i) (pos w))
      by true t = λ all.
          let low = has_at_least i a (pos w) (only (Has m c) (literal.AtLeast i a (pos w)) (literal.AtMost i a (pos w) ∷ []) all) in
          let high = has_at_most i a (pos w) (second (Has m c) (literal.AtLeast i a (pos w)) (literal.AtMost i a (pos w)) [] all) in
          grind (arith, ints)
      by false true = tt
      by false false = λ all. has_other i a (pos w) (only (Has m c) (literal.ValueIsNot i a (pos w)) [] all)
