-- What shows truths and ends that are put together is entailed where what shows the parts is.
use Rattle.std.proofs.Common.{ℕ, suc, ℤ, pos, negsuc, Bool, true, false, cond, List, [], ◌∷◌, ◌++◌, map, Option, Some, None, refl, sym, ◌∙◌, subst}
use Rattle.std.specs.Prelude.{IsTrue, int_le, int_lt}
use Rattle.std.proofs.lemmas.Bool.{and_from}
use Rattle.std.proofs.lemmas.List.Folds.{list_all-append}
use Rattle.std.proofs.lemmas.Simd.{map-map}
use Rattle.base_laws.specs.Places.{IsAt}
use Rattle.prod_model.specs.declared.model.Model.{Model}
use Rattle.prod_model.specs.declared.expr.Relation.{Relation}
use Rattle.prod_model.specs.declared.expr.Relation.TheVariants.{Less, AtMost, Equal, Differs, AtLeast, Greater}
use Rattle.prod_model.specs.declared.expr_bounds.Bounds.{Bounds}
use Rattle.prod_model.specs.declared.expr_bounds.Bounds.TheVariants as bounds
use Rattle.config_value.specs.declared.literal.Literal.{Literal}
use Rattle.state_space.specs.State.{State}
use Rattle.state_space.specs.Entails.{entails}
use Rattle.state_space.specs.Described.{entails_all}
use Rattle.state_values.specs.Kleene.{Kleene, True, False, Open, shown_by, negated, both, either, implied, all_of, any_of}
use Rattle.state_values.specs.Ranges.{Range, exactly, range_sum, ranges_sum, range_difference, range_multiple, clamped, is_before, is_not_after, is_equal, compared}

module _ (m : Model) (s : State) where
  -- all that shows it is entailed
  abbrev pub TruthEntailed : Kleene → Type 0
  TruthEntailed o = entails_all m s (shown_by o)

  -- all that shows its ends is
  abbrev pub RangeEntailed : Range → Type 0
  RangeEntailed r = entails_all m s r.low.by × entails_all m s r.high.by

  -- two lists of entailed literals are one
  pub joined : (ls more : List Literal) → entails_all m s ls → entails_all m s more
      → entails_all m s (ls ++ more)
  joined ls more first second =
      list_all-append (entails m s) ls more ∙ and_from _ _ first second

  -- an entailed literal alone
  pub alone : (l : Literal) → IsTrue (entails m s l) → entails_all m s (l ∷ [])
  alone l is = and_from _ _ is refl

  -- either of two lists that are entailed
  pub chosen : (b : Bool) (ls more : List Literal) → entails_all m s ls → entails_all m s more
      → entails_all m s (cond b ls more)
  chosen true ls more first second = first
  chosen false ls more first second = second

  -- ---- truths

  pub negated_entailed : (o : Kleene) → TruthEntailed o → TruthEntailed (negated o)
  negated_entailed (True by) is = is
  negated_entailed (False by) is = is
  negated_entailed Open is = is

  pub both_entailed : (o p : Kleene) → TruthEntailed o → TruthEntailed p → TruthEntailed (both o p)
  both_entailed (False by) p first second = first
  both_entailed (True by) (False more) first second = second
  both_entailed (True by) (True more) first second = joined by more first second
  both_entailed (True by) Open first second = refl
  both_entailed Open (False more) first second = second
  both_entailed Open (True more) first second = refl
  both_entailed Open Open first second = refl

  pub either_entailed : (o p : Kleene) → TruthEntailed o → TruthEntailed p
      → TruthEntailed (either o p)
  either_entailed o p first second =
      negated_entailed (both (negated o) (negated p))
      (both_entailed (negated o) (negated p) (negated_entailed o first) (negated_entailed p second))

  pub implied_entailed : (o p : Kleene) → TruthEntailed o → TruthEntailed p
      → TruthEntailed (implied o p)
  implied_entailed o p first second = either_entailed (negated o) p (negated_entailed o first) second

  pub all_of_entailed : {X : Type 0} (f : X → Kleene) (xs : List X)
      → ((k : ℕ) (x : X) → IsAt xs k x → TruthEntailed (f x)) → TruthEntailed (all_of (map f xs))
  all_of_entailed f [] each = refl
  all_of_entailed f (x ∷ xs) each =
      both_entailed (f x) (all_of (map f xs)) (each 0 x refl)
      (all_of_entailed f xs (λ k. each (suc k)))

  pub any_of_entailed : {X : Type 0} (f : X → Kleene) (xs : List X)
      → ((k : ℕ) (x : X) → IsAt xs k x → TruthEntailed (f x)) → TruthEntailed (any_of (map f xs))
  any_of_entailed f xs each =
      negated_entailed (all_of (map negated (map f xs)))
      (subst (λ os. TruthEntailed (all_of os)) (sym (map-map negated f xs))
      (all_of_entailed (λ x. negated (f x)) xs (λ k x at. negated_entailed (f x) (each k x at))))

  -- ---- ranges

  pub exactly_entailed : (n : ℤ) → RangeEntailed (exactly n)
  exactly_entailed n = (refl, refl)

  pub sum_entailed : (r q : Range) → RangeEntailed r → RangeEntailed q
      → RangeEntailed (range_sum r q)
  sum_entailed r q first second =
      (joined r.low.by q.low.by first.0 second.0, joined r.high.by q.high.by first.1 second.1)

  pub sums_entailed : {X : Type 0} (f : X → Range) (xs : List X)
      → ((k : ℕ) (x : X) → IsAt xs k x → RangeEntailed (f x))
      → RangeEntailed (ranges_sum (map f xs))
  sums_entailed f [] each = exactly_entailed (pos 0)
  sums_entailed f (x ∷ xs) each =
      sum_entailed (f x) (ranges_sum (map f xs)) (each 0 x refl)
      (sums_entailed f xs (λ k. each (suc k)))

  pub difference_entailed : (r q : Range) → RangeEntailed r → RangeEntailed q
      → RangeEntailed (range_difference r q)
  difference_entailed r q first second =
      (joined r.low.by q.high.by first.0 second.1, joined r.high.by q.low.by first.1 second.0)

  pub multiple_entailed : (k : ℤ) (r : Range) → RangeEntailed r
      → RangeEntailed (range_multiple k r)
  multiple_entailed (pos k) r is = is
  multiple_entailed (negsuc k) r is = (is.1, is.0)

  pub clamped_entailed : (o : Option Bounds) (r : Range) → RangeEntailed r
      → RangeEntailed (clamped o r)
  clamped_entailed None r is = is
  clamped_entailed (Some bounds.Truth) r is = is
  clamped_entailed (Some (bounds.Number a b)) r is = (
    chosen (int_le r.low.number a) [] r.low.by refl is.0,
    chosen (int_le b r.high.number) [] r.high.by refl is.1,
  )

  before_entailed : (r q : Range) → RangeEntailed r → RangeEntailed q
      → TruthEntailed (is_before r q)
  before_entailed r q first second =
      by (int_lt r.high.number q.low.number) (int_le q.high.number r.low.number)
    where
      by : (t u : Bool)
          → TruthEntailed (cond t (True (r.high.by ++ q.low.by))
          (cond u (False (r.low.by ++ q.high.by)) Open))
      by true u = joined r.high.by q.low.by first.1 second.0
      by false true = joined r.low.by q.high.by first.0 second.1
      by false false = refl

  not_after_entailed : (r q : Range) → RangeEntailed r → RangeEntailed q
      → TruthEntailed (is_not_after r q)
  not_after_entailed r q first second =
      negated_entailed (is_before q r) (before_entailed q r second first)

  equal_entailed : (r q : Range) → RangeEntailed r → RangeEntailed q
      → TruthEntailed (is_equal r q)
  equal_entailed r q first second =
      both_entailed (is_not_after r q) (is_not_after q r) (not_after_entailed r q first second)
      (not_after_entailed q r second first)

  pub compared_entailed : (rel : Relation) (r q : Range) → RangeEntailed r → RangeEntailed q
      → TruthEntailed (compared rel r q)
  compared_entailed Less r q first second = before_entailed r q first second
  compared_entailed AtMost r q first second = not_after_entailed r q first second
  compared_entailed Equal r q first second = equal_entailed r q first second
  compared_entailed Differs r q first second =
      negated_entailed (is_equal r q) (equal_entailed r q first second)
  compared_entailed AtLeast r q first second = not_after_entailed q r second first
  compared_entailed Greater r q first second = before_entailed q r second first
