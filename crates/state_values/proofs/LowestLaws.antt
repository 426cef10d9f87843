-- What is seen of numbers and truths holds where what shows it is there, and so do lowest values.
use Rattle.std.proofs.Common.{◌≡◌, ◌≢◌, ◌∙◌, ℕ, zero, suc, ℤ, ◌≤ℤ◌, ◌<ℤ◌, neg_ℤ, Bool, true, false, cond, List, [], ◌∷◌, map, Option, Some, None, refl, sym, ap, arith}
use Rattle.std.specs.Prelude.{IsTrue, IsFalse, is_some}
use Rattle.std.specs.List.{list_all, flat_map}
use Rattle.std.specs.declared.cmp.Ordering.{Ordering}
use Rattle.std.specs.declared.cmp.Ordering.TheVariants.{Less, Equal, Greater}
use Rattle.std.specs.Ordering.{int_cmp, ordering_then, MatchOrdering}
use Rattle.std.specs.Cmp.{int_ranks}
use Rattle.std.specs.Cmp.Lexicographic.{slice_cmp}
use Rattle.std.proofs.lemmas.Bool.{false≢true, and_parts}
use Rattle.std.proofs.lemmas.Int.{ints}
use Rattle.std.proofs.lemmas.Option.{slice_get-get_or, same_Some, none-some}
use Rattle.std.proofs.lemmas.List.Concat.{flat_map-cons}
use Rattle.std.proofs.lemmas.List.Folds.{list_all-append}
use Rattle.base_laws.specs.Places.{IsAt}
use Rattle.base_laws.proofs.Tests.{list_all_at}
use Rattle.prod_model.specs.declared.model.Model.{Model}
use Rattle.prod_model.specs.declared.model.Order.{Order}
use Rattle.prod_model.specs.declared.model.Criterion.{Criterion}
use Rattle.prod_model.specs.declared.expr_bounds.Bounds.{Bounds}
use Rattle.prod_model.specs.ExprBounds.{bounds_at, is_number, is_number_at}
use Rattle.prod_model.specs.Valid.{IsDeclared, IsValidOrder}
use Rattle.config_value.specs.declared.configuration.Instance.{Instance}
use Rattle.config_value.specs.declared.literal.Literal.{Literal}
use Rattle.config_value.specs.Literals.{has_literal}
use Rattle.config_value.specs.Value.{number_at, is_true_at}
use Rattle.config_value.specs.Rank.{rank}
use Rattle.config_value.specs.Shaped.{is_shaped}
use Rattle.config_value.proofs.ShapedSentences.{shaped_sentences}
use Rattle.state_values.specs.Kleene.{Kleene, True, False, Open, is_true, is_false, shown_by}
use Rattle.state_values.specs.Fits.{HoldAll, FitsRange, FitsTruth}
use Rattle.state_values.specs.Seen.{as_range, as_kleene, seen_at, low, high, low_reads, high_reads}
use Rattle.state_values.specs.Lowest.{lowest_value, lowest_reads, lowest_vector}
use Rattle.state_values.specs.Laws.{HasAll, IsRead, LowHolds, HighHolds, TruthHolds, FalsehoodHolds, LowestValueHolds, LowestHolds, rank_value}
use Rattle.state_values.proofs.LiteralLaws.{Has}
use Rattle.state_values.proofs.SeenHolds.{seen_holds}

-- each literal of a list that holds whole
pub hold_all : (m : Model) (c : List Instance) (ls : List Literal) → HasAll m c ls → HoldAll (Has m c) ls
hold_all m c ls all l among =
    list_all_at (has_literal m c) ls all among.0 l
    (slice_get-get_or ls among.0 l among.1 ∙ ap Some among.2)

pub low_holds : LowHolds
low_holds m s c e t i read all =
    (seen_holds m s c e t i read).0.0 (hold_all m c (low_reads m s t i e) all)

pub high_holds : HighHolds
high_holds m s c e t i read all =
    (seen_holds m s c e t i read).0.1 (hold_all m c (high_reads m s t i e) all)

-- a truth that fits, and whose literals hold, is so
true_so : (m : Model) (c : List Instance) (o : Kleene) (b : Bool) → FitsTruth (Has m c) o b
    → HasAll m c (shown_by o) → IsTrue (is_true o) → IsTrue b
true_so m c (True by) b fits all is = fits (hold_all m c by all)
true_so m c (False by) b fits all is = absurd (false≢true is)
true_so m c Open b fits all is = absurd (false≢true is)

false_so : (m : Model) (c : List Instance) (o : Kleene) (b : Bool) → FitsTruth (Has m c) o b
    → HasAll m c (shown_by o) → IsTrue (is_false o) → IsFalse b
false_so m c (True by) b fits all is = absurd (false≢true is)
false_so m c (False by) b fits all is = fits (hold_all m c by all)
false_so m c Open b fits all is = absurd (false≢true is)

pub truth_holds : TruthHolds
truth_holds m s c e t i read all is =
    true_so m c (as_kleene (seen_at m s t i e)) (is_true_at m c i e) (seen_holds m s c e t i read).1
    all is

pub falsehood_holds : FalsehoodHolds
falsehood_holds m s c e t i read all is =
    false_so m c (as_kleene (seen_at m s t i e)) (is_true_at m c i e) (seen_holds m s c e t i read).1
    all is

-- ---- lowest values

number_told : (o : Option Bounds) → IsTrue (is_number o) → IsTrue (is_some o)
number_told (Some b) is = refl
number_told None is = absurd (false≢true is)

-- the value of a criterion is read at instance 0
pub criterion_read : (m : Model) (o : Order) (c : List Instance) (k : ℕ) (r : Criterion) → IsDeclared m
    → IsValidOrder m o → IsTrue (is_shaped m c) → IsAt o.criteria k r → IsRead m c r.value m.root 0
criterion_read m o c k r declared order shaped at =
    let s = (shaped_sentences m c).0 shaped in
    let number = list_all_at (λ r. is_number_at m m.root r.value) o.criteria order.criteria k r at in
    record {
      declared = declared;
      shaped = shaped;
      bounded = number_told (bounds_at m r.value m.root) (and_parts _ (is_number (bounds_at m r.value m.root)) number).1;
      instance = s.root.instance;
      there = s.root.there;
      under = s.root.of_type;
    }

pub lowest_value_holds : LowestValueHolds
lowest_value_holds m o s c k r declared order shaped at all =
    by r.maximise (seen_holds m s c r.value m.root 0 (criterion_read m o c k r declared order shaped at)).0 all
  where
    by : (b : Bool) → FitsRange (Has m c) (as_range (seen_at m s m.root 0 r.value)) (number_at m c 0 r.value)
        → HasAll m c (cond b (high_reads m s m.root 0 r.value) (low_reads m s m.root 0 r.value))
        → cond b (neg_ℤ (high m s m.root 0 r.value)) (low m s m.root 0 r.value) ≤ℤ cond b (neg_ℤ (number_at m c 0 r.value)) (number_at m c 0 r.value)
    by true fits all = let h = fits.1 (hold_all m c (high_reads m s m.root 0 r.value) all) in omega (arith, ints, h)
    by false fits all = fits.0 (hold_all m c (low_reads m s m.root 0 r.value) all)

-- ---- the lowest vector

-- The first of two numbers is at most the second, so it is not greater.
at_most_not_greater : (a b : ℤ) → a ≤ℤ b → int_cmp a b ≢ Greater
at_most_not_greater a b less is = greater_is (int_cmp a b) (int_ranks a b) is
  where
    greater_is : (o : Ordering) → MatchOrdering o (a <ℤ b) (a ≡ b) (b <ℤ a) → o ≢ Greater
    greater_is Less ranks = λ e. absurd cc
    greater_is Equal ranks = λ e. absurd cc
    greater_is Greater ranks = λ e. absurd (omega (arith, ints, less, ranks))

-- what passes for all parts of all passes for those of each
each_part : {X Y : Type 0} (test : Y → Bool) (f : X → List Y) (xs : List X) → IsTrue (list_all test (flat_map f xs))
    → (k : ℕ) (x : X) → IsAt xs k x → IsTrue (list_all test (f x))
each_part test f [] all k x at = absurd (none-some x at)
each_part {X} test f (y ∷ xs) all k x at = by k at (each_part test f xs parts.1)
  where
    parts : IsTrue (list_all test (f y)) × IsTrue (list_all test (flat_map f xs))
    parts = and_parts (list_all test (f y)) (list_all test (flat_map f xs))
        (sym (ap (list_all test) (flat_map-cons f y xs) ∙ list_all-append test (f y) (flat_map f xs)) ∙ all)

    by : (k : ℕ) → IsAt (y ∷ xs) k x
        → ((j : ℕ) (z : X) → IsAt xs j z → IsTrue (list_all test (f z))) → IsTrue (list_all test (f x))
    by zero at rest = ap (λ x. list_all test (f x)) (sym (same_Some y x at)) ∙ parts.0
    by (suc k) at rest = rest k x at

-- what is not after in both parts is not after
then_not_greater : (first rest : Ordering) → first ≢ Greater → rest ≢ Greater
    → ordering_then first rest ≢ Greater
then_not_greater Less rest nf nr = λ e. absurd cc
then_not_greater Equal rest nf nr = nr
then_not_greater Greater rest nf nr = absurd (nf refl)

-- A list whose numbers are at most those of another at the same places is not after it.
lists_not_after : {X : Type 0} (f g : X → ℤ) (xs : List X)
    → ((k : ℕ) (x : X) → IsAt xs k x → f x ≤ℤ g x) → slice_cmp int_cmp (map f xs) (map g xs) ≢ Greater
lists_not_after f g [] each = λ e. absurd cc
lists_not_after f g (x ∷ xs) each =
    then_not_greater (int_cmp (f x) (g x)) (slice_cmp int_cmp (map f xs) (map g xs))
    (at_most_not_greater (f x) (g x) (each 0 x refl)) (lists_not_after f g xs (λ k. each (suc k)))

pub lowest_holds : LowestHolds
unfolding lowest_vector rank
lowest_holds m o s c declared order shaped all =
    lists_not_after (lowest_value m s) (rank_value m c) o.criteria
    (λ k r at. lowest_value_holds m o s c k r declared order shaped at
    (each_part (has_literal m c) (lowest_reads m s) o.criteria all k r at))
