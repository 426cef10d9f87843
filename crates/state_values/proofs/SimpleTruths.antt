-- Truths without truths in them.
use Rattle.std.proofs.Common.{◌≡◌, ℕ, ◌+◌, ◌∙◌, ap, ap₂, sym, Bool, true, false, ◌&&◌, ◌||◌, ◌==◌, List, Some, None, refl}
use Rattle.std.specs.Prelude.{int_lt, int_le, if◌then◌else◌}
use Rattle.std.proofs.lemmas.Bool.{and_parts}
use Rattle.instance_set.specs.declared.set.InstanceSet.{InstanceSet}
use Rattle.instance_set.specs.InstanceSets.{is_member, IsLeastFrom}
use Rattle.instance_set.proofs.Walks.{HasFoundBelow, found_all}
use Rattle.prod_model.specs.declared.model.Model.{Model}
use Rattle.prod_model.specs.declared.expr.Expr.{Expr}
use Rattle.prod_model.specs.declared.expr.Expr.TheOpen.{Expr-F, Num, Attr, Count, CountOf, Sum, Total, Number, Add, Sub, Times, Cmp, Is, Kind, And, Or, Not, If, All, Any}
use Rattle.prod_model.specs.declared.expr.Expr.TheViews.{out-Expr}
use Rattle.prod_model.specs.declared.expr.Relation.{Relation}
use Rattle.prod_model.specs.declared.expr.Relation.TheVariants.{Less, AtMost, Equal, Differs, AtLeast, Greater}
use Rattle.config_value.specs.declared.literal.Literal.{Literal}
use Rattle.state_space.specs.State.{State}
use Rattle.state_values.specs.declared.interval.Interval.{Interval}
use Rattle.state_values.specs.declared.kleene.Kleene.{Kleene as Told}
use Rattle.state_values.specs.declared.kleene.Kleene.TheVariants as kleene
use Rattle.state_values.specs.declared.truth_sets.Truths.{Truths}
use Rattle.state_values.specs.Kleene.{Kleene, True, False, Open, is_true, is_false, negated, both}
use Rattle.state_values.specs.Ranges.{Range, is_before, compared}
use Rattle.state_values.specs.Seen.{as_kleene, as_range, seen_at, truth, low, high}
use Rattle.state_values.specs.Told.{told}
use Rattle.state_values.specs.steps.Forms.{form_seen}
use Rattle.state_values.specs.steps.Truths.{opposite, conjunction, precedes, related, simple_truth, Tells, is_told_true, is_told_false}
use Rattle.state_values.proofs.KleeneTests.{is_told_true_told, is_told_false_told}
use Rattle.state_values.proofs.LinkableLaws.{found_next}
use Rattle.state_values.proofs.SetTruths.{tells_same, truth_form}

-- ---- comparisons

told_negated : (k : Kleene) → told (negated k) ≡ opposite (told k)
told_negated (True by) = refl
told_negated (False by) = refl
told_negated Open = refl

told_both : (k l : Kleene) → told (both k l) ≡ conjunction (told k) (told l)
told_both (False by) l = refl
told_both (True by) (False more) = refl
told_both (True by) (True more) = refl
told_both (True by) Open = refl
told_both Open (False more) = refl
told_both Open (True more) = refl
told_both Open Open = refl

told_choice : (a b : Bool) (by other : List Literal) → told (if a then True by else (if b then False other else Open)) ≡ (if a then kleene.True else (if b then kleene.False else kleene.Open))
told_choice true b by other = refl
told_choice false true by other = refl
told_choice false false by other = refl

abbrev interval_of : Range → Interval
interval_of x = record { low = x.low.number; high = x.high.number }

before_told : (x y : Range) → precedes (interval_of x) (interval_of y) ≡ told (is_before x y)
before_told x y = sym (told_choice (int_lt x.high.number y.low.number) (int_le y.high.number x.low.number) _ _)

after_told : (x y : Range) → opposite (precedes (interval_of y) (interval_of x)) ≡ told (negated (is_before y x))
after_told x y = ap opposite (before_told y x) ∙ sym (told_negated (is_before y x))

equal_told : (x y : Range) → conjunction (opposite (precedes (interval_of y) (interval_of x))) (opposite (precedes (interval_of x) (interval_of y)))
    ≡ told (both (negated (is_before y x)) (negated (is_before x y)))
equal_told x y = ap₂ conjunction (after_told x y) (after_told y x) ∙ sym (told_both (negated (is_before y x)) (negated (is_before x y)))

related_told : (r : Relation) (x y : Range) → related r (interval_of x) (interval_of y) ≡ told (compared r x y)
related_told Less x y = before_told x y
related_told AtMost x y = after_told x y
related_told Equal x y = equal_told x y
related_told Differs x y = ap opposite (equal_told x y) ∙ sym (told_negated (both (negated (is_before y x)) (negated (is_before x y))))
related_told AtLeast x y = after_told y x
related_told Greater x y = before_told y x

-- Intervals with the ends of two ranges stand as these do.
pub compared_told : (r : Relation) (x y : Range) (a b : Interval) → a.low ≡ x.low.number → a.high ≡ x.high.number → b.low ≡ y.low.number → b.high ≡ y.high.number
    → related r a b ≡ told (compared r x y)
compared_told r x y a b al ah bl bh =
    ap₂ (related r) (ap₂ (λ l h. record { low = l; high = h }) al ah) (ap₂ (λ l h. record { low = l; high = h }) bl bh) ∙ related_told r x y

-- ---- words

word_choice : (a b : Bool) (by other : List Literal) → told (if a then True by else (if b then Open else False other)) ≡ (if a then kleene.True else (if b then kleene.Open else kleene.False))
word_choice true b by other = refl
word_choice false true by other = refl
word_choice false false by other = refl

-- ---- forms

-- the form has no truths in it
abbrev pub IsPlain : Expr-F Expr → Type 0
IsPlain (And es) = ⊥
IsPlain (Or es) = ⊥
IsPlain (Not e) = ⊥
IsPlain (If e f) = ⊥
IsPlain (All p e) = ⊥
IsPlain (Any p e) = ⊥
IsPlain form = Unit {0}

plain_form : (m : Model) (s : State) (t i : ℕ) (form : Expr-F Expr) → IsPlain form → simple_truth m s t i form ≡ as_kleene (form_seen m s t i form)
plain_form m s t i (Num n) is = refl
plain_form m s t i (Attr a) is = refl
plain_form m s t i (Count p) is = refl
plain_form m s t i (CountOf p u) is = refl
plain_form m s t i (Sum p a) is = refl
plain_form m s t i (Total u a) is = refl
plain_form m s t i (Number u) is = refl
plain_form m s t i (Add es) is = refl
plain_form m s t i (Sub e f) is = refl
plain_form m s t i (Times k e) is = refl
plain_form m s t i (Cmp r e f) is = refl
plain_form m s t i (Is a w) is = refl
plain_form m s t i (Kind u) is = refl
plain_form m s t i (And es) is = absurd is
plain_form m s t i (Or es) is = absurd is
plain_form m s t i (Not e) is = absurd is
plain_form m s t i (If e f) is = absurd is
plain_form m s t i (All p e) is = absurd is
plain_form m s t i (Any p e) is = absurd is

pub simple_told : (m : Model) (s : State) (t : ℕ) (among : InstanceSet) (e : Expr) (x : Truths) → IsPlain (out-Expr e)
    → Tells among (λ i. simple_truth m s t i (out-Expr e)) x → Tells among (λ i. truth m s t i e) x
simple_told m s t among e x is tells =
    tells_same among (λ i. simple_truth m s t i (out-Expr e)) (λ i. truth m s t i e) x (λ i. plain_form m s t i (out-Expr e) is ∙ sym (truth_form m s t i e)) tells

-- ---- a loop over the members of a set

-- the members below a number where a truth is true, and where it is false
pub record HasTold (among : InstanceSet) (f : ℕ → Kleene) (from : ℕ) (x : Truths) : Type 0 where
  pub holding : HasFoundBelow (λ k. is_member among k && is_true (f k)) from x.holding
  pub failing : HasFoundBelow (λ k. is_member among k && is_false (f k)) from x.failing

pub told_next : (among : InstanceSet) (f : ℕ → Kleene) (from i : ℕ) (x next : Truths) (v : Told) → HasTold among f from x → IsLeastFrom among from (Some i) → v ≡ told (f i)
    → ((k : ℕ) → is_member next.holding k ≡ (is_member x.holding k || ((k == i) && is_told_true v)))
    → ((k : ℕ) → is_member next.failing k ≡ (is_member x.failing k || ((k == i) && is_told_false v)))
    → HasTold among f (i + 1) next
told_next among f from i x next v before least is holding failing = record {
  holding = found_next (λ k. is_member among k && is_true (f k)) among (λ k yes. (and_parts (is_member among k) (is_true (f k)) yes).0) from i x.holding next.holding (is_told_true v) before.holding least
      (ap (λ b. b && is_true (f i)) least.1 ∙ sym (ap is_told_true is ∙ is_told_true_told (f i))) holding;
  failing = found_next (λ k. is_member among k && is_false (f k)) among (λ k yes. (and_parts (is_member among k) (is_false (f k)) yes).0) from i x.failing next.failing (is_told_false v) before.failing least
      (ap (λ b. b && is_false (f i)) least.1 ∙ sym (ap is_told_false is ∙ is_told_false_told (f i))) failing;
}

pub told_all : (among : InstanceSet) (f : ℕ → Kleene) (from : ℕ) (x : Truths) → HasTold among f from x → IsLeastFrom among from (None) → Tells among f x
told_all among f from x before none = record {
  holding = λ i. found_all (λ k. is_member among k && is_true (f k)) among (λ k yes. (and_parts (is_member among k) (is_true (f k)) yes).0) from x.holding before.holding none i;
  failing = λ i. found_all (λ k. is_member among k && is_false (f k)) among (λ k yes. (and_parts (is_member among k) (is_false (f k)) yes).0) from x.failing before.failing none i;
}

-- a comparison is told by the ends of both numbers
pub cmp_told : (m : Model) (s : State) (t i : ℕ) (e : Expr) (r : Relation) (f g : Expr) → out-Expr e ≡ Cmp r f g → (v : Told) (a b : Interval) → v ≡ related r a b
    → a.low ≡ low m s t i f → a.high ≡ high m s t i f → b.low ≡ low m s t i g → b.high ≡ high m s t i g → v ≡ told (simple_truth m s t i (out-Expr e))
cmp_told m s t i e r f g is v a b v_is al ah bl bh =
    v_is ∙ compared_told r (as_range (seen_at m s t i f)) (as_range (seen_at m s t i g)) a b al ah bl bh
    ∙ sym (ap (λ form. told (simple_truth m s t i form)) is)
