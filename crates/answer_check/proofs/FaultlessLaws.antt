-- Rules and requests of a valid model and order have bounds where they are asked.
use Rattle.std.proofs.Common.{◌≡◌, ℕ, ◌<◌, ◌∙◌, ap, sym, true, false, List, length, Option, Some, None, refl}
use Rattle.std.specs.Prelude.{slice_get, IsTrue}
use Rattle.std.specs.Option.{option_map_or}
use Rattle.std.proofs.lemmas.Bool.{and_parts, false≢true}
use Rattle.std.proofs.lemmas.Option.{same_Some, slice_get_within}
use Rattle.prod_model.specs.declared.model.Model.{Model}
use Rattle.prod_model.specs.declared.model.Order.{Order}
use Rattle.prod_model.specs.declared.model.Rule.{Rule}
use Rattle.prod_model.specs.declared.model.Request.{Request}
use Rattle.prod_model.specs.declared.expr.Expr.{Expr}
use Rattle.prod_model.specs.declared.expr_bounds.Bounds.{Bounds}
use Rattle.prod_model.specs.declared.expr_bounds.Bounds.TheVariants.{Number, Truth}
use Rattle.prod_model.specs.Limits.{most_nesting}
use Rattle.prod_model.specs.Nesting.{nesting}
use Rattle.std.specs.Prelude.{nat_le}
use Rattle.prod_model.specs.ExprBounds.{bounds_at, is_truth, is_truth_at}
use Rattle.prod_model.specs.Valid.{IsValid, IsValidOrder, has_faultless_rules}
use Rattle.config_value.specs.declared.configuration.Instance.{Instance}
use Rattle.config_value.specs.Shaped.{is_shaped}
use Rattle.config_value.specs.Value.{under, is_under, is_true_at}
use Rattle.base_laws.proofs.Tests.{list_all_at}
use Rattle.config_value.proofs.ShapedSentences.{shaped_sentences}
use Rattle.answer_check.specs.Breaks.{false_rule}
use Rattle.answer_check.specs.steps.Finds.{BreaksAt}
use Rattle.answer_check.proofs.BreakParts.{false_rule_parts}
use Rattle.answer_check.specs.Faultless.{HasBoundsAt}

is_truth_told : (o : Option Bounds) → is_truth o ≡ true → o ≡ Some Truth
is_truth_told (Some Truth) is = refl
is_truth_told (Some (Number low high)) is = absurd cc
is_truth_told None is = absurd cc

-- a truth at a type has bounds at an instance under it
pub bounded : (m : Model) (c : List Instance) (i : ℕ) (e : Expr) (t : ℕ) (x : Instance) → slice_get c i ≡ Some x → IsTrue (under m t x) → IsTrue (is_truth_at m t e) → HasBoundsAt m c i e
bounded m c i e t x stands under truth = record {
  instance = x;
  stands = stands;
  kind = t;
  under = under;
  bounds = Truth;
  told = is_truth_told (bounds_at m e t) (and_parts (nat_le (nesting e) most_nesting) (is_truth (bounds_at m e t)) truth).1;
}

pub faultless_rule : (m : Model) (k : ℕ) (r : Rule) → IsValid m → slice_get m.rules k ≡ Some r → IsTrue (is_truth_at m r.kind r.holds)
unfolding has_faultless_rules
faultless_rule m k r valid rule = list_all_at (λ s. is_truth_at m s.kind s.holds) m.rules valid.faultless_rules k r rule

pub request_bounded : (m : Model) (o : Order) (c : List Instance) (k : ℕ) (r : Request) → IsValidOrder m o → IsTrue (is_shaped m c) → slice_get o.requests k ≡ Some r → HasBoundsAt m c 0 r.holds
request_bounded m o c k r valid shaped request =
    let root = ((shaped_sentences m c).0 shaped).root in
    bounded m c 0 r.holds m.root root.instance root.there root.of_type (list_all_at (λ s. is_truth_at m m.root s.holds) o.requests valid.requests k r request)

pub bounded_under : (m : Model) (c : List Instance) (i : ℕ) (e : Expr) (t : ℕ) → is_under m c t i ≡ true → IsTrue (is_truth_at m t e) → HasBoundsAt m c i e
bounded_under m c i e t below truth = by_instance (slice_get c i) refl
  where
    by_instance : (o : Option Instance) → slice_get c i ≡ o → HasBoundsAt m c i e
    by_instance None none = absurd (false≢true (sym (ap (λ o. option_map_or (under m t) o false) none) ∙ below))
    by_instance (Some x) stands = bounded m c i e t x stands (sym (ap (λ o. option_map_or (under m t) o false) stands) ∙ below) truth

-- ---- what is false

module _ (m : Model) (c : List Instance) (i k : ℕ) (r : Rule) (rule : slice_get m.rules k ≡ Some r) where
  -- the rule is broken where it is false at an instance under its type
  pub rule_broken : is_under m c r.kind i ≡ true → is_true_at m c i r.holds ≡ false → BreaksAt m c 10 i k
  rule_broken below fails = by_instance (slice_get c i) refl
    where
      by_instance : (o : Option Instance) → slice_get c i ≡ o → BreaksAt m c 10 i k
      by_instance None none = absurd (false≢true (sym (ap (λ o. option_map_or (under m r.kind) o false) none) ∙ below))
      by_instance (Some x) stands = false_rule refl x r stands rule (sym (ap (λ o. option_map_or (under m r.kind) o false) stands) ∙ below) fails

  -- and nowhere else
  pub rule_broken_parts : BreaksAt m c 10 i k → (is_under m c r.kind i ≡ true) × (is_true_at m c i r.holds ≡ false)
  rule_broken_parts broken =
      let parts = false_rule_parts m c 10 i k refl broken in
      let same : parts.1 ≡ r = same_Some parts.1 r (sym parts.3 ∙ rule) in (
        ap (λ o. option_map_or (under m r.kind) o false) parts.2 ∙ ap (λ s. under m s.kind parts.0) (sym same) ∙ parts.4,
        ap (λ s. is_true_at m c i s.holds) (sym same) ∙ parts.5,
      )

pub rule_within : (m : Model) (c : List Instance) (i k : ℕ) → BreaksAt m c 10 i k → i < length c
rule_within m c i k broken = let parts = false_rule_parts m c 10 i k refl broken in slice_get_within c i parts.0 parts.2

pub rule_item_within : (m : Model) (c : List Instance) (i k : ℕ) → BreaksAt m c 10 i k → k < length m.rules
rule_item_within m c i k broken = let parts = false_rule_parts m c 10 i k refl broken in slice_get_within m.rules k parts.1 parts.3
