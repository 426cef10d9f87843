-- Which bounds are told, and what lies within them.
use Rattle.std.proofs.Common.{◌≡◌, ℕ, ◌≤◌, Bool, true, false, List, [], ◌∷◌, map, length, Option, Some, None, refl, subst, arith}
use Rattle.std.specs.Prelude.{ℤ, pos, ◌+ℤ◌, ◌-ℤ◌, ◌*ℤ◌, if◌then◌else◌}
use Rattle.std.specs.Int.{int_min, int_max}
use Rattle.std.specs.Option.{option_map, option_and_then}
use Rattle.std.specs.List.{fold}
use Rattle.std.proofs.lemmas.Int.{ints}
use Rattle.std.proofs.lemmas.Option.{same_Some, none-some}
use Rattle.prod_model.specs.declared.model.AttrAt.{AttrAt}
use Rattle.prod_model.specs.declared.model.Domain.{Domain}
use Rattle.prod_model.specs.declared.model.Domain.TheVariants.{Range, Words}
use Rattle.prod_model.specs.declared.expr_bounds.Bounds.{Bounds}
use Rattle.prod_model.specs.declared.expr_bounds.Bounds.TheVariants as bounds
use Rattle.prod_model.specs.ExprBounds.{bounded, sum_of, sum_of_some, difference, multiple, comparison, truth_of, of_range}
use Rattle.prod_model.specs.steps.ExprBounds.{sum_onto}
use Rattle.config_value.specs.declared.found.Found.{Found}
use Rattle.config_value.specs.declared.found.Found.TheVariants as found
use Rattle.config_value.specs.Value.{as_number}
use Rattle.base_laws.specs.Places.{IsAt}
use Rattle.config_value.specs.BoundsHold.{IsWithinBounds}
use Rattle.config_value.proofs.HeldLaws.{IsInRange}
use Rattle.config_value.proofs.SumLaws.{IsBetweenNumbers, sum_of_some_between, multiple_between, difference_between}

-- ---- where something is told

-- what is told of what is there is told of something
pub and_then_some : {A B : Type 0} (f : A → Option B) (o : Option A) (b : B) → option_and_then f o ≡ Some b → (x : A) × (o ≡ Some x) × (f x ≡ Some b)
and_then_some f None b told = absurd (none-some b told)
and_then_some f (Some x) b told = (x, refl, told)

-- what is made of what is there is made of something
pub map_some : {A B : Type 0} (f : A → B) (o : Option A) (b : B) → option_map f o ≡ Some b → (x : A) × (o ≡ Some x) × (f x ≡ b)
map_some f None b told = absurd (none-some b told)
map_some f (Some x) b told = (x, refl, same_Some (f x) b told)

-- what is told on a condition is told
pub if_some : {B : Type 0} (t : Bool) (o : Option B) (b : B) → (if t then o else None) ≡ Some b → o ≡ Some b
if_some true o b told = told
if_some false o b told = absurd (none-some b told)

-- what is told of the ends of a range is told of an attribute with a range
range_told : (f : ℤ → ℤ → Option Bounds) (a : AttrAt) (b : Bounds) → of_range f a ≡ Some b
    → (low : ℤ) × (high : ℤ) × (a.domain ≡ Range low high) × (f low high ≡ Some b)
range_told f a b told = by a.domain told
  where
    by : (d : Domain) → (elim d [ Range low high ↦ f low high | Words words ↦ None ]) ≡ Some b
        → (low : ℤ) × (high : ℤ) × (d ≡ Range low high) × (f low high ≡ Some b)
    by (Range low high) told = (low, high, refl, told)
    by (Words words) told = absurd (none-some b told)

-- a value in a range is between its ends
in_ends : (d : Domain) (low high v : ℤ) → d ≡ Range low high → IsInRange d v → IsBetweenNumbers low high v
in_ends d low high v is held = subst (λ d. IsInRange d v) is held

-- two ends that are told are the bounds
bounded_told : (low high : ℤ) (b : Bounds) → bounded low high ≡ Some b → bounds.Number low high ≡ b
bounded_told low high b told = same_Some (bounds.Number low high) b (if_some _ (Some (bounds.Number low high)) b told)

-- a number between two ends that are told lies within the bounds
pub number_within : (low high n : ℤ) (b : Bounds) → IsBetweenNumbers low high n → bounded low high ≡ Some b → IsWithinBounds b (found.Number n)
number_within low high n b between told = subst (λ b. IsWithinBounds b (found.Number n)) (bounded_told low high b told) between

-- a value in an attribute's range
pub value_within : (a : AttrAt) (v : ℤ) (b : Bounds) → IsInRange a.domain v → of_range bounded a ≡ Some b → IsWithinBounds b (found.Number v)
value_within a v b held told =
    let range = range_told bounded a b told in
    number_within range.0 range.1 v b (in_ends a.domain range.0 range.1 v range.2 held) range.3

-- the sum of l to h values, each in an attribute's range
pub values_within : (l h : ℕ) (a : AttrAt) (ns : List ℤ) (b : Bounds) → l ≤ length ns → length ns ≤ h → ((k : ℕ) (n : ℤ) → IsAt ns k n → IsInRange a.domain n)
    → of_range (sum_of_some l h) a ≡ Some b → IsWithinBounds b (found.Number (sum_of ns))
values_within l h a ns b least most each told =
    let range = range_told (sum_of_some l h) a b told in
    let low = range.0 in
    let high = range.1 in
    let between = sum_of_some_between l h low high ns least most (λ k n at. in_ends a.domain low high n range.2 (each k n at)) in
    number_within (int_min (pos l *ℤ low) (pos h *ℤ low)) (int_max (pos l *ℤ high) (pos h *ℤ high)) (sum_of ns) b between range.3

-- a truth lies within the bounds that are a truth
pub truth_within : (v : Bool) (b : Bounds) → bounds.Truth ≡ b → IsWithinBounds b (found.Truth v)
truth_within v b is = subst (λ b. IsWithinBounds b (found.Truth v)) is tt

-- what is told of truths is a truth
pub truth_told : (os : List (Option Bounds)) (b : Bounds) → truth_of os ≡ Some b → bounds.Truth ≡ b
truth_told [] b told = same_Some bounds.Truth b told
truth_told (Some bounds.Truth ∷ os) b told = truth_told os b told
truth_told (Some (bounds.Number low high) ∷ os) b told = absurd (none-some b told)
truth_told (None ∷ os) b told = absurd (none-some b told)

-- what is told of a comparison is a truth
pub comparison_told : (o p : Option Bounds) (b : Bounds) → comparison o p ≡ Some b → bounds.Truth ≡ b
comparison_told (Some (bounds.Number l h)) (Some (bounds.Number l' h')) b told = same_Some bounds.Truth b told
comparison_told (Some (bounds.Number l h)) (Some bounds.Truth) b told = absurd (none-some b told)
comparison_told (Some (bounds.Number l h)) None b told = absurd (none-some b told)
comparison_told (Some bounds.Truth) p b told = absurd (none-some b told)
comparison_told None p b told = absurd (none-some b told)

-- what lies within the bounds of a number is a number between them
number_between : (low high : ℤ) (v : Found) → IsWithinBounds (bounds.Number low high) v → IsBetweenNumbers low high (as_number v)
number_between low high (found.Number n) within = within
number_between low high (found.Truth v) within = absurd within

-- ---- sums, differences and multiples of what lies within bounds

-- each of the values lies within what is told of it, if anything is
abbrev pub IsToldOf : Option Bounds → Found → Type 0
IsToldOf o v = (b : Bounds) → o ≡ Some b → IsWithinBounds b v

-- a multiple of a number that lies within what is told of it
pub multiple_within : (k : ℤ) (o : Option Bounds) (v : Found) (b : Bounds) → IsToldOf o v → multiple k o ≡ Some b → IsWithinBounds b (found.Number (k *ℤ as_number v))
multiple_within k (Some (bounds.Number l h)) v b each told =
    number_within _ _ _ b (multiple_between k l h (as_number v) (number_between l h v (each (bounds.Number l h) refl))) told
multiple_within k (Some bounds.Truth) v b each told = absurd (none-some b told)
multiple_within k None v b each told = absurd (none-some b told)

-- a difference of two numbers that lie within what is told of them
pub difference_within : (o p : Option Bounds) (v w : Found) (b : Bounds) → IsToldOf o v → IsToldOf p w → difference o p ≡ Some b
    → IsWithinBounds b (found.Number (as_number v -ℤ as_number w))
difference_within (Some (bounds.Number l h)) (Some (bounds.Number l' h')) v w b first second told =
    number_within _ _ _ b (difference_between l h l' h' (as_number v) (as_number w) (number_between l h v (first (bounds.Number l h) refl))
    (number_between l' h' w (second (bounds.Number l' h') refl))) told
difference_within (Some (bounds.Number l h)) (Some bounds.Truth) v w b first second told = absurd (none-some b told)
difference_within (Some (bounds.Number l h)) None v w b first second told = absurd (none-some b told)
difference_within (Some bounds.Truth) p v w b first second told = absurd (none-some b told)
difference_within None p v w b first second told = absurd (none-some b told)

module _ {E F : Type 0} (part : E → F) (bounds_of : F → Option Bounds) (value : F → Found) (each : (e : E) → IsToldOf (bounds_of (part e)) (value (part e))) where
  -- numbers that lie within what is told of them, added to one that lies between low and high
  pub sum_within : (es : List E) (low high s : ℤ) (b : Bounds) → IsBetweenNumbers low high s → sum_onto low high (map bounds_of (map part es)) ≡ Some b
      → IsWithinBounds b (found.Number (fold ◌+ℤ◌ s (map (λ e. as_number (value e)) (map part es))))
  sum_within [] low high s b between told = number_within low high s b between told
  sum_within (e ∷ es) low high s b between told = by (bounds_of (part e)) (each e) told (λ l h. sum_within es (low +ℤ l) (high +ℤ h) (s +ℤ as_number (value (part e))) b)
    where
      Within : Type 0
      Within = IsWithinBounds b (found.Number (fold ◌+ℤ◌ (s +ℤ as_number (value (part e))) (map (λ e. as_number (value e)) (map part es))))

      by : (o : Option Bounds) → IsToldOf o (value (part e)) → sum_onto low high (o ∷ map bounds_of (map part es)) ≡ Some b
          → ((l h : ℤ) → IsBetweenNumbers (low +ℤ l) (high +ℤ h) (s +ℤ as_number (value (part e)))
          → sum_onto (low +ℤ l) (high +ℤ h) (map bounds_of (map part es)) ≡ Some b → Within)
          → Within
      by (Some (bounds.Number l h)) told_of told rest =
          let v = number_between l h (value (part e)) (told_of (bounds.Number l h) refl) in
          rest l h (omega (arith, ints, between.0, v.0), omega (arith, ints, between.1, v.1)) told
      by (Some bounds.Truth) told_of told rest = absurd (none-some b told)
      by None told_of told rest = absurd (none-some b told)
