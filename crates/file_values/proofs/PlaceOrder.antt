-- The order of places is total.
use Rattle.std.proofs.Common.{◌≡◌, ℕ, ◌<◌, List, [], ◌∷◌, ◌++◌, refl, ap, ◌∙◌, sym, arith, true, false}
use Rattle.std.proofs.lemmas.Bool.{false≢true}
use Rattle.std.proofs.lemmas.Bool.Decides.{nat_tests}
use Rattle.std.specs.Cmp.{IsTotalOrder, nat_cmp_total}
use Rattle.std.specs.Cmp.Lexicographic.{slice_cmp, lists_total}
use Rattle.std.specs.declared.cmp.Ordering.{Ordering}
use Rattle.std.specs.declared.cmp.Ordering.TheVariants.{Less, Equal, Greater}
use Rattle.std.specs.Ordering.{nat_cmp, is_lt, ordering_then, ordering_reverse}
use Rattle.file_values.specs.declared.part.Part.{Part}
use Rattle.file_values.specs.declared.part.Part.TheVariants.{Key as key, At as at}
use Rattle.file_values.specs.Places.{part_cmp, IsPlaceBefore}

pub parts_total : IsTotalOrder part_cmp
parts_total = record { antisymm = antisymm; trans = trans; congr = congr }
  where
    antisymm : (x y : Part) → part_cmp x y ≡ ordering_reverse (part_cmp y x)
    antisymm (key m) (key n) = nat_cmp_total.antisymm m n
    antisymm (key m) (at n) = refl
    antisymm (at m) (key n) = refl
    antisymm (at m) (at n) = nat_cmp_total.antisymm m n

    trans : (x y z : Part) → part_cmp x y ≡ Less → part_cmp y z ≡ Less → part_cmp x z ≡ Less
    trans (key m) (key n) (key k) p q = nat_cmp_total.trans m n k p q
    trans (key m) (key n) (at k) p q = refl
    trans (key m) (at n) (key k) p q = absurd (cc)
    trans (key m) (at n) (at k) p q = refl
    trans (at m) (key n) z p q = absurd (cc)
    trans (at m) (at n) (key k) p q = absurd (cc)
    trans (at m) (at n) (at k) p q = nat_cmp_total.trans m n k p q

    congr : (x y z : Part) → part_cmp x y ≡ Equal → part_cmp x z ≡ part_cmp y z
    congr (key m) (key n) (key k) p = nat_cmp_total.congr m n k p
    congr (key m) (key n) (at k) p = refl
    congr (key m) (at n) z p = absurd (cc)
    congr (at m) (key n) z p = absurd (cc)
    congr (at m) (at n) (key k) p = refl
    congr (at m) (at n) (at k) p = nat_cmp_total.congr m n k p

pub places_total : IsTotalOrder (slice_cmp part_cmp)
places_total = lists_total parts_total

is_less : (o : Ordering) → is_lt o ≡ true → o ≡ Less
is_less Less h = refl
is_less Equal h = absurd (cc)
is_less Greater h = absurd (cc)

not_less : (o : Ordering) → is_lt o ≡ false → ¬ (o ≡ Less)
not_less Less h e = absurd (cc)
not_less Equal h e = absurd (cc)
not_less Greater h e = absurd (cc)

-- what comes before what comes before another place comes before it
pub before_trans : (p q r : List Part) → IsPlaceBefore p q → IsPlaceBefore q r → IsPlaceBefore p r
before_trans p q r first second = ap is_lt (places_total.trans p q r (is_less _ first) (is_less _ second))

-- what comes before a place comes before each place that isn't before that one
pub before_not_before : (p q r : List Part) → IsPlaceBefore p q → ¬ IsPlaceBefore r q → IsPlaceBefore p r
before_not_before p q r first none = by (slice_cmp part_cmp r q) refl
  where
    p_less : slice_cmp part_cmp p q ≡ Less
    p_less = is_less _ first

    by : (o : Ordering) → slice_cmp part_cmp r q ≡ o → IsPlaceBefore p r
    by Less e = absurd (none (ap is_lt e))
    by Equal e =
        ap is_lt (places_total.antisymm p r ∙ ap ordering_reverse (places_total.congr r q p e ∙ places_total.antisymm q p ∙ ap ordering_reverse p_less))
    by Greater e =
        ap is_lt (places_total.trans p q r p_less (places_total.antisymm q r ∙ ap ordering_reverse e))

-- nothing is before the whole
pub not_before-whole : (p : List Part) → ¬ IsPlaceBefore p []
not_before-whole [] before = false≢true before
not_before-whole (x ∷ p) before = false≢true before

level : (n : ℕ) → nat_cmp n n ≡ Equal
level n = grind (arith, nat_tests)

level-part : (x : Part) → part_cmp x x ≡ Equal
level-part (key n) = level n
level-part (at n) = level n

-- Two places in one value have the order that they have from the value.
pub places_keep_order : (front p q : List Part) → slice_cmp part_cmp (front ++ p) (front ++ q) ≡ slice_cmp part_cmp p q
places_keep_order [] p q = refl
places_keep_order (x ∷ front) p q = ap (λ o. ordering_then o (slice_cmp part_cmp (front ++ p) (front ++ q))) (level-part x) ∙ places_keep_order front p q

-- a place that isn't before another one isn't with a part in front of both
pub not_before-same : (x : Part) (p q : List Part) → ¬ IsPlaceBefore p q → ¬ IsPlaceBefore (x ∷ p) (x ∷ q)
not_before-same x p q none before = none (sym (ap is_lt (places_keep_order (x ∷ []) p q)) ∙ before)

-- a place with a later part in front isn't before
pub not_before-greater : (x y : Part) (p q : List Part) → part_cmp x y ≡ Greater → ¬ IsPlaceBefore (x ∷ p) (y ∷ q)
not_before-greater x y p q greater before = cc

pub greater-number : (m n : ℕ) → n < m → nat_cmp m n ≡ Greater
greater-number m n less = grind (arith, nat_tests)

-- no place is before itself
pub not_before-self : (p : List Part) → ¬ IsPlaceBefore p p
not_before-self [] before = false≢true before
not_before-self (x ∷ p) before = not_before-same x p p (not_before-self p) before
