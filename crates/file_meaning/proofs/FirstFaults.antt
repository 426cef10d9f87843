-- The order of faults and of places is total: there is one first fault, and of faults of two sorts the lesser of the first ones is the first.
use Rattle.std.proofs.Common.{◌≡◌, ℕ, zero, suc, ◌<◌, true, List, [], ◌∷◌, ◌++◌, refl, sym, ◌∙◌, ap, subst, arith, ◌⊎◌, inl, inr}
use Rattle.std.specs.Prelude.{slice_index_or}
use Rattle.std.proofs.lemmas.Bool.Decides.{nat_tests}
use Rattle.std.specs.Cmp.{IsTotalOrder, nat_cmp_total, on_total, then_total}
use Rattle.std.specs.Cmp.Lexicographic.{slice_cmp, lists_total}
use Rattle.std.specs.declared.cmp.Ordering.{Ordering}
use Rattle.std.specs.declared.cmp.Ordering.TheVariants.{Less, Equal, Greater}
use Rattle.std.specs.Ordering.{nat_cmp, is_lt, ordering_then, ordering_reverse}
use Rattle.prod_model.specs.First.{IsFirst}
use Rattle.file_values.specs.declared.part.Part.{Part}
use Rattle.file_values.specs.declared.part.Part.TheVariants.{Key as key, At as at}
use Rattle.file_values.specs.declared.fault.Fault.{Fault}
use Rattle.file_values.specs.declared.fault.FaultCode.{FaultCode}
use Rattle.file_values.specs.declared.fault.FaultCode.TheVariants.{TooLong, NoJson, OtherKind, WrongLength, WrongForm, Twice, PastLimit, UnknownType, Cycle, Widening, Crowded, Misformed, Deep, UnknownName, WrongKind, Wide, WrongInverse}
use Rattle.file_values.specs.Codes.{number_of}
use Rattle.file_values.specs.FaultOrder.{fault_cmp, IsFaultBefore}
use Rattle.file_values.specs.Places.{part_cmp}
use Rattle.file_meaning.specs.Faults.{fault}
use Rattle.file_meaning.specs.Laws.{FirstModelFaultIsOne, FirstOrderFaultIsOne, PathsKeepOrder, PlacesKeepOrder}

-- ---- codes

-- the codes by their numbers
abbrev in_order : List FaultCode
in_order =
    TooLong ∷ TooLong ∷ NoJson ∷ OtherKind ∷ WrongLength ∷ WrongForm ∷ Twice ∷ PastLimit ∷ UnknownType ∷ Cycle ∷ Widening ∷ Crowded ∷ Misformed ∷ Deep
    ∷ UnknownName ∷ WrongKind ∷ Wide ∷ WrongInverse ∷ []

numbered : (c : FaultCode) → slice_index_or in_order (number_of c) TooLong ≡ c
numbered TooLong = refl
numbered NoJson = refl
numbered OtherKind = refl
numbered WrongLength = refl
numbered WrongForm = refl
numbered Twice = refl
numbered PastLimit = refl
numbered UnknownType = refl
numbered Cycle = refl
numbered Widening = refl
numbered Crowded = refl
numbered Misformed = refl
numbered Deep = refl
numbered UnknownName = refl
numbered WrongKind = refl
numbered Wide = refl
numbered WrongInverse = refl

-- two codes of one number are one
same_code : (a b : FaultCode) → number_of a ≡ number_of b → a ≡ b
same_code a b same = sym (numbered a) ∙ ap (λ n. slice_index_or in_order n TooLong) same ∙ numbered b

-- ---- one of two comes first

-- two things stand so to each other
pub data Stand {A : Type 0} (cmp : A → A → Ordering) (x y : A) : Type 0 where
  before : cmp x y ≡ Less → Stand cmp x y
  after : cmp y x ≡ Less → Stand cmp x y
  same : x ≡ y → Stand cmp x y

numbers : (m n : ℕ) → Stand nat_cmp m n
numbers m n = elim (split m n) [
  | inl less ↦ before (grind (arith, nat_tests))
  | inr (inl is) ↦ same is
  | inr (inr greater) ↦ after (grind (arith, nat_tests))
]
  where
    split : (m n : ℕ) → (m < n) ⊎ ((m ≡ n) ⊎ (n < m))
    split zero zero = inr (inl refl)
    split zero (suc n) = inl (omega arith)
    split (suc m) zero = inr (inr (omega arith))
    split (suc m) (suc n) = elim (split m n) [
      | inl below ↦ inl (omega arith)
      | inr (inl is) ↦ inr (inl (ap suc is))
      | inr (inr beyond) ↦ inr (inr (omega arith))
    ]

parts : (x y : Part) → Stand part_cmp x y
parts (key m) (key n) = elim (numbers m n) [ before b ↦ before b | after b ↦ after b | same is ↦ same (ap key is) ]
parts (key m) (at n) = before refl
parts (at m) (key n) = after refl
parts (at m) (at n) = elim (numbers m n) [ before b ↦ before b | after b ↦ after b | same is ↦ same (ap at is) ]

level : (n : ℕ) → nat_cmp n n ≡ Equal
level n = grind (arith, nat_tests)

level-part : (x : Part) → part_cmp x x ≡ Equal
level-part (key n) = level n
level-part (at n) = level n

places : (p q : List Part) → Stand (slice_cmp part_cmp) p q
places [] [] = same refl
places [] (y ∷ q) = before refl
places (x ∷ p) [] = after refl
places (x ∷ p) (y ∷ q) = elim (parts x y) [
  | before b ↦ before (ap (λ o. ordering_then o (slice_cmp part_cmp p q)) b)
  | after b ↦ after (ap (λ o. ordering_then o (slice_cmp part_cmp q p)) b)
  | same is ↦ rest is (places p q)
]
  where
    rest : x ≡ y → Stand (slice_cmp part_cmp) p q → Stand (slice_cmp part_cmp) (x ∷ p) (y ∷ q)
    rest is (before b) = before (ap (λ z. ordering_then (part_cmp x z) (slice_cmp part_cmp p q)) (sym is) ∙ ap (λ o. ordering_then o (slice_cmp part_cmp p q)) (level-part x) ∙ b)
    rest is (after b) = after (ap (λ z. ordering_then (part_cmp z x) (slice_cmp part_cmp q p)) (sym is) ∙ ap (λ o. ordering_then o (slice_cmp part_cmp q p)) (level-part x) ∙ b)
    rest is (same s) = same (ap (λ z. z ∷ p) is ∙ ap (λ r. y ∷ r) s)

pub faults : (f g : Fault) → Stand fault_cmp f g
faults f g = elim (numbers (number_of f.code) (number_of g.code)) [
  | before b ↦ before (ap (λ o. ordering_then o (slice_cmp part_cmp f.place g.place)) b)
  | after b ↦ after (ap (λ o. ordering_then o (slice_cmp part_cmp g.place f.place)) b)
  | same is ↦ rest is (places f.place g.place)
]
  where
    rest : number_of f.code ≡ number_of g.code → Stand (slice_cmp part_cmp) f.place g.place → Stand fault_cmp f g
    rest is (before b) =
        before (ap (λ n. ordering_then (nat_cmp (number_of f.code) n) (slice_cmp part_cmp f.place g.place)) (sym is)
        ∙ ap (λ o. ordering_then o (slice_cmp part_cmp f.place g.place)) (level (number_of f.code)) ∙ b)
    rest is (after b) =
        after (ap (λ n. ordering_then (nat_cmp n (number_of f.code)) (slice_cmp part_cmp g.place f.place)) (sym is)
        ∙ ap (λ o. ordering_then o (slice_cmp part_cmp g.place f.place)) (level (number_of f.code)) ∙ b)
    rest is (same s) = same (ap (λ c. fault c f.place) (same_code f.code g.code is) ∙ ap (fault g.code) s)

-- of whatever faults, one is the first
pub first-one : (Has : Fault → Type 0) (f g : Fault) → IsFirst Has IsFaultBefore f → IsFirst Has IsFaultBefore g → f ≡ g
first-one Has f g first second = elim (faults f g) [
  | before b ↦ absurd (second.none_before f first.is (ap is_lt b))
  | after b ↦ absurd (first.none_before g second.is (ap is_lt b))
  | same is ↦ is
]

pub first_model_fault_is_one : FirstModelFaultIsOne
first_model_fault_is_one d f g first second = first-one _ f g first second

pub first_order_fault_is_one : FirstOrderFaultIsOne
first_order_fault_is_one m d f g first second = first-one _ f g first second

-- ---- of two sorts

parts_total : IsTotalOrder part_cmp
parts_total = record { antisymm = antisymm; trans = trans; congr = congr }
  where
    antisymm : (x y : Part) → part_cmp x y ≡ ordering_reverse (part_cmp y x)
    antisymm (key m) (key n) = nat_cmp_total.antisymm m n
    antisymm (key m) (at n) = refl
    antisymm (at m) (key n) = refl
    antisymm (at m) (at n) = nat_cmp_total.antisymm m n

    trans : (x y z : Part) → part_cmp x y ≡ Less → part_cmp y z ≡ Less → part_cmp x z ≡ Less
    trans (key m) (key n) (key k) p q = nat_cmp_total.trans m n k p q
    trans (key m) (key n) (at k) p q = refl
    trans (key m) (at n) (key k) p q = absurd (cc)
    trans (key m) (at n) (at k) p q = refl
    trans (at m) (key n) z p q = absurd (cc)
    trans (at m) (at n) (key k) p q = absurd (cc)
    trans (at m) (at n) (at k) p q = nat_cmp_total.trans m n k p q

    congr : (x y z : Part) → part_cmp x y ≡ Equal → part_cmp x z ≡ part_cmp y z
    congr (key m) (key n) (key k) p = nat_cmp_total.congr m n k p
    congr (key m) (key n) (at k) p = refl
    congr (key m) (at n) z p = absurd (cc)
    congr (at m) (key n) z p = absurd (cc)
    congr (at m) (at n) (key k) p = refl
    congr (at m) (at n) (at k) p = nat_cmp_total.congr m n k p

pub faults_total : IsTotalOrder fault_cmp
faults_total = then_total (on_total (λ (f : Fault). number_of f.code) nat_cmp_total) (on_total (λ (f : Fault). f.place) (lists_total parts_total))

is_less : (o : Ordering) → is_lt o ≡ true → o ≡ Less
is_less Less h = refl
is_less Equal h = absurd (cc)
is_less Greater h = absurd (cc)

-- the first of one sort that isn't after the first of the other is the first of both
pub first-of-either : (A B : Fault → Type 0) (f g : Fault) → IsFirst A IsFaultBefore f → IsFirst B IsFaultBefore g → ¬ IsFaultBefore g f
    → IsFirst (λ x. A x ⊎ B x) IsFaultBefore f
first-of-either A B f g first second not_before = record { is = inl first.is; none_before = none_before }
  where
    none_before : (y : Fault) → A y ⊎ B y → ¬ IsFaultBefore y f
    none_before y (inl a) less = first.none_before y a less
    none_before y (inr b) less = elim (faults f g) [
      | before f_g ↦ second.none_before y b (ap is_lt (faults_total.trans y f g (is_less (fault_cmp y f) less) f_g))
      | after g_f ↦ not_before (ap is_lt g_f)
      | same is ↦ (let Before : Fault → Type 0 = λ x. IsFaultBefore y x in second.none_before y b (subst Before is less))
    ]

-- ---- places

pub paths_keep_order : PathsKeepOrder
paths_keep_order [] [] = refl
paths_keep_order [] (y ∷ q) = refl
paths_keep_order (x ∷ p) [] = refl
paths_keep_order (x ∷ p) (y ∷ q) = ap (λ o. ordering_then (nat_cmp x y) o) (paths_keep_order p q)

pub places_keep_order : PlacesKeepOrder
places_keep_order [] p q = refl
places_keep_order (x ∷ front) p q = ap (λ o. ordering_then o (slice_cmp part_cmp (front ++ p) (front ++ q))) (level-part x) ∙ places_keep_order front p q
