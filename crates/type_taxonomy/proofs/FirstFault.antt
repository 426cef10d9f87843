-- Which fault is the first one.
use Rattle.std.proofs.Common.{◌≡◌, ℕ, ◌<◌, ◌⊎◌, Bool, true, false, not, cond, IsTrue, IsFalse, List, [], ◌∷◌, length, inl, inr, sym, ap, subst, ◌∙◌, refl, Option, Some, None, slice_get, nat_lt, ◌==◌}
use Rattle.std.specs.Option.{option_map_or}
use Rattle.std.specs.declared.cmp.Ordering.{Ordering}
use Rattle.std.specs.declared.cmp.Ordering.TheVariants.{Less, Equal, Greater}
use Rattle.std.specs.Ordering.{nat_cmp, is_lt, ordering_then}
use Rattle.std.specs.Cmp.Lexicographic.{slice_cmp}
use Rattle.std.proofs.lemmas.Bool.{eqb-true, ltb-true}
use Rattle.std.proofs.lemmas.Option.{slice_get_within}
use Rattle.prod_model.specs.declared.model.Model.{Model}
use Rattle.prod_model.specs.declared.model.TypeDecl.{TypeDecl}
use Rattle.prod_model.specs.declared.model.AttrDecl.{AttrDecl}
use Rattle.prod_model.specs.declared.model.PortDecl.{PortDecl}
use Rattle.prod_model.specs.Forest.{is_in_circle}
use Rattle.prod_model.specs.Valid.{knows_types, has_room_at}
use Rattle.type_taxonomy.specs.declared.fault.TaxFault.{TaxFault}
use Rattle.type_taxonomy.specs.declared.fault.TaxFault.TheVariants.{UnknownParent, Cycle, Widening, Crowded}
use Rattle.type_taxonomy.specs.steps.Built.{attribute_narrows_at, port_narrows_at, NarrowsAll, IsWideningOf, IsFirstWidening, of_attribute, of_port}
use Rattle.base_laws.specs.Places.{IsAt}
use Rattle.type_taxonomy.specs.Faults.{HasTaxFault, unknown_parent, cycle, wider_attribute, wider_port, crowded, rank_of, IsFaultBefore, IsFirstTaxFault, Faults}
use Rattle.type_taxonomy.specs.steps.FirstFailing.{IsFirstFailing}
use Rattle.type_taxonomy.specs.Nearest.{AttributeNarrows, PortNarrows}
use Rattle.type_taxonomy.specs.steps.NearestTests.{attribute_narrows_nearest, port_narrows_nearest}
use Rattle.type_taxonomy.proofs.NearestCases.{attribute_passed, attribute_failed, port_passed, port_failed}

-- ---- the order of ranks

head_cases : (a b : ℕ) (rest : Ordering) (p q : Bool) → nat_lt a b ≡ p → (a == b) ≡ q → IsTrue (is_lt (ordering_then (cond p Less (cond q Equal Greater)) rest))
    → (a < b) ⊎ ((a ≡ b) × IsTrue (is_lt rest))
head_cases a b rest true q less same before = inl (ltb-true a b less)
head_cases a b rest false true less same before = inr (eqb-true a b same, before)
head_cases a b rest false false less same before = cc

-- The first numbers decide, and where they are equal the rest does.
pub before_head : (a b : ℕ) (rest : Ordering) → IsTrue (is_lt (ordering_then (nat_cmp a b) rest)) → (a < b) ⊎ ((a ≡ b) × IsTrue (is_lt rest))
before_head a b rest before = head_cases a b rest (nat_lt a b) (a == b) refl refl before

ranked : (x y y' : TaxFault) → y ≡ y' → IsFaultBefore y x → IsTrue (is_lt (slice_cmp nat_cmp (rank_of y') (rank_of x)))
ranked x y y' same before = subst (λ z. IsTrue (is_lt (slice_cmp nat_cmp (rank_of z) (rank_of x)))) same before

-- ---- what each phase excludes

abbrev pub KnowsBelow : Model → ℕ → Type 0
KnowsBelow m n = (k : ℕ) → k < n → IsTrue (option_map_or (knows_types m) (slice_get m.types k) true)

abbrev pub HasNoCircleBelow : Model → ℕ → Type 0
HasNoCircleBelow m n = (k : ℕ) → k < n → IsTrue (not (is_in_circle m k))

abbrev pub NarrowsBelow : Model → ℕ → Type 0
NarrowsBelow m n = (t : ℕ) (d : TypeDecl) → t < n → IsAt m.types t d → NarrowsAll m t d

abbrev pub HasRoomBelow : Model → ℕ → Type 0
HasRoomBelow m n = (k : ℕ) → k < n → IsTrue (has_room_at m k)

pub told_apart : {A : Type 0} (p : A → Bool) (xs : List A) (k : ℕ) (x : A) → IsAt xs k x → IsFalse (p x) → IsTrue (option_map_or p (slice_get xs k) true) → ⊥
told_apart p xs k x has fails passes = let there = ap (λ o. option_map_or p o true) has in cc

not_both : (b : Bool) → IsTrue b → IsTrue (not b) → ⊥
not_both b holds fails = let turned = ap not holds in cc

wide_attribute_told : (m : Model) (t : ℕ) (d : TypeDecl) (k : ℕ) (a : AttrDecl) → IsAt d.attributes k a → (AttributeNarrows m t a → ⊥) → IsTrue (attribute_narrows_at m t d k) → ⊥
wide_attribute_told m t d k a has fails passes = fails (attribute_passed m t a (sym (ap (λ o. option_map_or (attribute_narrows_nearest m t) o true) has) ∙ passes))

wide_port_told : (m : Model) (t : ℕ) (d : TypeDecl) (k : ℕ) (p : PortDecl) → IsAt d.ports k p → (PortNarrows m t p → ⊥) → IsTrue (port_narrows_at m t d k) → ⊥
wide_port_told m t d k p has fails passes = fails (port_passed m t p (sym (ap (λ o. option_map_or (port_narrows_nearest m t) o true) has) ∙ passes))

no_wide_attribute : (m : Model) (t : ℕ) (d : TypeDecl) (k : ℕ) (a : AttrDecl) → IsAt d.attributes k a → (AttributeNarrows m t a → ⊥) → NarrowsAll m t d → ⊥
no_wide_attribute m t d k a has fails all = wide_attribute_told m t d k a has fails (all.attributes k (slice_get_within d.attributes k a has))

no_wide_port : (m : Model) (t : ℕ) (d : TypeDecl) (k : ℕ) (p : PortDecl) → IsAt d.ports k p → (PortNarrows m t p → ⊥) → NarrowsAll m t d → ⊥
no_wide_port m t d k p has fails all = wide_port_told m t d k p has fails (all.ports k (slice_get_within d.ports k p has))

-- ---- none before

none_before_unknown : (m : Model) (t : ℕ) → KnowsBelow m t → (y : TaxFault) → HasTaxFault m y → IsFaultBefore y (UnknownParent t) → ⊥
none_before_unknown m t known y (unknown_parent u d is has fails) before =
    elim (before_head u t Equal (ranked (UnknownParent t) y (UnknownParent u) is before)) [
      | inl less ↦ told_apart (knows_types m) m.types u d has fails (known u less)
      | inr same ↦ let no = same.1 in cc
    ]
none_before_unknown m t known y (cycle u is within circle) before = let no = ranked (UnknownParent t) y (Cycle u) is before in cc
none_before_unknown m t known y (wider_attribute u k d a is has has_a fails) before = let no = ranked (UnknownParent t) y (Widening u false k) is before in cc
none_before_unknown m t known y (wider_port u k d p is has has_p fails) before = let no = ranked (UnknownParent t) y (Widening u true k) is before in cc
none_before_unknown m t known y (crowded u is within full) before = let no = ranked (UnknownParent t) y (Crowded u) is before in cc

none_before_cycle : (m : Model) (t : ℕ) → KnowsBelow m (length m.types) → HasNoCircleBelow m t → (y : TaxFault) → HasTaxFault m y → IsFaultBefore y (Cycle t) → ⊥
none_before_cycle m t known free y (unknown_parent u d is has fails) before = told_apart (knows_types m) m.types u d has fails (known u (slice_get_within m.types u d has))
none_before_cycle m t known free y (cycle u is within circle) before =
    elim (before_head u t Equal (ranked (Cycle t) y (Cycle u) is before)) [
      | inl less ↦ not_both (is_in_circle m u) circle (free u less)
      | inr same ↦ let no = same.1 in cc
    ]
none_before_cycle m t known free y (wider_attribute u k d a is has has_a fails) before = let no = ranked (Cycle t) y (Widening u false k) is before in cc
none_before_cycle m t known free y (wider_port u k d p is has has_p fails) before = let no = ranked (Cycle t) y (Widening u true k) is before in cc
none_before_cycle m t known free y (crowded u is within full) before = let no = ranked (Cycle t) y (Crowded u) is before in cc

none_before_crowded : (m : Model) (t : ℕ) → KnowsBelow m (length m.types) → HasNoCircleBelow m (length m.types) → NarrowsBelow m (length m.types) → HasRoomBelow m t
    → (y : TaxFault) → HasTaxFault m y → IsFaultBefore y (Crowded t) → ⊥
none_before_crowded m t known free narrow room y (unknown_parent u d is has fails) before = told_apart (knows_types m) m.types u d has fails (known u (slice_get_within m.types u d has))
none_before_crowded m t known free narrow room y (cycle u is within circle) before = not_both (is_in_circle m u) circle (free u within)
none_before_crowded m t known free narrow room y (wider_attribute u k d a is has has_a fails) before =
    no_wide_attribute m u d k a has_a fails (narrow u d (slice_get_within m.types u d has) has)
none_before_crowded m t known free narrow room y (wider_port u k d p is has has_p fails) before =
    no_wide_port m u d k p has_p fails (narrow u d (slice_get_within m.types u d has) has)
none_before_crowded m t known free narrow room y (crowded u is within full) before =
    elim (before_head u t Equal (ranked (Crowded t) y (Crowded u) is before)) [
      | inl less ↦ let yes = room u less in cc
      | inr same ↦ let no = same.1 in cc
    ]

same_type : (types : List TypeDecl) (u t : ℕ) (e d : TypeDecl) → u ≡ t → IsAt types u e → IsAt types t d → e ≡ d
same_type types u t e d same here there = let moved = ap (slice_get types) same in cc

-- a test of a place, of one type by two names
same_place : (test : Model → ℕ → TypeDecl → ℕ → Bool) (m : Model) (t u : ℕ) (d e : TypeDecl) (j : ℕ) → u ≡ t → e ≡ d → IsTrue (test m t d j) → IsTrue (test m u e j)
same_place test m t u d e j same equal passes = ap (λ v. test m v e j) same ∙ ap (λ f. test m t f j) equal ∙ passes

abbrev NarrowsBefore : Model → ℕ → Type 0
NarrowsBefore m t = (u : ℕ) (e : TypeDecl) → u < t → IsAt m.types u e → NarrowsAll m u e

none_before_attribute : (m : Model) (t k : ℕ) (d : TypeDecl) → IsAt m.types t d → KnowsBelow m (length m.types) → HasNoCircleBelow m (length m.types) → NarrowsBefore m t
    → ((j : ℕ) → j < k → IsTrue (attribute_narrows_at m t d j)) → (y : TaxFault) → HasTaxFault m y → IsFaultBefore y (Widening t false k) → ⊥
none_before_attribute m t k d here known free narrow below y (unknown_parent u e is has fails) before =
    told_apart (knows_types m) m.types u e has fails (known u (slice_get_within m.types u e has))
none_before_attribute m t k d here known free narrow below y (cycle u is within circle) before = not_both (is_in_circle m u) circle (free u within)
none_before_attribute m t k d here known free narrow below y (wider_attribute u j e a is has has_a fails) before =
    elim (before_head u t (slice_cmp nat_cmp (0 ∷ j ∷ []) (0 ∷ k ∷ [])) (ranked (Widening t false k) y (Widening u false j) is before)) [
      | inl less ↦ no_wide_attribute m u e j a has_a fails (narrow u e less has)
      | inr same ↦ elim (before_head j k Equal same.1) [
        | inl less ↦
            let equal = same_type m.types u t e d same.0 has here in
            wide_attribute_told m u e j a has_a fails (same_place attribute_narrows_at m t u d e j same.0 equal (below j less))
        | inr equal ↦ let never = equal.1 in cc
      ]
    ]
none_before_attribute m t k d here known free narrow below y (wider_port u j e p is has has_p fails) before =
    elim (before_head u t (slice_cmp nat_cmp (1 ∷ j ∷ []) (0 ∷ k ∷ [])) (ranked (Widening t false k) y (Widening u true j) is before)) [
      | inl less ↦ no_wide_port m u e j p has_p fails (narrow u e less has)
      | inr same ↦ let never = same.1 in cc
    ]
none_before_attribute m t k d here known free narrow below y (crowded u is within full) before = let never = ranked (Widening t false k) y (Crowded u) is before in cc

none_before_port : (m : Model) (t k : ℕ) (d : TypeDecl) → IsAt m.types t d → KnowsBelow m (length m.types) → HasNoCircleBelow m (length m.types) → NarrowsBefore m t
    → ((j : ℕ) → j < length d.attributes → IsTrue (attribute_narrows_at m t d j)) → ((j : ℕ) → j < k → IsTrue (port_narrows_at m t d j))
    → (y : TaxFault) → HasTaxFault m y → IsFaultBefore y (Widening t true k) → ⊥
none_before_port m t k d here known free narrow attributes below y (unknown_parent u e is has fails) before =
    told_apart (knows_types m) m.types u e has fails (known u (slice_get_within m.types u e has))
none_before_port m t k d here known free narrow attributes below y (cycle u is within circle) before = not_both (is_in_circle m u) circle (free u within)
none_before_port m t k d here known free narrow attributes below y (wider_attribute u j e a is has has_a fails) before =
    elim (before_head u t (slice_cmp nat_cmp (0 ∷ j ∷ []) (1 ∷ k ∷ [])) (ranked (Widening t true k) y (Widening u false j) is before)) [
      | inl less ↦ no_wide_attribute m u e j a has_a fails (narrow u e less has)
      | inr same ↦
          let equal = same_type m.types u t e d same.0 has here in
          let there = ap (λ f. slice_get f.attributes j) (sym equal) in
          wide_attribute_told m u e j a has_a fails
          (same_place attribute_narrows_at m t u d e j same.0 equal (attributes j (slice_get_within d.attributes j a (there ∙ has_a))))
    ]
none_before_port m t k d here known free narrow attributes below y (wider_port u j e p is has has_p fails) before =
    elim (before_head u t (slice_cmp nat_cmp (1 ∷ j ∷ []) (1 ∷ k ∷ [])) (ranked (Widening t true k) y (Widening u true j) is before)) [
      | inl less ↦ no_wide_port m u e j p has_p fails (narrow u e less has)
      | inr same ↦ elim (before_head j k Equal same.1) [
        | inl less ↦
            let equal = same_type m.types u t e d same.0 has here in
            wide_port_told m u e j p has_p fails (same_place port_narrows_at m t u d e j same.0 equal (below j less))
        | inr equal ↦ let never = equal.1 in cc
      ]
    ]
none_before_port m t k d here known free narrow attributes below y (crowded u is within full) before = let never = ranked (Widening t true k) y (Crowded u) is before in cc

-- ---- the fault that is found is the first

-- the element whose test fails
pub failing : {A : Type 0} (p : A → Bool) (xs : List A) (k : ℕ) (o : Option A) → slice_get xs k ≡ o → IsFalse (option_map_or p o true) → (x : A) × IsAt xs k x × IsFalse (p x)
failing p xs k None is fails = cc
failing p xs k (Some x) is fails = (x, is, fails)

turned : (b : Bool) → IsFalse (not b) → IsTrue b
turned true fails = refl
turned false fails = cc

pub unknown_first : (m : Model) (t : ℕ) → IsFirstFailing (λ k. option_map_or (knows_types m) (slice_get m.types k) true) (length m.types) (Some t) → Faults m (UnknownParent t)
unknown_first m t first =
    let found = failing (knows_types m) m.types t (slice_get m.types t) refl first.1 in
    record { is = unknown_parent t found.0 refl found.1 found.2; none_before = none_before_unknown m t first.2 }

pub cycle_first : (m : Model) (t : ℕ) → KnowsBelow m (length m.types) → IsFirstFailing (λ k. not (is_in_circle m k)) (length m.types) (Some t) → Faults m (Cycle t)
cycle_first m t known first = record { is = cycle t refl first.0 (turned (is_in_circle m t) first.1); none_before = none_before_cycle m t known first.2 }

pub crowded_first : (m : Model) (t : ℕ) → KnowsBelow m (length m.types) → HasNoCircleBelow m (length m.types) → NarrowsBelow m (length m.types)
    → IsFirstFailing (has_room_at m) (length m.types) (Some t) → Faults m (Crowded t)
crowded_first m t known free narrow first =
    record { is = crowded t refl first.0 first.1; none_before = none_before_crowded m t known free narrow first.2 }

widening_of_first : (m : Model) (f : TaxFault) (t : ℕ) (d : TypeDecl) → IsAt m.types t d → KnowsBelow m (length m.types) → HasNoCircleBelow m (length m.types) → NarrowsBefore m t
    → IsWideningOf m t d f → Faults m f
widening_of_first m f t d here known free narrow (of_attribute k is first) =
    let found = failing (attribute_narrows_nearest m t) d.attributes k (slice_get d.attributes k) refl first.1 in
    let this : IsFirstTaxFault m (Widening t false k) = record {
      is = wider_attribute t k d found.0 refl here found.1 (attribute_failed m t found.0 found.2);
      none_before = none_before_attribute m t k d here known free narrow first.2;
    } in
    subst (Faults m) (sym is) this
widening_of_first m f t d here known free narrow (of_port k is attributes first) =
    let found = failing (port_narrows_nearest m t) d.ports k (slice_get d.ports k) refl first.1 in
    let this : IsFirstTaxFault m (Widening t true k) = record {
      is = wider_port t k d found.0 refl here found.1 (port_failed m t found.0 found.2);
      none_before = none_before_port m t k d here known free narrow attributes first.2;
    } in
    subst (Faults m) (sym is) this

pub widening_first : (m : Model) (f : TaxFault) → KnowsBelow m (length m.types) → HasNoCircleBelow m (length m.types) → IsFirstWidening m f → Faults m f
widening_first m f known free first = widening_of_first m f first.kind first.declared first.is known free first.before first.widens
