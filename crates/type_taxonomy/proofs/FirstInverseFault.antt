-- Which inverse that is not right is the first one.
use Rattle.std.proofs.Common.{◌≡◌, ℕ, ◌<◌, ◌+◌, ◌⊎◌, IsTrue, IsFalse, Bool, true, [], ◌∷◌, length, inl, inr, sym, ap, subst, ◌∙◌, refl, Some, None, slice_get, zero-add, arith}
use Rattle.std.specs.Option.{option_map_or}
use Rattle.std.specs.List.{list_all}
use Rattle.std.specs.declared.cmp.Ordering.TheVariants.{Equal}
use Rattle.std.specs.Ordering.{nat_cmp, is_lt}
use Rattle.std.specs.Cmp.Lexicographic.{slice_cmp}
use Rattle.std.proofs.lemmas.Bool.{cases_eq}
use Rattle.std.proofs.lemmas.Option.{none-some, slice_get_cases}
use Rattle.base_laws.specs.Places.{IsAt}
use Rattle.base_laws.proofs.Ranges.{list_all_below}
use Rattle.base_laws.proofs.Tests.{list_all_at}
use Rattle.prod_model.specs.declared.model.Model.{Model}
use Rattle.prod_model.specs.declared.model.PortDecl.{PortDecl}
use Rattle.prod_model.specs.Valid.{has_right_inverse, has_right_inverses, port_declarations}
use Rattle.type_taxonomy.specs.declared.inverse_fault.InverseFault.{InverseFault}
use Rattle.type_taxonomy.specs.declared.inverse_fault.InverseFault.TheVariants.{Bad}
use Rattle.type_taxonomy.specs.Inverses.{HasInverseFault, IsInverseFaultBefore, IsFirstInverseFault}
use Rattle.type_taxonomy.specs.steps.FirstFailing.{IsFirstFailing}
use Rattle.type_taxonomy.proofs.FirstFault.{before_head, told_apart, failing}
use Rattle.type_taxonomy.proofs.TaxonomyFacts.{passes_each, passes_below}

-- the inverse of the declaration at this place of the type is right
abbrev pub right_at : Model → ℕ → ℕ → Bool
right_at m t k = option_map_or (has_right_inverse m t) (slice_get (port_declarations m t) k) true

-- the inverses of the types below are right
abbrev pub RightBelow : Model → ℕ → Type 0
RightBelow m n = (t : ℕ) → t < n → IsTrue (list_all (has_right_inverse m t) (port_declarations m t))

right_more : (m : Model) (t u : ℕ) → RightBelow m t → IsTrue (list_all (has_right_inverse m t) (port_declarations m t)) → u < t + 1 → (u ≡ t) ⊎ (u ≡ t → ⊥)
    → IsTrue (list_all (has_right_inverse m u) (port_declarations m u))
right_more m t u before right below (inl same) = ap (λ v. list_all (has_right_inverse m v) (port_declarations m v)) same ∙ right
right_more m t u before right below (inr other) = before u (omega arith)

-- one type more
pub right_next : (m : Model) (t : ℕ) → RightBelow m t → IsFirstFailing (right_at m t) (length (port_declarations m t)) None → RightBelow m (t + 1)
right_next m t before none = λ u below. right_more m t u before (passes_each (has_right_inverse m t) (port_declarations m t) none) below (cases_eq u t)

-- all types
pub all_right : (m : Model) → RightBelow m (length m.types) → IsTrue (has_right_inverses m)
unfolding has_right_inverses
all_right m right = passes_below (λ t. list_all (has_right_inverse m t) (port_declarations m t)) (length m.types) right

fails_and_passes : (b : Bool) → IsFalse b → IsTrue b → ⊥
fails_and_passes b fails passes = cc

none_before : (m : Model) (t k : ℕ) → RightBelow m t → ((j : ℕ) → j < k → IsTrue (right_at m t j)) → (y : InverseFault) → HasInverseFault m y → IsInverseFaultBefore y (Bad t k) → ⊥
none_before m t k right below y has before =
    let ranked : IsTrue (is_lt (slice_cmp nat_cmp (has.kind ∷ has.place ∷ []) (t ∷ k ∷ []))) = subst (λ z. IsInverseFaultBefore z (Bad t k)) has.is before in
    let test = has_right_inverse m has.kind in
    let declared = port_declarations m has.kind in
    elim (before_head has.kind t (slice_cmp nat_cmp (has.place ∷ []) (k ∷ [])) ranked) [
      | inl less ↦ fails_and_passes (test has.declaration) has.wrong (list_all_at test declared (right has.kind less) has.place has.declaration has.stands)
      | inr same ↦ elim (before_head has.place k Equal same.1) [
        | inl lower ↦ told_apart test declared has.place has.declaration has.stands has.wrong (ap (λ u. right_at m u has.place) same.0 ∙ below has.place lower)
        | inr equal ↦ let never = equal.1 in cc
      ]
    ]

-- where the types below are right, the first place that fails in a type is the first fault
pub first_inverse_fault : (m : Model) (t k : ℕ) → RightBelow m t → IsFirstFailing (right_at m t) (length (port_declarations m t)) (Some k) → IsFirstInverseFault m (Bad t k)
first_inverse_fault m t k right first =
    let found = failing (has_right_inverse m t) (port_declarations m t) k (slice_get (port_declarations m t) k) refl first.1 in
    record {
      is = record { kind = t; place = k; is = refl; declaration = found.0; stands = found.1; wrong = found.2 };
      none_before = none_before m t k right first.2;
    }

-- only a type's number has declarations
declared_within : (m : Model) (t k : ℕ) (d : PortDecl) → IsAt (port_declarations m t) k d → t < length m.types
declared_within m t k d stands = elim (slice_get_cases m.types t).1 [
  | inl w ↦ w.1
  | inr w ↦ absurd (none-some d (ap (λ o. slice_get (option_map_or (λ e. e.ports) o []) k) (sym w.1) ∙ stands))
]

-- where all inverses are right, none has a fault
pub right_has_no_fault : (m : Model) (f : InverseFault) → IsTrue (has_right_inverses m) → HasInverseFault m f → ⊥
unfolding has_right_inverses
right_has_no_fault m f right has =
    let test = λ (t : ℕ). list_all (has_right_inverse m t) (port_declarations m t) in
    let within = declared_within m has.kind has.place has.declaration has.stands in
    let here : test has.kind ≡ true = ap test (sym (zero-add has.kind)) ∙ list_all_below test 0 (length m.types) has.kind right within in
    fails_and_passes (has_right_inverse m has.kind has.declaration) has.wrong
    (list_all_at (has_right_inverse m has.kind) (port_declarations m has.kind) here has.place has.declaration has.stands)
