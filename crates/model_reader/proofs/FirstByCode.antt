-- The first fault by code: a pass for the next code finds the first fault, or there is none up to that code.
use Rattle.std.proofs.Common.{◌≡◌, ℕ, zero, suc, ◌<◌, List, refl, sym, ◌∙◌, ap, subst, arith, ◌⊎◌, inl, inr}
use Rattle.std.specs.Prelude.{None, [], ◌∷◌, slice_index_or}
use Rattle.std.proofs.lemmas.Bool.Decides.{nat_tests}
use Rattle.std.proofs.lemmas.Bool.{false≢true}
use Rattle.std.specs.Ordering.{nat_cmp, is_lt, ordering_then}
use Rattle.std.specs.Cmp.Lexicographic.{slice_cmp}
use Rattle.std.specs.declared.cmp.Ordering.TheVariants.{Equal, Greater}
use Rattle.prod_model.specs.First.{IsFirst}
use Rattle.file_values.specs.declared.part.Part.{Part}
use Rattle.file_values.specs.declared.fault.Fault.{Fault as AFault}
use Rattle.file_values.specs.declared.fault.FaultCode.{FaultCode}
use Rattle.file_values.specs.declared.fault.FaultCode.TheVariants.{TooLong, NoJson, OtherKind, WrongLength, WrongForm, Twice, PastLimit, UnknownType, Cycle, Widening, Crowded, Misformed, Deep, UnknownName, WrongKind, Wide, WrongInverse}
use Rattle.file_values.specs.Codes.{number_of}
use Rattle.file_values.specs.FaultOrder.{IsFaultBefore}
use Rattle.file_values.specs.Places.{part_cmp}
use Rattle.file_values.specs.Inside.{Finds}
use Rattle.file_meaning.specs.declared.refusal.Refusal.{Refusal}
use Rattle.file_meaning.specs.declared.refusal.Refusal.TheVariants.{Fault, Memory}
use Rattle.file_meaning.specs.Faults.{fault}
use Rattle.model_reader.specs.Passes.{IsClearTo, IsRefusalBy, IsFirstAt, IsRefusalAt}

-- the codes by their numbers
abbrev in_order : List FaultCode
in_order =
    TooLong ∷ TooLong ∷ NoJson ∷ OtherKind ∷ WrongLength ∷ WrongForm ∷ Twice ∷ PastLimit ∷ UnknownType ∷ Cycle ∷ Widening ∷ Crowded ∷ Misformed ∷ Deep
    ∷ UnknownName ∷ WrongKind ∷ Wide ∷ WrongInverse ∷ []

numbered : (c : FaultCode) → slice_index_or in_order (number_of c) TooLong ≡ c
numbered TooLong = refl
numbered NoJson = refl
numbered OtherKind = refl
numbered WrongLength = refl
numbered WrongForm = refl
numbered Twice = refl
numbered PastLimit = refl
numbered UnknownType = refl
numbered Cycle = refl
numbered Widening = refl
numbered Crowded = refl
numbered Misformed = refl
numbered Deep = refl
numbered UnknownName = refl
numbered WrongKind = refl
numbered Wide = refl
numbered WrongInverse = refl

-- two codes of one number are one
same_code : (a b : FaultCode) → number_of a ≡ number_of b → a ≡ b
same_code a b same = sym (numbered a) ∙ ap (λ n. slice_index_or in_order n TooLong) same ∙ numbered b

split : (m n : ℕ) → (m < n) ⊎ ((m ≡ n) ⊎ (n < m))
split zero zero = inr (inl refl)
split zero (suc n) = inl (omega arith)
split (suc m) zero = inr (inr (omega arith))
split (suc m) (suc n) = elim (split m n) [
  | inl below ↦ inl (omega arith)
  | inr (inl is) ↦ inr (inl (ap suc is))
  | inr (inr beyond) ↦ inr (inr (omega arith))
]

level : (n : ℕ) → nat_cmp n n ≡ Equal
level n = grind (arith, nat_tests)

greater : (m n : ℕ) → n < m → nat_cmp m n ≡ Greater
greater m n more = grind (arith, nat_tests)

-- a fault of a later code isn't before one of an earlier code
pub later_is_not_before : (f y : AFault) → number_of f.code < number_of y.code → ¬ IsFaultBefore y f
later_is_not_before f y later less =
    false≢true
    (sym (ap (λ o. is_lt (ordering_then o (slice_cmp part_cmp y.place f.place))) (greater (number_of y.code) (number_of f.code) later)) ∙ less)

module _ (Has : AFault → Type 0) (At : FaultCode → List Part → Type 0) (found : (f : AFault) → Has f → At f.code f.place)
    (fails : (c : FaultCode) (place : List Part) → At c place → Has (fault c place)) where
  -- where it stands by its code
  at_code : (f : AFault) (code : FaultCode) → number_of f.code ≡ number_of code → Has f → At code f.place
  at_code f code same has = (let A : FaultCode → Type 0 = λ c. At c f.place in subst A (same_code f.code code same) (found f has))

  -- no fault up to a code, and none of the next: none up to the next
  pub clear : (n : ℕ) (code : FaultCode) → IsClearTo Has n → number_of code ≡ suc n → Finds (At code) None → IsClearTo Has (suc n)
  clear n code before is none f within has = elim (split (number_of f.code) (suc n)) [
    | inl less ↦ before f (omega arith) has
    | inr (inl same) ↦ none f.place (at_code f code (same ∙ sym is) has)
    | inr (inr more) ↦ omega arith
  ]

  -- no fault up to a code, and this is the first of the next: it is the first of all
  first : (n : ℕ) (code : FaultCode) → IsClearTo Has n → number_of code ≡ suc n → (f : AFault) → IsFirstAt code (At code) f → IsFirst Has IsFaultBefore f
  first n code before is f r = record {
    is = (let A : FaultCode → Type 0 = λ c. At c f.place in fails f.code f.place (subst A (sym r.code_is) r.first.is));
    none_before = λ y has less. elim (split (number_of y.code) (suc n)) [
      | inl lesser ↦ before y (omega arith) has
      | inr (inl same) ↦ r.first.none_before y.place (at_code y code (same ∙ sym is) has)
          (sym (ap (λ o. is_lt (ordering_then o (slice_cmp part_cmp y.place f.place)))
          (ap (λ k. nat_cmp k (number_of f.code)) (same ∙ sym (number r)) ∙ level (number_of f.code))) ∙ less)
      | inr (inr more) ↦ (let here : number_of f.code ≡ suc n = number r in later_is_not_before f y (omega arith) less)
    ];
  }
    where
      number : {g : AFault} → IsFirstAt code (At code) g → number_of g.code ≡ suc n
      number q = ap number_of q.code_is ∙ is

  pub refused : (n : ℕ) (code : FaultCode) → IsClearTo Has n → number_of code ≡ suc n → (e : Refusal) → IsRefusalAt code (At code) e → IsRefusalBy Has e
  refused n code before is (Fault f) r = first n code before is f r
  refused n code before is (Memory e) r = r
