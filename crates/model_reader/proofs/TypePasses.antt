-- The faults 9 to 11 of a model file.
use Rattle.std.proofs.Common.{◌≡◌, ℕ, Bool, true, false, ◌<◌, ◌≤◌, ◌∷◌, ◌++◌, [], refl, ap, subst, arith}
use Rattle.std.specs.Prelude.{IsTrue}
use Rattle.std.specs.Ordering.{nat_cmp, is_lt}
use Rattle.std.specs.Cmp.Lexicographic.{slice_cmp}
use Rattle.std.proofs.lemmas.Option.{none-some, same_Some}
use Rattle.serde_json.specs.Data.{Data}
use Rattle.prod_model.specs.First.{IsFirst}
use Rattle.prod_model.specs.Valid.{IsTaxonomy}
use Rattle.type_taxonomy.specs.declared.fault.TaxFault.{TaxFault}
use Rattle.type_taxonomy.specs.declared.fault.TaxFault.TheVariants as tax
use Rattle.type_taxonomy.specs.Faults.{HasTaxFault, rank_of, IsFirstTaxFault, Faults}
use Rattle.type_taxonomy.specs.Laws.{HasNoFault}
use Rattle.file_values.specs.declared.part.Part.TheVariants.{At as at}
use Rattle.file_values.specs.declared.fault.Fault.{Fault as AFault}
use Rattle.file_values.specs.declared.fault.FaultCode.TheVariants.{Cycle, Widening, Crowded}
use Rattle.file_values.specs.Codes.{number_of}
use Rattle.file_values.specs.FaultOrder.{IsFaultBefore}
use Rattle.file_values.specs.Places.{under}
use Rattle.file_meaning.specs.declared.refusal.Refusal.{Refusal}
use Rattle.file_meaning.specs.declared.refusal.Refusal.TheVariants.{Fault, Memory}
use Rattle.file_meaning.specs.ModelOf.{declared_in}
use Rattle.file_meaning.specs.Faults.{fault, type_place, declared_under, HasModelFault}
use Rattle.file_meaning.specs.Faults as faults
use Rattle.file_meaning.specs.Laws.{IsFaultlessTo}
use Rattle.model_reader.specs.Passes.{IsRefusalBy}
use Rattle.model_reader.specs.steps.TypePasses.{IsRefusalOfTypes}
use Rattle.model_reader.proofs.FirstByCode.{later_is_not_before}
use Rattle.model_reader.proofs.PlainOfFiles.{early_plain, stated_code}

-- what a fault of a value is, seen from the faults of the types
pub data Seen (d : Data) (f : AFault) : Type 0 where
  early : number_of f.code ≤ 8 → Seen d f
  cycle : (t : ℕ) → f ≡ fault Cycle (type_place t) → HasTaxFault (declared_in d) (tax.Cycle t) → Seen d f
  widening : (t : ℕ) (port : Bool) (k : ℕ) → f ≡ fault Widening (type_place t ++ under (declared_under port) ∷ at k ∷ [])
      → HasTaxFault (declared_in d) (tax.Widening t port k) → Seen d f
  crowded : (t : ℕ) → f ≡ fault Crowded (type_place t) → HasTaxFault (declared_in d) (tax.Crowded t) → Seen d f
  late : 11 < number_of f.code → Seen d f

seen : (d : Data) (f : AFault) → HasModelFault d f → Seen d f
seen d f (faults.plain p) = early (let n : number_of f.code ≤ 7 = early_plain f p in omega arith)
seen d f (faults.unknown_type place e x) = early (let n : number_of f.code ≡ 8 = ap (λ g. number_of g.code) e in omega arith)
seen d f (faults.cycle t e x) = cycle t e x
seen d f (faults.widening t port k e x) = widening t port k e x
seen d f (faults.crowded t e x) = crowded t e x
seen d f (faults.expression s) = late (stated_code _ _ f s)
seen d f (faults.wrong_inverse t k e x) = late (let n : number_of f.code ≡ 17 = ap (λ g. number_of g.code) e in omega arith)

-- types without faults: no fault up to 11
pub types_clear : HasNoFault → (d : Data) → IsFaultlessTo 8 d → IsTaxonomy (declared_in d) → IsFaultlessTo 11 d
types_clear law d clear taxonomy f within has = elim (seen d f has) [
  | early low ↦ clear f low has
  | cycle t e x ↦ law (declared_in d) _ taxonomy x
  | widening t port k e x ↦ law (declared_in d) _ taxonomy x
  | crowded t e x ↦ law (declared_in d) _ taxonomy x
  | late high ↦ omega arith
]

-- the order of two places of declarations is that of their ranks
same_order : (t k t' k' : ℕ) (port port' : Bool)
    → IsFaultBefore (fault Widening (type_place t' ++ under (declared_under port') ∷ at k' ∷ [])) (fault Widening (type_place t ++ under (declared_under port) ∷ at k ∷ []))
    → IsTrue (is_lt (slice_cmp nat_cmp (rank_of (tax.Widening t' port' k')) (rank_of (tax.Widening t port k))))
same_order t k t' k' true true less = less
same_order t k t' k' true false less = less
same_order t k t' k' false true less = less
same_order t k t' k' false false less = less

module _ (d : Data) (clear : IsFaultlessTo 8 d) where
  abbrev First : TaxFault → Type 0
  First = IsFirstTaxFault (declared_in d)

  abbrev NoneBefore : AFault → Type 0
  NoneBefore f = (y : AFault) → HasModelFault d y → ¬ IsFaultBefore y f

  later : (f y : AFault) → number_of f.code ≤ 11 → 11 < number_of y.code → ¬ IsFaultBefore y f
  later f y here high = later_is_not_before f y (omega arith)

  -- the order, where the one before has this form
  before : (f y z : AFault) → y ≡ z → IsFaultBefore y f → IsFaultBefore z f
  before f y z e less = (let B : AFault → Type 0 = λ x. IsFaultBefore x f in subst B e less)

  -- one of a later code isn't before it
  not_before : (f y z : AFault) → y ≡ z → number_of f.code < number_of z.code → ¬ IsFaultBefore y f
  not_before f y z e high less = later_is_not_before f z high (before f y z e less)

  first_cycle : (t : ℕ) → First (tax.Cycle t) → IsFirst (HasModelFault d) IsFaultBefore (fault Cycle (type_place t))
  first_cycle t first = record { is = faults.cycle t refl first.is; none_before = none_before }
    where
      none_before : NoneBefore (fault Cycle (type_place t))
      none_before y has less = elim (seen d y has) [
        | early low ↦ clear y low has
        | cycle t' e x ↦ first.none_before (tax.Cycle t') x (before (fault Cycle (type_place t)) y (fault Cycle (type_place t')) e less)
        | widening t' port k e x ↦ not_before (fault Cycle (type_place t)) y (fault Widening (type_place t' ++ under (declared_under port) ∷ at k ∷ [])) e (omega arith) less
        | crowded t' e x ↦ not_before (fault Cycle (type_place t)) y (fault Crowded (type_place t')) e (omega arith) less
        | late high ↦ later (fault Cycle (type_place t)) y (omega arith) high less
      ]

  first_widening : (t : ℕ) (port : Bool) (k : ℕ) → First (tax.Widening t port k)
      → IsFirst (HasModelFault d) IsFaultBefore (fault Widening (type_place t ++ under (declared_under port) ∷ at k ∷ []))
  first_widening t port k first = record { is = faults.widening t port k refl first.is; none_before = none_before }
    where
      none_before : NoneBefore (fault Widening (type_place t ++ under (declared_under port) ∷ at k ∷ []))
      none_before y has less = elim (seen d y has) [
        | early low ↦ clear y low has
        | cycle t' e x ↦ first.none_before (tax.Cycle t') x refl
        | widening t' port' k' e x ↦ first.none_before (tax.Widening t' port' k') x (same_order t k t' k' port port'
            (before (fault Widening (type_place t ++ under (declared_under port) ∷ at k ∷ [])) y (fault Widening (type_place t' ++ under (declared_under port') ∷ at k' ∷ [])) e less))
        | crowded t' e x ↦ not_before (fault Widening (type_place t ++ under (declared_under port) ∷ at k ∷ [])) y (fault Crowded (type_place t')) e (omega arith) less
        | late high ↦ later (fault Widening (type_place t ++ under (declared_under port) ∷ at k ∷ [])) y (omega arith) high less
      ]

  first_crowded : (t : ℕ) → First (tax.Crowded t) → IsFirst (HasModelFault d) IsFaultBefore (fault Crowded (type_place t))
  first_crowded t first = record { is = faults.crowded t refl first.is; none_before = none_before }
    where
      none_before : NoneBefore (fault Crowded (type_place t))
      none_before y has less = elim (seen d y has) [
        | early low ↦ clear y low has
        | cycle t' e x ↦ first.none_before (tax.Cycle t') x refl
        | widening t' port k e x ↦ first.none_before (tax.Widening t' port k) x refl
        | crowded t' e x ↦ first.none_before (tax.Crowded t') x (before (fault Crowded (type_place t)) y (fault Crowded (type_place t')) e less)
        | late high ↦ later (fault Crowded (type_place t)) y (omega arith) high less
      ]

  abbrev IsFirstFault : AFault → Type 0
  IsFirstFault f = IsFirst (HasModelFault d) IsFaultBefore f

  -- the first fault of the types is the first of the file
  pub types_refused : (t : TaxFault) (e : Refusal) → Faults (declared_in d) t → IsRefusalOfTypes t e → IsRefusalBy (HasModelFault d) e
  types_refused t (Memory e) first is = is
  types_refused (tax.UnknownParent t) (Fault f) first is = absurd (none-some f is)
  types_refused (tax.Cycle t) (Fault f) first is = subst IsFirstFault (same_Some _ f is) (first_cycle t first)
  types_refused (tax.Widening t port k) (Fault f) first is = subst IsFirstFault (same_Some _ f is) (first_widening t port k first)
  types_refused (tax.Crowded t) (Fault f) first is = subst IsFirstFault (same_Some _ f is) (first_crowded t first)
  types_refused tax.Memory (Fault f) first is = absurd (none-some f is)
