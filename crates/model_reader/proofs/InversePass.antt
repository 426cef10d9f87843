-- The faults 17 of a model file.
use Rattle.std.proofs.Common.{◌≡◌, ℕ, Bool, ◌≤◌, List, ◌∷◌, ◌++◌, [], refl, sym, ap, subst, arith}
use Rattle.std.specs.Prelude.{IsTrue}
use Rattle.serde_json.specs.Data.{Data}
use Rattle.prod_model.specs.First.{IsFirst}
use Rattle.prod_model.specs.Valid.{IsDeclared, has_right_inverses}
use Rattle.prod_model.specs.declared.model.Model.{Model}
use Rattle.type_taxonomy.specs.declared.inverse_fault.InverseFault.{InverseFault}
use Rattle.type_taxonomy.specs.declared.inverse_fault.InverseFault.TheVariants.{Bad}
use Rattle.type_taxonomy.specs.Inverses.{HasInverseFault, IsInverseFaultBefore, IsFirstInverseFault}
use Rattle.type_taxonomy.specs.Laws.{HasNoInverseFault}
use Rattle.file_values.specs.declared.part.Part.{Part}
use Rattle.file_values.specs.declared.part.Part.TheVariants.{At as at}
use Rattle.file_values.specs.declared.kind.Key.TheVariants as key
use Rattle.file_values.specs.declared.fault.Fault.{Fault as AFault}
use Rattle.file_values.specs.declared.fault.FaultCode.TheVariants.{WrongInverse}
use Rattle.file_values.specs.Codes.{number_of}
use Rattle.file_values.specs.FaultOrder.{IsFaultBefore}
use Rattle.file_values.specs.Places.{under}
use Rattle.file_meaning.specs.declared.refusal.Refusal.{Refusal}
use Rattle.file_meaning.specs.declared.refusal.Refusal.TheVariants.{Fault, Memory}
use Rattle.file_meaning.specs.ModelOf.{declared_in}
use Rattle.file_meaning.specs.Faults.{fault, type_place, Stated, HasOwnFault, HasStatedFault, HasModelFault}
use Rattle.file_meaning.specs.Faults as faults
use Rattle.file_meaning.specs.Laws.{IsFaultlessTo, FaultlessIsDeclared}
use Rattle.model_reader.specs.Passes.{IsRefusalBy}
use Rattle.model_reader.specs.steps.InversePass.{IsRefusalOfInverse}
use Rattle.model_reader.proofs.PlainOfFiles.{early_plain}

-- the codes of expressions are 16 at most
own_low : (m : Model) (d : Data) (of : ℕ) (truth : Bool) (f : AFault) → HasOwnFault m d of truth f → number_of f.code ≤ 16
own_low m d of truth f (faults.of_no_form place e x) = (let n : number_of f.code ≡ 12 = ap (λ g. number_of g.code) e in omega arith)
own_low m d of truth f (faults.deep path e x) = (let n : number_of f.code ≡ 13 = ap (λ g. number_of g.code) e in omega arith)
own_low m d of truth f (faults.unknown_name path e x) = (let n : number_of f.code ≡ 14 = ap (λ g. number_of g.code) e in omega arith)
own_low m d of truth f (faults.wrong_whole e x) = (let n : number_of f.code ≡ 15 = ap (λ g. number_of g.code) e in omega arith)
own_low m d of truth f (faults.wrong_kind path e x) = (let n : number_of f.code ≡ 15 = ap (λ g. number_of g.code) e in omega arith)
own_low m d of truth f (faults.wide path e x) = (let n : number_of f.code ≡ 16 = ap (λ g. number_of g.code) e in omega arith)

pub stated_low : (m : Model) (stated : List Stated) (f : AFault) → HasStatedFault m stated f → number_of f.code ≤ 16
stated_low m stated f s =
    (let same : number_of f.code ≡ number_of s.own.code = ap (λ g. number_of g.code) s.is in
    let own : number_of s.own.code ≤ 16 = own_low m s.one.value s.one.of s.one.truth s.own s.has in omega arith)

-- the place of an inverse
abbrev pub inverse_place : ℕ → ℕ → List Part
inverse_place t k = type_place t ++ under key.Ports ∷ at k ∷ under key.Inverse ∷ []

-- a fault of a value is of an earlier code, or of an inverse
data Seen (d : Data) (f : AFault) : Type 0 where
  early : number_of f.code ≤ 16 → Seen d f
  wrong : (t k : ℕ) → f ≡ fault WrongInverse (inverse_place t k) → HasInverseFault (declared_in d) (Bad t k) → Seen d f

seen : (d : Data) (f : AFault) → HasModelFault d f → Seen d f
seen d f (faults.plain p) = early (let n : number_of f.code ≤ 7 = early_plain f p in omega arith)
seen d f (faults.unknown_type place e x) = early (let n : number_of f.code ≡ 8 = ap (λ g. number_of g.code) e in omega arith)
seen d f (faults.cycle t e x) = early (let n : number_of f.code ≡ 9 = ap (λ g. number_of g.code) e in omega arith)
seen d f (faults.widening t port k e x) = early (let n : number_of f.code ≡ 10 = ap (λ g. number_of g.code) e in omega arith)
seen d f (faults.crowded t e x) = early (let n : number_of f.code ≡ 11 = ap (λ g. number_of g.code) e in omega arith)
seen d f (faults.expression s) = early (stated_low _ _ f s)
seen d f (faults.wrong_inverse t k e x) = wrong t k e x

module _ (d : Data) (clear : IsFaultlessTo 16 d) where
  -- right inverses: no fault at all
  pub inverses_clear : HasNoInverseFault → IsTrue (has_right_inverses (declared_in d)) → (f : AFault) → ¬ HasModelFault d f
  inverses_clear law right f has = elim (seen d f has) [
    | early low ↦ clear f low has
    | wrong t k e x ↦ law (declared_in d) (Bad t k) right x
  ]

  -- the first wrong inverse is the first fault
  pub inverse_first : (t k : ℕ) → IsFirst (HasInverseFault (declared_in d)) IsInverseFaultBefore (Bad t k)
      → IsFirst (HasModelFault d) IsFaultBefore (fault WrongInverse (inverse_place t k))
  inverse_first t k first = record { is = faults.wrong_inverse t k refl first.is; none_before = none_before }
    where
      none_before : (y : AFault) → HasModelFault d y → ¬ IsFaultBefore y (fault WrongInverse (inverse_place t k))
      none_before y has less = elim (seen d y has) [
        | early low ↦ clear y low has
        | wrong t' k' e x ↦
            (let Before : AFault → Type 0 = λ z. IsFaultBefore z (fault WrongInverse (inverse_place t k)) in
            let there : Before (fault WrongInverse (inverse_place t' k')) = subst Before e less in first.none_before (Bad t' k') x there)
      ]

  -- the value declares a model
  pub declares : FaultlessIsDeclared → (m : Model) → m ≡ declared_in d → IsDeclared m
  declares law m is = subst IsDeclared (sym is) (law d (λ f low has. clear f (omega (arith, low)) has))

  -- no fault at all, by the model that is declared
  pub none_wrong : HasNoInverseFault → (m : Model) → m ≡ declared_in d → IsTrue (has_right_inverses m) → (f : AFault) → ¬ HasModelFault d f
  none_wrong law m is right = (let Right : Model → Type 0 = λ n. IsTrue (has_right_inverses n) in inverses_clear law (subst Right is right))

  -- and so what it is refused for
  pub inverse_refused : (m : Model) (t : InverseFault) (e : Refusal) → m ≡ declared_in d → IsFirstInverseFault m t → IsRefusalOfInverse t e → IsRefusalBy (HasModelFault d) e
  inverse_refused m (Bad t k) (Memory e) m_is first is = is
  inverse_refused m (Bad t k) (Fault f) m_is first is =
      (let F : AFault → Type 0 = λ g. IsFirst (HasModelFault d) IsFaultBefore g in
      let Of : Model → Type 0 = λ n. IsFirstInverseFault n (Bad t k) in
      subst F (sym is) (inverse_first t k (subst Of m_is first)))
