-- Faults by their codes: how far a value has none, and the first of them.
use Rattle.std.specs.Prelude.{◌≡◌, ℕ, ◌≤◌, List}
use Rattle.prod_model.specs.First.{IsFirst}
use Rattle.file_values.specs.declared.part.Part.{Part}
use Rattle.file_values.specs.declared.fault.Fault.{Fault as AFault}
use Rattle.file_values.specs.declared.fault.FaultCode.{FaultCode}
use Rattle.file_values.specs.Codes.{number_of}
use Rattle.file_values.specs.FaultOrder.{IsFaultBefore}
use Rattle.file_values.specs.Places.{IsPlaceBefore}
use Rattle.file_meaning.specs.declared.refusal.Refusal.{Refusal}
use Rattle.file_meaning.specs.declared.refusal.Refusal.TheVariants.{Fault, Memory}

-- there is no fault of a code up to this one
abbrev pub IsClearTo : (AFault → Type 0) → ℕ → Type 0
IsClearTo Has n = (f : AFault) → number_of f.code ≤ n → ¬ Has f

-- the refusal by the first of these faults; want of memory says nothing
abbrev pub IsRefusalBy : (AFault → Type 0) → Refusal → Type 0
IsRefusalBy Has (Fault f) = IsFirst Has IsFaultBefore f
IsRefusalBy Has (Memory e) = Unit {0}

-- the fault of this code at the first of these places
pub record IsFirstAt (code : FaultCode) (Is : List Part → Type 0) (f : AFault) : Type 0 where
  pub code_is : f.code ≡ code
  pub first : IsFirst Is IsPlaceBefore f.place

-- the refusal by this code at the first of these places; want of memory says nothing
abbrev pub IsRefusalAt : FaultCode → (List Part → Type 0) → Refusal → Type 0
IsRefusalAt code Is (Fault f) = IsFirstAt code Is f
IsRefusalAt code Is (Memory e) = Unit {0}
