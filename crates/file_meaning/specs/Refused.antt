-- What a refusal says of a file, or of an expression. Want of memory says nothing.
use Rattle.std.specs.Prelude.{ℕ, List, Bool}
use Rattle.serde_json.specs.Data.{Data}
use Rattle.prod_model.specs.declared.model.Model.{Model}
use Rattle.prod_model.specs.First.{IsFirst}
use Rattle.file_values.specs.declared.fault.Fault.{Fault as AFault}
use Rattle.file_values.specs.FaultOrder.{IsFaultBefore}
use Rattle.file_meaning.specs.declared.refusal.Refusal.{Refusal}
use Rattle.file_meaning.specs.declared.refusal.Refusal.TheVariants.{Fault, Memory}
use Rattle.file_meaning.specs.Faults.{IsFaultOfFile, HasOwnFault}

-- the refusal of a file whose values have these faults
abbrev pub IsRefusalOfFile : (Data → AFault → Type 0) → List ℕ → Refusal → Type 0
IsRefusalOfFile HasFault bytes (Fault f) = IsFaultOfFile HasFault bytes f
IsRefusalOfFile HasFault bytes (Memory e) = Unit {0}

-- the refusal of an expression that stands at a type, as a truth or as a number
abbrev pub IsRefusalOfExpr : Model → Data → ℕ → Bool → Refusal → Type 0
IsRefusalOfExpr m d of truth (Fault f) = IsFirst (HasOwnFault m d of truth) IsFaultBefore f
IsRefusalOfExpr m d of truth (Memory e) = Unit {0}
