-- The faults of a taxonomy as faults of a model file.
use Rattle.std.specs.Prelude.{◌≡◌, ◌∷◌, ◌++◌, [], Option, Some, None}
use Rattle.type_taxonomy.specs.declared.fault.TaxFault.{TaxFault}
use Rattle.type_taxonomy.specs.declared.fault.TaxFault.TheVariants as tax
use Rattle.file_values.specs.declared.part.Part.TheVariants.{At as at}
use Rattle.file_values.specs.declared.fault.Fault.{Fault as AFault}
use Rattle.file_values.specs.declared.fault.FaultCode.TheVariants.{Cycle, Widening, Crowded}
use Rattle.file_values.specs.Places.{under}
use Rattle.file_meaning.specs.declared.refusal.Refusal.{Refusal}
use Rattle.file_meaning.specs.declared.refusal.Refusal.TheVariants.{Fault, Memory}
use Rattle.file_meaning.specs.Faults.{fault, type_place, declared_under}

-- the fault of the file, and none for an unknown parent, which an earlier code tells
abbrev pub fault_of : TaxFault → Option AFault
fault_of (tax.UnknownParent t) = None
fault_of (tax.Cycle t) = Some (fault Cycle (type_place t))
fault_of (tax.Widening t port k) =
    Some (fault Widening (type_place t ++ under (declared_under port) ∷ at k ∷ []))
fault_of (tax.Crowded t) = Some (fault Crowded (type_place t))
fault_of tax.Memory = None

-- the refusal of a file for this fault of its types; want of memory says nothing
abbrev pub IsRefusalOfTypes : TaxFault → Refusal → Type 0
IsRefusalOfTypes t (Fault f) = fault_of t ≡ Some f
IsRefusalOfTypes t (Memory e) = Unit {0}
