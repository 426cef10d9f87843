-- The faults of inverses as faults of a model file.
use Rattle.std.specs.Prelude.{◌≡◌, ◌∷◌, ◌++◌, []}
use Rattle.type_taxonomy.specs.declared.inverse_fault.InverseFault.{InverseFault}
use Rattle.type_taxonomy.specs.declared.inverse_fault.InverseFault.TheVariants.{Bad}
use Rattle.file_values.specs.declared.part.Part.TheVariants.{At as at}
use Rattle.file_values.specs.declared.kind.Key.TheVariants as key
use Rattle.file_values.specs.declared.fault.FaultCode.TheVariants.{WrongInverse}
use Rattle.file_values.specs.Places.{under}
use Rattle.file_meaning.specs.declared.refusal.Refusal.{Refusal}
use Rattle.file_meaning.specs.declared.refusal.Refusal.TheVariants.{Fault, Memory}
use Rattle.file_meaning.specs.Faults.{fault, type_place}

-- the refusal of a file for this inverse; want of memory says nothing
abbrev pub IsRefusalOfInverse : InverseFault → Refusal → Type 0
IsRefusalOfInverse (Bad t k) (Fault f) =
    f ≡ fault WrongInverse (type_place t ++ under key.Ports ∷ at k ∷ under key.Inverse ∷ [])
IsRefusalOfInverse (Bad t k) (Memory e) = Unit {0}
