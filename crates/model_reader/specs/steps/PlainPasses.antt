-- The places of the faults 3 to 7 of a value, by their codes.
use Rattle.std.specs.Prelude.{List}
use Rattle.serde_json.specs.Data.{Data}
use Rattle.file_values.specs.declared.format.Format.{Format}
use Rattle.file_values.specs.declared.kind.Kind.{Kind}
use Rattle.file_values.specs.declared.part.Part.{Part}
use Rattle.file_values.specs.declared.fault.FaultCode.{FaultCode}
use Rattle.file_values.specs.declared.fault.FaultCode.TheVariants.{OtherKind, WrongLength, WrongForm, Twice, PastLimit}
use Rattle.file_values.specs.Inside.{FailsAt}
use Rattle.file_values.specs.Kinds.{is_right}
use Rattle.file_values.specs.Tests.{is_short, is_formed, is_in_limits}
use Rattle.file_values.specs.Twice.{IsTwice}

-- a fault of this code is at this place
abbrev pub IsPlainAt : Format → Kind → Data → FaultCode → List Part → Type 0
IsPlainAt format k d OtherKind = FailsAt format (is_right format) k d
IsPlainAt format k d WrongLength = FailsAt format is_short k d
IsPlainAt format k d WrongForm = FailsAt format is_formed k d
IsPlainAt format k d Twice = IsTwice format k d
IsPlainAt format k d PastLimit = FailsAt format is_in_limits k d
IsPlainAt format k d _ = λ place. ⊥
