-- The numbers of the faults of a file.
use Rattle.std.specs.Prelude.{ℕ}
use Rattle.file_values.specs.declared.fault.FaultCode.{FaultCode}
use Rattle.file_values.specs.declared.fault.FaultCode.TheVariants.{TooLong, NoJson, OtherKind, WrongLength, WrongForm, Twice, PastLimit, UnknownType, Cycle, Widening, Crowded, Misformed, Deep, UnknownName, WrongKind, Wide, WrongInverse}

-- the number that is printed behind `F`
abbrev pub number_of : FaultCode → ℕ
number_of TooLong = 1
number_of NoJson = 2
number_of OtherKind = 3
number_of WrongLength = 4
number_of WrongForm = 5
number_of Twice = 6
number_of PastLimit = 7
number_of UnknownType = 8
number_of Cycle = 9
number_of Widening = 10
number_of Crowded = 11
number_of Misformed = 12
number_of Deep = 13
number_of UnknownName = 14
number_of WrongKind = 15
number_of Wide = 16
number_of WrongInverse = 17
