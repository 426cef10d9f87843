-- The numbers of the statuses.
use Rattle.std.specs.Prelude.{ℕ}
use Rattle.config_cli.specs.declared.status.Status.{Status}
use Rattle.config_cli.specs.declared.status.Status.TheVariants.{Preferred, Conflict, Satisfied, Broken, Usage, Refused, ReadFailed, WriteFailed, OutOfMemory, NoWords}

-- the number that the system is told
abbrev pub number_of : Status → ℕ
number_of Preferred = 0
number_of Conflict = 1
number_of Satisfied = 0
number_of Broken = 1
number_of Usage = 2
number_of Refused = 3
number_of ReadFailed = 4
number_of WriteFailed = 5
number_of OutOfMemory = 6
number_of NoWords = 7
