-- The value of a file, and the refusal of bytes that have none.
use Rattle.std.specs.Prelude.{◌≡◌, ℕ, ◌<◌, ◌≤◌, List, [], length}
use Rattle.serde_json.specs.Data.{Data}
use Rattle.prod_model.specs.Limits.{most_file_bytes}
use Rattle.file_values.specs.declared.fault.Fault.{Fault as AFault}
use Rattle.file_values.specs.declared.fault.FaultCode.TheVariants.{TooLong, NoJson}
use Rattle.file_meaning.specs.declared.refusal.Refusal.{Refusal}
use Rattle.file_meaning.specs.declared.refusal.Refusal.TheVariants.{Fault, Memory}
use Rattle.file_meaning.specs.Faults.{fault, IsValue}

-- the bytes are a file of this value
pub record IsValueOfFile (bytes : List ℕ) (d : Data) : Type 0 where
  pub short : length bytes ≤ most_file_bytes
  pub read : IsValue bytes d

-- the fault of bytes that are no file of a value
pub data IsFaultOfBytes (bytes : List ℕ) (f : AFault) : Type 0 where
  too_long : f ≡ fault TooLong [] → most_file_bytes < length bytes → IsFaultOfBytes bytes f
  no_value : f ≡ fault NoJson [] → length bytes ≤ most_file_bytes
      → ((d : Data) → ¬ IsValue bytes d) → IsFaultOfBytes bytes f

-- the refusal of such bytes; want of memory says nothing
abbrev pub IsRefusalOfBytes : List ℕ → Refusal → Type 0
IsRefusalOfBytes bytes (Fault f) = IsFaultOfBytes bytes f
IsRefusalOfBytes bytes (Memory e) = Unit {0}
