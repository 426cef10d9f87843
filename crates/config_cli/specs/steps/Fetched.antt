-- What a read that stops at the limit shows of a file.
use Rattle.std.specs.Prelude.{◌≡◌, ℕ, ◌<◌, ◌≤◌, IsTrue, List, length, Some}
use Rattle.cfg_io.specs.Shelves.{file}
use Rattle.prod_model.specs.Limits.{most_answer_bytes, most_file_bytes}
use Rattle.file_values.specs.Places.{has_known_keys}
use Rattle.file_meaning.specs.declared.refusal.Refusal.{Refusal}
use Rattle.file_meaning.specs.declared.refusal.Refusal.TheVariants.{Fault, Memory}
use Rattle.config_cli.specs.Texts.{refused_text}
use Rattle.config_cli.specs.declared.outcome.Fetched.{Fetched}
use Rattle.config_cli.specs.declared.outcome.Fetched.TheVariants.{Bytes, TooLong}
use Rattle.config_cli.specs.declared.status.Status.{Status}
use Rattle.config_cli.specs.declared.status.Status.TheVariants.{Refused}

-- the bytes that were read are the file's; or it has more than the limit
abbrev pub IsFetchWithin : ℕ → List ℕ → Fetched → Type 0
IsFetchWithin limit file (Bytes v) = v.items ≡ file
IsFetchWithin limit file TooLong = limit < length file

-- this was read of a model or an order with these bytes
abbrev pub IsFetchOf : List ℕ → Fetched → Type 0
IsFetchOf = IsFetchWithin most_file_bytes

-- this was read of an answer with these bytes
abbrev pub IsAnswerFetchOf : List ℕ → Fetched → Type 0
IsAnswerFetchOf = IsFetchWithin most_answer_bytes

-- what was read is no longer than the limit
abbrev pub IsShort : ℕ → Fetched → Type 0
IsShort limit (Bytes v) = length v.items ≤ limit
IsShort limit TooLong = Unit {0}

-- what was read is of the file of that name
abbrev pub IsFetchAt : ℕ → List (List ℕ × List ℕ) → List ℕ → Fetched → Type 0
IsFetchAt limit files name fetched =
    (bytes : List ℕ) × (file name files ≡ Some bytes) × IsFetchWithin limit bytes fetched

-- it is so of each file that this may have been read of
abbrev pub ForFile : (List ℕ → Type 0) → Fetched → Type 0
ForFile P fetched = (bytes : List ℕ) → IsFetchOf bytes fetched → P bytes

-- the place of the fault, if it is one, can be written
abbrev pub HasKnownPlace : Refusal → Type 0
HasKnownPlace (Fault f) = IsTrue (has_known_keys f.place)
HasKnownPlace (Memory e) = Unit {0}

-- the status and the line for a fault
abbrev pub Refuses : List ℕ → Refusal → Status → List ℕ → Type 0
Refuses file (Fault f) status text = (status ≡ Refused) × (text ≡ refused_text file f.code f.place)
Refuses file (Memory e) status text = ⊥
