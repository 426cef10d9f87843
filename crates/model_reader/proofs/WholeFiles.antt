-- A refusal of the bytes or of the value of a file is one of the file.
use Rattle.std.specs.Prelude.{ℕ, List}
use Rattle.serde_json.specs.Data.{Data}
use Rattle.file_values.specs.declared.fault.Fault.{Fault as AFault}
use Rattle.file_meaning.specs.declared.refusal.Refusal.{Refusal}
use Rattle.file_meaning.specs.declared.refusal.Refusal.TheVariants.{Fault, Memory}
use Rattle.file_meaning.specs.Faults as faults
use Rattle.file_meaning.specs.Faults.{IsFaultOfFile}
use Rattle.file_meaning.specs.Refused.{IsRefusalOfFile}
use Rattle.model_reader.specs.Files.{IsValueOfFile, IsFaultOfBytes, IsRefusalOfBytes}
use Rattle.model_reader.specs.Files as files
use Rattle.model_reader.specs.Passes.{IsRefusalBy}

of_bytes : (Has : Data → AFault → Type 0) (bytes : List ℕ) (f : AFault) → IsFaultOfBytes bytes f → IsFaultOfFile Has bytes f
of_bytes Has bytes f (files.too_long is long) = faults.too_long is long
of_bytes Has bytes f (files.no_value is short none) = faults.no_value is short none

pub refused_bytes : (Has : Data → AFault → Type 0) (bytes : List ℕ) (e : Refusal) → IsRefusalOfBytes bytes e → IsRefusalOfFile Has bytes e
refused_bytes Has bytes (Fault f) r = of_bytes Has bytes f r
refused_bytes Has bytes (Memory e) r = r

pub refused_value : (Has : Data → AFault → Type 0) (bytes : List ℕ) (d : Data) (e : Refusal) → IsValueOfFile bytes d → IsRefusalBy (Has d) e → IsRefusalOfFile Has bytes e
refused_value Has bytes d (Fault f) file r = faults.of_value d file.short file.read r
refused_value Has bytes d (Memory e) file r = r
