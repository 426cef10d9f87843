-- What a run leaves, whatever it meets.
use Rattle.std.specs.Prelude.{◌≡◌, ℕ, List, ◌⊎◌, map, String, string_bytes}
use Rattle.std.specs.declared.option.Option.{Option}
use Rattle.std.specs.declared.alloc.Global.{Global}
use Rattle.cfg_io.specs.Causes.{Rose}
use Rattle.cfg_io.specs.Sinks.{TellsWhole, TellsFront}
use Rattle.config_cli.specs.Commands.{IsAskedFile}
use Rattle.config_cli.specs.Statuses.{number_of}
use Rattle.config_cli.specs.declared.status.Status.{Status}
use Rattle.config_cli.specs.declared.status.Status.TheVariants.{ReadFailed, WriteFailed, OutOfMemory}

-- the words as their bytes
abbrev pub texts : List (String Global) → List (List ℕ)
texts words = map string_bytes words

-- The sink has just the text of the result more than before, and the number is that of its status.
-- Or the write failed, and the sink has a part of that text more, from its front on. Or a read
-- failed, or memory ran out, and nothing was written.
pub data Writes (IsTheResult : Status → List ℕ → Type 0) (old new : Option (List ℕ)) (number : ℕ)
    : Type 0 where
  whole : (status : Status) (text : List ℕ) → IsTheResult status text → number ≡ number_of status
      → TellsWhole old text new → Writes IsTheResult old new number
  part : (status : Status) (text : List ℕ) → IsTheResult status text
      → number ≡ number_of WriteFailed → TellsFront old text new → Writes IsTheResult old new number
  nothing : (number ≡ number_of ReadFailed) ⊎ (number ≡ number_of OutOfMemory) → new ≡ old
      → Writes IsTheResult old new number

-- a read of a file that the words ask for has failed
pub record HasReadFault (words : List (List ℕ)) (before now : List ℕ → ℕ) : Type 0 where
  pub name : List ℕ
  pub asked : IsAskedFile words name
  pub rose : Rose (before name) (now name)
