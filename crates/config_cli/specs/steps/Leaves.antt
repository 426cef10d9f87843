-- What a run leaves, by its status.
use Rattle.std.specs.Prelude.{◌≡◌, ℕ, List, ◌⊎◌}
use Rattle.std.specs.declared.option.Option.{Option}
use Rattle.cfg_io.specs.Sinks.{TellsWhole, TellsFront}
use Rattle.config_cli.specs.declared.status.Status.{Status}
use Rattle.config_cli.specs.declared.status.Status.TheVariants.{ReadFailed, WriteFailed, OutOfMemory}

-- The sink has just the text of the result more than before, and the status is its status. Or the
-- write failed, and the sink has a part of that text more, from its front on. Or a read failed, or
-- memory ran out, and nothing was written.
pub data LeavesAs (IsTheResult : Status → List ℕ → Type 0) (old new : Option (List ℕ))
    (status : Status) : Type 0 where
  whole : (text : List ℕ) → IsTheResult status text → TellsWhole old text new
      → LeavesAs IsTheResult old new status
  part : (of_status : Status) (text : List ℕ) → IsTheResult of_status text
      → status ≡ WriteFailed → TellsFront old text new → LeavesAs IsTheResult old new status
  nothing : (status ≡ ReadFailed) ⊎ (status ≡ OutOfMemory) → new ≡ old
      → LeavesAs IsTheResult old new status
