-- How the command and the names of its files are found among the words.
use Rattle.std.specs.Prelude.{Bool, ◌&&◌, List, ◌∷◌, [], ℕ, codes, Some, None, if◌then◌else◌}
use Rattle.std.specs.declared.option.Option.{Option}
use Rattle.std.specs.Fmt.{decimal}
use Rattle.std.specs.List.{list_any, range_with_len}
use Rattle.prod_model.specs.Names.{same_text}
use Rattle.config_cli.specs.Commands.{Command, Configure, Check, most_workers}
use Rattle.config_cli.specs.declared.commands.Command.{Command as Named}
use Rattle.config_cli.specs.declared.commands.Command.TheVariants as named

-- the command, with the names' bytes
abbrev pub shown : Named → Command
shown (named.Configure model order) = Configure model.now order.now
shown (named.Check model order answer) = Check model.now order.now answer.now

-- the word is one of the numbers of workers
abbrev pub is_workers : List ℕ → Bool
is_workers word = list_any (λ n. same_text (decimal n) word) (range_with_len 1 most_workers)

-- the command, where the words are one of the accepted forms
abbrev pub command_in : List (List ℕ) → Option Command
command_in (command ∷ model ∷ order ∷ []) =
    if same_text command (codes "configure") then Some (Configure model order) else None
command_in (command ∷ model ∷ order ∷ answer ∷ []) =
    if same_text command (codes "check") then Some (Check model order answer) else None
command_in (command ∷ model ∷ order ∷ option ∷ workers ∷ []) =
    if same_text command (codes "configure") && same_text option (codes "--workers")
    && is_workers workers
    then Some (Configure model order) else None
command_in _ = None
