-- What is left with a status is left with its number.
use Rattle.std.proofs.Common.{◌≡◌, ◌∙◌, ℕ, List, ap, inl, inr}
use Rattle.std.specs.declared.option.Option.{Option}
use Rattle.config_cli.specs.Runs as runs
use Rattle.config_cli.specs.Runs.{Writes}
use Rattle.config_cli.specs.Statuses.{number_of}
use Rattle.config_cli.specs.declared.status.Status.{Status}
use Rattle.config_cli.specs.steps.Leaves.{LeavesAs, whole, part, nothing}

pub writes_number : {P : Status → List ℕ → Type 0} (old new : Option (List ℕ)) (s : Status) (n : ℕ) → n ≡ number_of s → LeavesAs P old new s
    → Writes P old new n
writes_number old new s n number (whole text is told) = runs.whole s text is number told
writes_number old new s n number (part t text is failed told) = runs.part t text is (number ∙ ap number_of failed) told
writes_number old new s n number (nothing (inl read) same) = runs.nothing (inl (number ∙ ap number_of read)) same
writes_number old new s n number (nothing (inr memory) same) = runs.nothing (inr (number ∙ ap number_of memory)) same
