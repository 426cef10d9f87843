-- What the calls inside a run say of its result.
use Rattle.std.specs.Prelude.{◌≡◌, ◌⊎◌, ℕ, List, Contains, Some}
use Rattle.cfg_io.specs.Shelves.{file}
use Rattle.cfg_io.specs.Causes.{Rose}
use Rattle.config_cli.specs.Checked.{IsChecked}
use Rattle.config_cli.specs.Commands.{Command, Configure, Check}
use Rattle.config_cli.specs.Results.{IsConfigured}
use Rattle.config_cli.specs.declared.run.fetch.Stop.{Stop}
use Rattle.config_cli.specs.declared.run.fetch.Stop.TheVariants.{Failed, Memory}
use Rattle.config_cli.specs.declared.status.Status.{Status}
use Rattle.config_cli.specs.declared.status.Status.TheVariants.{Preferred, Conflict, Satisfied, Broken, Refused, ReadFailed, OutOfMemory}

-- this status and this text
abbrev pub IsExactly : Status → List ℕ → Status → List ℕ → Type 0
IsExactly status text s t = (s ≡ status) × (t ≡ text)

-- the status of a read that stopped
abbrev pub status_of : Stop → Status
status_of Failed = ReadFailed
status_of Memory = OutOfMemory

-- the status is one of files that were read
abbrev pub IsOfOutcome : Status → Type 0
IsOfOutcome status =
    (status ≡ Preferred) ⊎ ((status ≡ Conflict) ⊎ ((status ≡ Satisfied)
    ⊎ ((status ≡ Broken) ⊎ (status ≡ Refused))))

-- what the model and the order of these names result in
pub record IsOfFiles (files : List (List ℕ × List ℕ)) (model order : List ℕ)
    (status : Status) (text : List ℕ) : Type 0 where
  pub model_bytes : List ℕ
  pub order_bytes : List ℕ
  pub model_there : file model files ≡ Some model_bytes
  pub order_there : file order files ≡ Some order_bytes
  pub configured : IsConfigured model_bytes order_bytes status text

-- what the model, the order and the answer of these names result in
pub record IsOfCheckedFiles (files : List (List ℕ × List ℕ)) (model order answer : List ℕ)
    (status : Status) (text : List ℕ) : Type 0 where
  pub model_bytes : List ℕ
  pub order_bytes : List ℕ
  pub answer_bytes : List ℕ
  pub model_there : file model files ≡ Some model_bytes
  pub order_there : file order files ≡ Some order_bytes
  pub answer_there : file answer files ≡ Some answer_bytes
  pub checked : IsChecked model_bytes order_bytes answer_bytes status text

-- what the files that a command reads result in
abbrev pub IsOfCommand : List (List ℕ × List ℕ) → Command → Status → List ℕ → Type 0
IsOfCommand files (Configure model order) = IsOfFiles files model order
IsOfCommand files (Check model order answer) = IsOfCheckedFiles files model order answer

-- the count of one of the names rose
pub record HasFaultAmong (names : List (List ℕ)) (before now : List ℕ → ℕ) : Type 0 where
  pub name : List ℕ
  pub among : Contains names name
  pub rose : Rose (before name) (now name)
