-- Which files a command reads, and what they result in.
use Rattle.std.proofs.Common.{◌≡◌, ◌≢◌, ℕ, List, [], ◌∷◌, refl, sym, Some, inl, inr, ◌⊎◌, lit<}
use Rattle.std.specs.Prelude.{Contains}
use Rattle.cfg_io.specs.Causes.{Rose}
use Rattle.config_cli.specs.Commands.{Command, Configure, Check, Asks, files_of, IsAskedFile, AsksForNoFile}
use Rattle.config_cli.specs.Results.{IsResult, configured, checked}
use Rattle.config_cli.specs.Runs.{HasReadFault}
use Rattle.config_cli.specs.steps.Calls.{HasFaultAmong, IsOfCommand, status_of}
use Rattle.config_cli.specs.steps.Words.{command_in}
use Rattle.config_cli.specs.declared.run.fetch.Stop.{Stop}
use Rattle.config_cli.specs.declared.run.fetch.Stop.TheVariants.{Failed, Memory}
use Rattle.config_cli.specs.declared.status.Status.{Status}
use Rattle.config_cli.specs.declared.status.Status.TheVariants.{ReadFailed}
use Rattle.config_cli.proofs.WordLaws.{asks_for}

-- ---- the files

-- a file of the command is asked for
pub is_asked : (words : List (List ℕ)) (c : Command) (name : List ℕ) → command_in words ≡ Some c → Contains (files_of c) name → IsAskedFile words name
is_asked words c name e among = record { command = c; asked = asks_for words c e; named = among }

-- a name that isn't asked for is none of them
pub not_among : (words : List (List ℕ)) (c : Command) (name : List ℕ) → command_in words ≡ Some c → ¬ IsAskedFile words name → ¬ Contains (files_of c) name
not_among words c name e other among = other (is_asked words c name e among)

-- every command reads a file
first_file : (c : Command) → (name : List ℕ) × Contains (files_of c) name
first_file (Configure m o) = (m, (0, lit< tt, refl))
first_file (Check m o a) = (m, (0, lit< tt, refl))

pub asks_for_files : (words : List (List ℕ)) (c : Command) → command_in words ≡ Some c → AsksForNoFile words → ⊥
asks_for_files words c e no_file = let first = first_file c in no_file first.0 (is_asked words c first.0 e first.1)

-- a fault of one of them is a fault of a file that is asked for
pub read_fault : (words : List (List ℕ)) (before now : List ℕ → ℕ) (c : Command) → command_in words ≡ Some c
    → HasFaultAmong (files_of c) before now → HasReadFault words before now
read_fault words before now c e fault = record { name = fault.name; asked = is_asked words c fault.name e fault.among; rose = fault.rose }

-- a run stops with that status only where a read failed
pub failed_status : (stop : Stop) → status_of stop ≡ ReadFailed → stop ≡ Failed
failed_status Failed e = refl
failed_status Memory e = absurd cc

-- the count of one of two or three names rose
pub fault_of_two : (m o : List ℕ) (before now : List ℕ → ℕ) → Rose (before m) (now m) ⊎ Rose (before o) (now o) → HasFaultAmong (m ∷ o ∷ []) before now
fault_of_two m o before now (inl rose) = record { name = m; among = (0, lit< tt, refl); rose = rose }
fault_of_two m o before now (inr rose) = record { name = o; among = (1, lit< tt, refl); rose = rose }

pub fault_of_three : (m o a : List ℕ) (before now : List ℕ → ℕ)
    → Rose (before m) (now m) ⊎ (Rose (before o) (now o) ⊎ Rose (before a) (now a)) → HasFaultAmong (m ∷ o ∷ a ∷ []) before now
fault_of_three m o a before now (inl rose) = record { name = m; among = (0, lit< tt, refl); rose = rose }
fault_of_three m o a before now (inr (inl rose)) = record { name = o; among = (1, lit< tt, refl); rose = rose }
fault_of_three m o a before now (inr (inr rose)) = record { name = a; among = (2, lit< tt, refl); rose = rose }

-- a name that is none of two or three
pub none_of_two : (m o n : List ℕ) → ¬ Contains (m ∷ o ∷ []) n → (n ≢ m) × (n ≢ o)
none_of_two m o n other = (λ is. other (0, lit< tt, sym is), λ is. other (1, lit< tt, sym is))

pub none_of_three : (m o a n : List ℕ) → ¬ Contains (m ∷ o ∷ a ∷ []) n → (n ≢ m) × (n ≢ o) × (n ≢ a)
none_of_three m o a n other = (λ is. other (0, lit< tt, sym is), λ is. other (1, lit< tt, sym is), λ is. other (2, lit< tt, sym is))

-- ---- the result

-- what the command's files result in is what the words and files result in
pub result_of : (words : List (List ℕ)) (files : List (List ℕ × List ℕ)) (c : Command) → Asks words c → (status : Status) (text : List ℕ)
    → IsOfCommand files c status text → IsResult words files status text
result_of words files (Configure m o) asked status text is =
    configured m o asked is.model_bytes is.order_bytes is.model_there is.order_there is.configured
result_of words files (Check m o a) asked status text is =
    checked m o a asked is.model_bytes is.order_bytes is.answer_bytes is.model_there is.order_there is.answer_there is.checked
