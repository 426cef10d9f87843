-- What the files of a check result in.
use Rattle.std.proofs.Common.{ℕ, List}
use Rattle.std.specs.Prelude.{codes}
use Rattle.prod_model.specs.declared.model.Model.{Model}
use Rattle.prod_model.specs.declared.model.Order.{Order}
use Rattle.file_meaning.specs.declared.refusal.Refusal.{Refusal}
use Rattle.file_meaning.specs.declared.refusal.Refusal.TheVariants.{Fault, Memory}
use Rattle.file_meaning.specs.Faults.{HasModelFault, HasOrderFault}
use Rattle.file_meaning.specs.Refused.{IsRefusalOfFile}
use Rattle.config_cli.specs.Checked.{IsChecked, refused_model, refused_order, refused_answer, verdict}
use Rattle.config_cli.specs.Files.{IsModelFile, IsOrderFile}
use Rattle.config_cli.specs.steps.Checks.{IsAnswerOutcome, refused, told}
use Rattle.config_cli.specs.steps.Fetched.{Refuses}
use Rattle.config_cli.specs.declared.status.Status.{Status}

-- the line of a refused model is the result
pub checked_model_refused : (model order answer : List ℕ) (e : Refusal) (status : Status) (text : List ℕ) → IsRefusalOfFile HasModelFault model e
    → Refuses (codes "model") e status text → IsChecked model order answer status text
checked_model_refused model order answer (Fault f) status text fault line = refused_model f fault line.0 line.1
checked_model_refused model order answer (Memory e) status text fault line = absurd line

-- the line of a refused order is the result, where the model is accepted
pub checked_order_refused : (m : Model) (model order answer : List ℕ) (e : Refusal) (status : Status) (text : List ℕ) → IsModelFile model m
    → IsRefusalOfFile (HasOrderFault m) order e → Refuses (codes "order") e status text → IsChecked model order answer status text
checked_order_refused m model order answer (Fault f) status text accepted fault line = refused_order m accepted f fault line.0 line.1
checked_order_refused m model order answer (Memory e) status text accepted fault line = absurd line

-- what the answer results in is the result, where the model and the order are accepted
pub checked_answer : (m : Model) (o : Order) (model order answer : List ℕ) (status : Status) (text : List ℕ) → IsModelFile model m → IsOrderFile m order o
    → IsAnswerOutcome m o answer status text → IsChecked model order answer status text
checked_answer m o model order answer status text accepted taken (refused why is) = refused_answer m accepted o taken why is
checked_answer m o model order answer status text accepted taken (told c file is) = verdict m accepted o taken c file is
