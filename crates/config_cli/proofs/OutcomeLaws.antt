-- What files that are accepted or refused result in.
use Rattle.std.proofs.Common.{ℕ, List}
use Rattle.std.specs.Prelude.{codes}
use Rattle.prod_model.specs.declared.model.Model.{Model}
use Rattle.serde_json.specs.Data.{Data}
use Rattle.file_values.specs.declared.fault.Fault.{Fault as AFault}
use Rattle.file_meaning.specs.declared.refusal.Refusal.{Refusal}
use Rattle.file_meaning.specs.declared.refusal.Refusal.TheVariants.{Fault, Memory}
use Rattle.file_meaning.specs.Faults.{HasModelFault, HasOrderFault}
use Rattle.file_meaning.specs.Refused.{IsRefusalOfFile}
use Rattle.file_meaning.proofs.KnownKeys.{Known, known_in_file}
use Rattle.config_cli.specs.steps.Fetched.{Refuses, HasKnownPlace}
use Rattle.config_cli.specs.declared.status.Status.{Status}
use Rattle.config_cli.specs.Files.{IsModelFile}
use Rattle.config_cli.specs.Results.{IsConfigured, refused_model, refused_order}

-- the line of a refused model is the result
pub model_refused : (model order : List ℕ) (e : Refusal) (status : Status) (text : List ℕ) → IsRefusalOfFile HasModelFault model e → Refuses (codes "model") e status text → IsConfigured model order status text
model_refused model order (Fault f) status text fault line = refused_model f fault line.0 line.1
model_refused model order (Memory e) status text fault line = absurd line

-- the line of a refused order is the result, where the model is accepted
pub order_refused : (m : Model) (model order : List ℕ) (e : Refusal) (status : Status) (text : List ℕ) → IsModelFile model m
    → IsRefusalOfFile (HasOrderFault m) order e → Refuses (codes "order") e status text → IsConfigured model order status text
order_refused m model order (Fault f) status text accepted fault line = refused_order m accepted f fault line.0 line.1
order_refused m model order (Memory e) status text accepted fault line = absurd line

-- the place of a refusal has keys of the list alone
pub known_place : (HasFault : Data → AFault → Type 0) → ((d : Data) (f : AFault) → HasFault d f → Known f.place)
    → (bytes : List ℕ) (e : Refusal) → IsRefusalOfFile HasFault bytes e → HasKnownPlace e
known_place HasFault known bytes (Fault f) fault = known_in_file HasFault known bytes f fault
known_place HasFault known bytes (Memory e) fault = tt
