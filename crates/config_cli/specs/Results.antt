-- What words and files result in: a status and a text.
use Rattle.std.specs.Prelude.{◌≡◌, ℕ, Bool, List, Some, codes}
use Rattle.prod_model.specs.declared.model.Model.{Model}
use Rattle.prod_model.specs.declared.model.Order.{Order}
use Rattle.config_value.specs.declared.configuration.Instance.{Instance}
use Rattle.config_value.specs.Satisfies.{all_kept}
use Rattle.config_value.specs.Preferred.{IsPreferred}
use Rattle.config_value.specs.Conflict.{IsPreferredConflict}
use Rattle.file_values.specs.declared.fault.Fault.{Fault}
use Rattle.file_meaning.specs.Faults.{HasModelFault, HasOrderFault, IsFaultOfFile}
use Rattle.canonical_form.specs.AnswerText.{answer_text}
use Rattle.canonical_form.specs.ConflictText.{conflict_text}
use Rattle.quickxplain.specs.Testers.{places_kept}
use Rattle.cfg_io.specs.Shelves.{file}
use Rattle.config_cli.specs.Checked.{IsChecked}
use Rattle.config_cli.specs.Commands.{Configure, Check, Asks, AsksNothing}
use Rattle.config_cli.specs.Files.{IsModelFile, IsOrderFile}
use Rattle.config_cli.specs.Texts.{usage_text, refused_text}
use Rattle.config_cli.specs.declared.status.Status.{Status}
use Rattle.config_cli.specs.declared.status.Status.TheVariants.{Preferred, Conflict, Usage, Refused}

-- the configuration that is preferred for all requests; or, where there is none, the preferred
-- conflict
pub data IsPreferredOutcome (m : Model) (o : Order) (status : Status) (text : List ℕ) : Type 0 where
  preferred : (c : List Instance) → IsPreferred m o (all_kept o) c
      → status ≡ Preferred → text ≡ answer_text m c → IsPreferredOutcome m o status text
  conflict : (keep : List Bool) → IsPreferredConflict m o keep
      → status ≡ Conflict → text ≡ conflict_text o (places_kept 0 keep)
      → IsPreferredOutcome m o status text

-- What the bytes of a model and an order result in: the first fault of the model; else that of the
-- order; else the preferred outcome.
pub data IsConfigured (model order : List ℕ) (status : Status) (text : List ℕ) : Type 0 where
  refused_model : (f : Fault) → IsFaultOfFile HasModelFault model f
      → status ≡ Refused → text ≡ refused_text (codes "model") f.code f.place
      → IsConfigured model order status text
  refused_order : (m : Model) → IsModelFile model m
      → (f : Fault) → IsFaultOfFile (HasOrderFault m) order f
      → status ≡ Refused → text ≡ refused_text (codes "order") f.code f.place
      → IsConfigured model order status text
  preferred_outcome : (m : Model) → IsModelFile model m → (o : Order) → IsOrderFile m order o
      → IsPreferredOutcome m o status text → IsConfigured model order status text

-- What words and named files result in. Nothing where a file that they ask for isn't there.
pub data IsResult (words : List (List ℕ)) (files : List (List ℕ × List ℕ))
    (status : Status) (text : List ℕ) : Type 0 where
  refused_words : AsksNothing words → status ≡ Usage → text ≡ usage_text
      → IsResult words files status text
  configured : (model order : List ℕ) → Asks words (Configure model order)
      → (model_bytes order_bytes : List ℕ)
      → file model files ≡ Some model_bytes → file order files ≡ Some order_bytes
      → IsConfigured model_bytes order_bytes status text → IsResult words files status text
  checked : (model order answer : List ℕ) → Asks words (Check model order answer)
      → (model_bytes order_bytes answer_bytes : List ℕ)
      → file model files ≡ Some model_bytes → file order files ≡ Some order_bytes
      → file answer files ≡ Some answer_bytes
      → IsChecked model_bytes order_bytes answer_bytes status text
      → IsResult words files status text
