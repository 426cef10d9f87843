-- What the steps of a check say.
use Rattle.std.specs.Prelude.{◌≡◌, ℕ, ◌<◌, IsTrue, List, Some, None}
use Rattle.std.specs.declared.option.Option.{Option}
use Rattle.base_laws.specs.Places.{IsAt}
use Rattle.prod_model.specs.declared.model.Model.{Model}
use Rattle.prod_model.specs.declared.model.Order.{Order}
use Rattle.prod_model.specs.declared.model.Request.{Request}
use Rattle.prod_model.specs.First.{IsFirst}
use Rattle.config_value.specs.declared.configuration.Instance.{Instance}
use Rattle.config_value.specs.Satisfies.{meets}
use Rattle.canonical_form.specs.declared.fault.AnswerRefusal.{AnswerRefusal}
use Rattle.canonical_form.specs.declared.fault.AnswerRefusal.TheVariants.{Line, Memory}
use Rattle.config_cli.specs.Checked.{IsAnswerRefusal, IsUnmet, IsVerdict}
use Rattle.config_cli.specs.CheckTexts.{refused_answer_text}
use Rattle.config_cli.specs.Files.{IsAnswerFile}
use Rattle.config_cli.specs.declared.status.Status.{Status}
use Rattle.config_cli.specs.declared.status.Status.TheVariants.{Refused}

-- the first request that isn't met; or there is none, and each is met
abbrev pub FindsUnmet : Model → Order → List Instance → Option ℕ → Type 0
FindsUnmet m o c (Some k) = IsFirst (IsUnmet m o c) (λ j i. j < i) k
FindsUnmet m o c None = (k : ℕ) (r : Request) → IsAt o.requests k r → IsTrue (meets m c r)

-- the status and the line for an answer that isn't read
abbrev pub RefusesAnswer : AnswerRefusal → Status → List ℕ → Type 0
RefusesAnswer (Line fault) status text =
    (status ≡ Refused) × (text ≡ refused_answer_text fault.line fault.code)
RefusesAnswer (Memory e) status text = ⊥

-- what the bytes of an answer result in, for a model and an order
pub data IsAnswerOutcome (m : Model) (o : Order) (bytes : List ℕ) (status : Status)
    (text : List ℕ) : Type 0 where
  refused : IsAnswerRefusal m bytes text → status ≡ Refused
      → IsAnswerOutcome m o bytes status text
  told : (c : List Instance) → IsAnswerFile m bytes c → IsVerdict m o c status text
      → IsAnswerOutcome m o bytes status text
