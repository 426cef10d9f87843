-- What the bytes of a model, an order and an answer result in, where the answer is checked.
use Rattle.std.specs.Prelude.{◌≡◌, ℕ, ◌<◌, ◌≤◌, IsTrue, IsFalse, List, length, codes}
use Rattle.base_laws.specs.Places.{IsAt}
use Rattle.prod_model.specs.declared.model.Model.{Model}
use Rattle.prod_model.specs.declared.model.Order.{Order}
use Rattle.prod_model.specs.declared.model.Request.{Request}
use Rattle.prod_model.specs.First.{IsFirst}
use Rattle.prod_model.specs.Limits.{most_answer_bytes}
use Rattle.config_value.specs.declared.configuration.Instance.{Instance}
use Rattle.config_value.specs.Satisfies.{satisfies, meets, all_kept, IsCandidate}
use Rattle.file_values.specs.declared.fault.Fault.{Fault}
use Rattle.file_meaning.specs.Faults.{HasModelFault, HasOrderFault, IsFaultOfFile}
use Rattle.canonical_form.specs.declared.fault.PartCode.{PartCode}
use Rattle.canonical_form.specs.BadLine.{IsFirstBadLine}
use Rattle.answer_check.specs.Breaks.{Break, IsFirstBreak}
use Rattle.config_cli.specs.Files.{IsModelFile, IsOrderFile, IsAnswerFile}
use Rattle.config_cli.specs.Texts.{refused_text}
use Rattle.config_cli.specs.CheckTexts.{long_answer_text, refused_answer_text, satisfied_text, broken_text, item_name, unmet_text}
use Rattle.config_cli.specs.declared.status.Status.{Status}
use Rattle.config_cli.specs.declared.status.Status.TheVariants.{Satisfied, Broken, Refused}

-- How an answer file is refused: it has too many bytes, or else by its first bad line.
pub data IsAnswerRefusal (m : Model) (bytes : List ℕ) (text : List ℕ) : Type 0 where
  too_long : most_answer_bytes < length bytes → text ≡ long_answer_text
      → IsAnswerRefusal m bytes text
  bad_line : length bytes ≤ most_answer_bytes → (line : ℕ) (code : PartCode)
      → IsFirstBadLine m bytes line code → text ≡ refused_answer_text line code
      → IsAnswerRefusal m bytes text

-- the request at the place is false at instance 0
pub record IsUnmet (m : Model) (o : Order) (c : List Instance) (k : ℕ) : Type 0 where
  pub request : Request
  pub stands : IsAt o.requests k request
  pub unmet : IsFalse (meets m c request)

-- What is told of a configuration: that it satisfies the model and meets all requests; else the
-- first test of the model that it breaks; else the first request that it doesn't meet.
pub data IsVerdict (m : Model) (o : Order) (c : List Instance) (status : Status) (text : List ℕ)
    : Type 0 where
  satisfied : IsCandidate m o (all_kept o) c → status ≡ Satisfied → text ≡ satisfied_text m o c
      → IsVerdict m o c status text
  broken : (b : Break) → IsFirstBreak m c b
      → status ≡ Broken → text ≡ broken_text b.code b.instance (item_name m c b)
      → IsVerdict m o c status text
  request_false : IsTrue (satisfies m c) → (k : ℕ) → IsFirst (IsUnmet m o c) (λ j i. j < i) k
      → status ≡ Broken → text ≡ unmet_text o k → IsVerdict m o c status text

-- What the bytes of a model, an order and an answer result in: the first fault of the model; else
-- that of the order; else that of the answer; else what is told of the answer's configuration.
pub data IsChecked (model order answer : List ℕ) (status : Status) (text : List ℕ) : Type 0 where
  refused_model : (f : Fault) → IsFaultOfFile HasModelFault model f
      → status ≡ Refused → text ≡ refused_text (codes "model") f.code f.place
      → IsChecked model order answer status text
  refused_order : (m : Model) → IsModelFile model m
      → (f : Fault) → IsFaultOfFile (HasOrderFault m) order f
      → status ≡ Refused → text ≡ refused_text (codes "order") f.code f.place
      → IsChecked model order answer status text
  refused_answer : (m : Model) → IsModelFile model m → (o : Order) → IsOrderFile m order o
      → IsAnswerRefusal m answer text → status ≡ Refused → IsChecked model order answer status text
  verdict : (m : Model) → IsModelFile model m → (o : Order) → IsOrderFile m order o
      → (c : List Instance) → IsAnswerFile m answer c → IsVerdict m o c status text
      → IsChecked model order answer status text
