-- The first line at which bytes leave the spelling of an answer, and the code of the part.
use Rattle.std.specs.Prelude.{◌≡◌, ℕ, ◌+◌, Bool, true, not, IsTrue, List, [], ◌∷◌, ◌++◌, length}
use Rattle.prod_model.specs.declared.model.Model.{Model}
use Rattle.prod_model.specs.Limits.{most_instances}
use Rattle.config_value.specs.declared.configuration.Instance.{Instance}
use Rattle.config_value.specs.Spelled.{is_spelled}
use Rattle.canonical_form.specs.declared.fault.PartCode.{PartCode}
use Rattle.canonical_form.specs.declared.fault.PartCode.TheVariants.{Number}
use Rattle.canonical_form.specs.declared.fault.AnswerRefusal.{AnswerRefusal}
use Rattle.canonical_form.specs.declared.fault.AnswerRefusal.TheVariants.{Line, Memory}
use Rattle.canonical_form.specs.AnswerText.{answer_text}
use Rattle.canonical_form.specs.AnswerParts.{Part, End, belongs, parts_of}

-- what stands behind a part does not belong to it
abbrev pub ends_there : End → List ℕ → Bool
ends_there end [] = true
ends_there end (b ∷ bs) = not (belongs end b)

-- the bytes begin with these parts, each reaching as far as its bytes go
abbrev pub BeginsWith : List Part → List ℕ → Type 0
BeginsWith [] bytes = Unit {0}
BeginsWith (p ∷ ps) bytes =
    (behind : List ℕ) × (bytes ≡ p.text ++ behind) × IsTrue (ends_there p.end behind)
    × BeginsWith ps behind

-- the bytes are the answer text of this configuration
abbrev pub IsAnswerOf : Model → List ℕ → List Instance → Type 0
IsAnswerOf m bytes c = IsTrue (is_spelled m c) × (bytes ≡ answer_text m c)

-- Behind the parts that were read, an answer of c has a part of this line and code. Behind the most
-- instances that there can be no line stands, and its number is what is wrong.
pub data IsNext (m : Model) (c : List Instance) (read : List Part) (line : ℕ) (code : PartCode)
    : Type 0 where
  inside : (p : Part) (later : List Part) → parts_of m c ≡ read ++ p ∷ later
      → p.line ≡ line → p.code ≡ code → IsNext m c read line code
  past_last : parts_of m c ≡ read → length c ≡ most_instances → line ≡ most_instances + 2
      → code ≡ Number → IsNext m c read line code

-- The bytes are no answer. They begin with some parts of one, and no answer that has these has a
-- further part with which they go on.
pub record IsFirstBadLine (m : Model) (bytes : List ℕ) (line : ℕ) (code : PartCode) : Type 0 where
  pub no_answer : (c : List Instance) → ¬ IsAnswerOf m bytes c
  pub read : List Part
  pub begins : BeginsWith read bytes
  pub goes_no_further : (d : List Instance) (p : Part) (later : List Part) → IsTrue (is_spelled m d)
      → parts_of m d ≡ read ++ p ∷ later → ¬ BeginsWith (read ++ p ∷ []) bytes
  pub c : List Instance
  pub spelled : IsTrue (is_spelled m c)
  pub next : IsNext m c read line code

-- a refusal names the first bad line and its code; want of memory tells nothing
abbrev pub IsRefusal : Model → List ℕ → AnswerRefusal → Type 0
IsRefusal m bytes (Line fault) = IsFirstBadLine m bytes fault.line fault.code
IsRefusal m bytes (Memory e) = Unit {0}
