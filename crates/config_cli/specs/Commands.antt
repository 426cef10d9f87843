-- What the words of the command line ask for.
use Rattle.std.specs.Prelude.{◌≡◌, List, [], ◌∷◌, ℕ, ◌≤◌, Contains, codes}
use Rattle.std.specs.Fmt.{decimal}

-- to configure a product, by the names of the model's and the order's file; or to check an answer,
-- by the names of the model's, the order's and the answer's file
pub data Command : Type 0 where
  Configure : List ℕ → List ℕ → Command
  Check : List ℕ → List ℕ → List ℕ → Command

-- the greatest number of workers
abbrev pub most_workers : ℕ
most_workers = 64

-- the word is a number of workers in decimal digits, without a sign or a leading zero
pub record IsWorkers (word : List ℕ) : Type 0 where
  pub number : ℕ
  pub positive : 1 ≤ number
  pub few : number ≤ most_workers
  pub spelled : word ≡ decimal number

-- The words are one of the accepted forms. The number of workers changes no result.
pub data Asks (words : List (List ℕ)) : Command → Type 0 where
  configure : (model order : List ℕ) → words ≡ codes "configure" ∷ model ∷ order ∷ []
      → Asks words (Configure model order)
  configure_with : (model order workers : List ℕ)
      → words ≡ codes "configure" ∷ model ∷ order ∷ codes "--workers" ∷ workers ∷ []
      → IsWorkers workers → Asks words (Configure model order)
  check : (model order answer : List ℕ) → words ≡ codes "check" ∷ model ∷ order ∷ answer ∷ []
      → Asks words (Check model order answer)

-- they are none of the accepted forms
abbrev pub AsksNothing : List (List ℕ) → Type 0
AsksNothing words = (c : Command) → ¬ Asks words c

-- the files that a command reads, in that order
abbrev pub files_of : Command → List (List ℕ)
files_of (Configure model order) = model ∷ order ∷ []
files_of (Check model order answer) = model ∷ order ∷ answer ∷ []

-- the words ask to read the file of that name
pub record IsAskedFile (words : List (List ℕ)) (name : List ℕ) : Type 0 where
  pub command : Command
  pub asked : Asks words command
  pub named : Contains (files_of command) name

-- they ask to read no file
abbrev pub AsksForNoFile : List (List ℕ) → Type 0
AsksForNoFile words = (name : List ℕ) → ¬ IsAskedFile words name
