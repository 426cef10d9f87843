-- When what is seen in a state fits what is there in a configuration.
use Rattle.std.specs.Prelude.{ℤ, ◌≤ℤ◌, Bool, IsTrue, IsFalse, List, Contains}
use Rattle.config_value.specs.declared.literal.Literal.{Literal}
use Rattle.config_value.specs.declared.found.Found.{Found}
use Rattle.config_value.specs.Value as value
use Rattle.state_values.specs.Kleene.{Kleene, True, False, Open}
use Rattle.state_values.specs.Ranges.{End, Range}
use Rattle.state_values.specs.Seen.{Seen, as_range, as_kleene}

-- for whichever literals hold
module _ (Holds : Literal → Type 0) where
  -- each of the literals holds
  abbrev pub HoldAll : List Literal → Type 0
  HoldAll ls = (l : Literal) → Contains ls l → Holds l

  -- where its literals hold, the number is this or more
  abbrev pub FitsLow : End → ℤ → Type 0
  FitsLow a n = HoldAll a.by → a.number ≤ℤ n

  -- where its literals hold, the number is this or less
  abbrev pub FitsHigh : End → ℤ → Type 0
  FitsHigh a n = HoldAll a.by → n ≤ℤ a.number

  -- the number fits both ends
  abbrev pub FitsRange : Range → ℤ → Type 0
  FitsRange r n = FitsLow r.low n × FitsHigh r.high n

  -- where its literals hold, the truth is so
  abbrev pub FitsTruth : Kleene → Bool → Type 0
  FitsTruth (True by) b = HoldAll by → IsTrue b
  FitsTruth (False by) b = HoldAll by → IsFalse b
  FitsTruth Open b = Unit {0}

  -- the number, or the truth, fits
  abbrev pub Fits : Seen → Found → Type 0
  Fits s v = FitsRange (as_range s) (value.as_number v) × FitsTruth (as_kleene s) (value.as_truth v)
