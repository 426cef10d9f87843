-- The first text of a list that stands in it before.
use Rattle.std.specs.Prelude.{ℕ, ◌<◌, IsTrue, List, Option, Some, None}
use Rattle.base_laws.specs.Places.{IsAt}
use Rattle.prod_model.specs.Names.{same_text}

-- the text at this place is the same as an earlier one
pub record RepeatsAt (texts : List (List ℕ)) (j : ℕ) : Type 0 where
  pub i : ℕ
  pub earlier : List ℕ
  pub later : List ℕ
  pub first : IsAt texts i earlier
  pub again : IsAt texts j later
  pub order : i < j
  pub same : IsTrue (same_text earlier later)

-- the first such place, or nothing where there is none
abbrev pub IsFirstRepeat : List (List ℕ) → Option ℕ → Type 0
IsFirstRepeat texts None = (j : ℕ) → ¬ RepeatsAt texts j
IsFirstRepeat texts (Some j) = RepeatsAt texts j × ((n : ℕ) → n < j → ¬ RepeatsAt texts n)
