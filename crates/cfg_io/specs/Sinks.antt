-- What a sink's answers mean.
use Rattle.std.specs.Prelude.{◌≡◌, ℕ, List, ◌++◌}
use Rattle.std.specs.declared.option.Option.{Option}
use Rattle.std.specs.Option.{option_map}

-- what is told, with these bytes behind it
abbrev pub extended : Option (List ℕ) → List ℕ → Option (List ℕ)
extended told bytes = option_map (λ written. written ++ bytes) told

-- the whole piece was added to what is told
abbrev pub TellsWhole : Option (List ℕ) → List ℕ → Option (List ℕ) → Type 0
TellsWhole old piece new = new ≡ extended old piece

-- a part of the piece, from its front on, was added to what is told
pub record TellsFront
    (old : Option (List ℕ)) (piece : List ℕ) (new : Option (List ℕ)) : Type 0 where
  pub front : List ℕ
  pub rest : List ℕ
  pub parts : piece ≡ front ++ rest
  pub told : new ≡ extended old front
