-- Names that stand for those of the types.
use Rattle.std.specs.Prelude.{◌≡◌, ℕ, List}
use Rattle.std.specs.List.{list_any}
use Rattle.prod_model.specs.Names.{same_text}

-- the same names are among them as among the texts
pub record HasNamesOf (texts : List (List ℕ)) (names : List (List ℕ)) : Type 0 where
  pub same : (w : List ℕ)
      → list_any (λ n. same_text n w) names ≡ list_any (λ n. same_text n w) texts
