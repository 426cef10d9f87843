-- Lists of literals without those that say nothing beside the others.
use Rattle.std.specs.Prelude.{◌≡◌, ◌≢◌, ◌≤◌, ℕ, Bool, false, not, IsTrue, List, [], ◌∷◌, ◌++◌, length, if◌then◌else◌}
use Rattle.std.specs.List.{list_any, filter}
use Rattle.base_laws.specs.Places.{IsAt}
use Rattle.prod_model.specs.declared.model.Model.{Model}
use Rattle.config_value.specs.declared.configuration.Instance.{Instance}
use Rattle.config_value.specs.declared.literal.Literal.{Literal}
use Rattle.literal_book.specs.Nogoods.{has_literals}
use Rattle.state_space.specs.Entails.{entails}
use Rattle.state_space.specs.Root.{root}
use Rattle.conflict_learn.specs.Implied.{implies}

-- no literal implies one at another place
abbrev pub AreApart : Model → List Literal → Type 0
AreApart m ls =
    (j k : ℕ) (a b : Literal) → IsAt ls j a → IsAt ls k b → j ≢ k → implies m a b ≡ false

-- What is left of literals without those that others imply: no more of them, where all of those
-- hold all hold, and none implies another.
pub record IsShortened (m : Model) (literals left : List Literal) : Type 0 where
  pub no_longer : length left ≤ length literals
  pub among : (k : ℕ) (l : Literal) → IsAt left k l → (j : ℕ) × IsAt literals j l
  pub same : (c : List Instance) → IsTrue (has_literals m c left)
      → IsTrue (has_literals m c literals)
  pub apart : AreApart m left

-- One literal more: where one of the others implies it they stay; else it comes last, and those that
-- it implies go.
abbrev pub kept_with : Model → List Literal → Literal → List Literal
kept_with m kept l =
    if list_any (λ k. implies m k l) kept then kept
    else filter (λ k. not (implies m l k)) kept ++ l ∷ []

-- the root state entails it, so every configuration that satisfies the model has it
abbrev pub holds_always : Model → Literal → Bool
holds_always m l = entails m (root m) l
