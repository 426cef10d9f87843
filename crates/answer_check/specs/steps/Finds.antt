-- What a search for a broken test finds: the first instance, and the first item there.
use Rattle.std.specs.Prelude.{◌≡◌, ℕ, ◌<◌, ◌≤◌, List, Some, None, Option}
use Rattle.prod_model.specs.declared.model.Model.{Model}
use Rattle.config_value.specs.declared.configuration.Instance.{Instance}
use Rattle.answer_check.specs.declared.place.Place.{Place}
use Rattle.answer_check.specs.declared.verdict.Verdict.{Verdict}
use Rattle.answer_check.specs.declared.verdict.Verdict.TheVariants.{Satisfied}
use Rattle.answer_check.specs.Codes.{turn_of}
use Rattle.answer_check.specs.Breaks.{Break, Breaks, Tells}

-- the test of this code is broken at this instance and item
abbrev pub BreaksAt : Model → List Instance → ℕ → ℕ → ℕ → Type 0
BreaksAt m c code instance item =
    Breaks m c (record { code = code; instance = instance; item = item })

-- the first number that has P, and nothing where none has it
abbrev pub FindsItem : (ℕ → Type 0) → Option ℕ → Type 0
FindsItem P None = (k : ℕ) → P k → ⊥
FindsItem P (Some k) = P k × ((j : ℕ) → j < k → P j → ⊥)

-- the place has P, and none before it does, by instance and then by item
pub record IsFirstPlace (P : ℕ → ℕ → Type 0) (place : Place) : Type 0 where
  pub here : P place.instance place.item
  pub none_lower : (i k : ℕ) → i < place.instance → P i k → ⊥
  pub none_before : (k : ℕ) → k < place.item → P place.instance k → ⊥

-- the first place that has P, and nothing where none has it
abbrev pub FindsPlace : (ℕ → ℕ → Type 0) → Option Place → Type 0
FindsPlace P None = (i k : ℕ) → P i k → ⊥
FindsPlace P (Some place) = IsFirstPlace P place

-- no test of a turn below this one is broken
abbrev pub HasNoBreakBelow : Model → List Instance → ℕ → Type 0
HasNoBreakBelow m c turn = (b : Break) → Breaks m c b → turn ≤ turn_of b.code

-- The first break, and nothing where no test of a turn below this one is broken.
abbrev pub FindsBreakBelow : Model → List Instance → ℕ → Option Verdict → Type 0
FindsBreakBelow m c turn None = HasNoBreakBelow m c turn
FindsBreakBelow m c turn (Some verdict) = (verdict ≡ Satisfied → ⊥) × Tells m c verdict
