-- Open branches of a search, what each covers, and its size.
use Rattle.std.specs.Prelude.{ℕ, ◌-◌, IsTrue, Option, None, Some, IfSome, List}
use Rattle.prod_model.specs.declared.model.Model.{Model}
use Rattle.config_value.specs.declared.configuration.Instance.{Instance}
use Rattle.config_value.specs.declared.literal.Literal.{Literal}
use Rattle.config_value.specs.Literals.{has_literal}
use Rattle.state_space.specs.State.{State}
use Rattle.state_space.specs.Covers.{Covers}
use Rattle.state_space.specs.Size.{size_of}

-- an open branch: a state, and the literal by which it is still to be narrowed, if any
pub record Open : Type 0 where
  pub state : State
  pub literal : Option Literal

-- The branch covers a configuration: its state does, and the literal holds there.
pub record CoversOpen (m : Model) (b : Open) (c : List Instance) : Type 0 where
  pub covered : Covers m b.state c
  pub holds : IfSome b.literal (λ l. IsTrue (has_literal m c l))

-- The size of a branch: that of its state, less one where it is still to be narrowed.
abbrev pub open_size : Model → Open → ℕ
open_size m b = elim b.literal [ None ↦ size_of m b.state | Some l ↦ size_of m b.state - 1 ]
