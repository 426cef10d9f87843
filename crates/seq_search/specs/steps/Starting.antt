-- What a search begins with: a state that is narrowed by the literals of a piece, and an empty store.
use Rattle.std.specs.Prelude.{◌≡◌, ◌≤◌, Bool, true, false, IsTrue, None, List, [], length}
use Rattle.prod_model.specs.declared.model.Model.{Model}
use Rattle.config_value.specs.declared.configuration.Instance.{Instance}
use Rattle.config_value.specs.declared.literal.Literal.{Literal}
use Rattle.config_value.specs.Satisfies.{satisfies}
use Rattle.literal_book.specs.declared.nogood.Piece.{Piece}
use Rattle.literal_book.specs.Nogoods.{has_literals}
use Rattle.reason_trail.specs.Jobs.{Task}
use Rattle.state_space.specs.State.{State}
use Rattle.state_space.specs.Covers.{Covers}
use Rattle.seq_search.specs.declared.starting.Ground.{Ground}
use Rattle.seq_search.specs.steps.Opens.{IsStanding}

-- Of what satisfies the model and has the literals the new state covers what the old one did; or,
-- where nothing is left, the old one covers none.
abbrev pub IsNarrowed : Model → List Literal → State → State → Bool → Type 0
IsNarrowed m ls old new true =
    (c : List Instance) → IsTrue (satisfies m c) → IsTrue (has_literals m c ls) → Covers m old c
    → Covers m new c
IsNarrowed m ls old new false =
    (c : List Instance) → IsTrue (satisfies m c) → IsTrue (has_literals m c ls) → ¬ Covers m old c

-- The trail is of the job, and at most one branch is open on it, which accounts for all that is
-- sought. The store is of the job, and holds nothing.
pub record IsGround (j : Task) (piece : Piece) (g : Ground) : Type 0 where
  pub job : g.trail.job ≡ j
  pub standing : IsStanding j g.trail piece g.branches.items None
  pub one : length g.branches.items ≤ 1
  pub model : g.store.model ≡ j.model
  pub order : g.store.order ≡ j.order
  pub none_held : g.store.nogoods ≡ []
