-- What a failure teaches.
use Rattle.std.specs.Prelude.{◌≡◌, ◌≢◌, ◌≤◌, ℕ, false, IsTrue, IsFalse, length}
use Rattle.base_laws.specs.Places.{IsAt}
use Rattle.config_value.specs.declared.literal.Literal.{Literal}
use Rattle.literal_book.specs.declared.nogood.Nogood.{Nogood}
use Rattle.literal_book.specs.Nogoods.{IsSound}
use Rattle.state_space.specs.Entails.{entails}
use Rattle.state_space.specs.Root.{root}
use Rattle.state_space.specs.Described.{entails_all}
use Rattle.reason_trail.specs.declared.reason.Reason.{Reason}
use Rattle.reason_trail.specs.Trails.{Trace}
use Rattle.reason_trail.specs.Assumptions.{assumed, some_names_cut}
use Rattle.conflict_learn.specs.declared.learning.Learned.{Learned}
use Rattle.conflict_learn.specs.declared.learning.Learned.TheVariants.{Nogood as Taught, RestsOnCut}
use Rattle.conflict_learn.specs.Implied.{implies}

-- a list of more literals is not searched for those that others imply
abbrev pub most_compared : ℕ
most_compared = 64

-- The nogood that a failure of a trail teaches, by a reason that does not name the cut.
pub record IsTaught (t : Trace) (r : Reason) (n : Nogood) : Type 0 where
  pub no_cut : IsFalse r.cut
  pub sound : IsSound t.job.model t.job.order n
  pub entailed : entails_all t.job.model t.state n.literals
  -- it is no longer than the reason, nor than what was assumed where that makes one, too
  pub no_longer : length n.literals ≤ length r.literals
  pub no_longer_than_assumed : some_names_cut t ≡ false
      → entails_all t.job.model t.state (assumed t)
      → length n.literals ≤ length (assumed t)
  -- no literal holds in every configuration that satisfies the model, as the root state tells
  pub tells : (k : ℕ) (l : Literal) → IsAt n.literals k l
      → entails t.job.model (root t.job.model) l ≡ false
  -- and none implies another, where there are not too many
  pub apart : length n.literals ≤ most_compared → (j k : ℕ) (a b : Literal)
      → IsAt n.literals j a → IsAt n.literals k b → j ≢ k → implies t.job.model a b ≡ false

-- What a failure teaches: a nogood, or, exactly where its reason names the cut, that it rests on
-- that.
abbrev pub IsLearned : Trace → Reason → Learned → Type 0
IsLearned t r (Taught n) = IsTaught t r n
IsLearned t r RestsOnCut = IsTrue r.cut
