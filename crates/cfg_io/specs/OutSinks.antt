-- What a sink over a writer holds.
use Rattle.std.specs.Prelude.{ℕ}

-- the writer, and the count of faults
pub record OutState (W : Type 0) : Type 0 where
  pub out : W
  pub faults : ℕ
