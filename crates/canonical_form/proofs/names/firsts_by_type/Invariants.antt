use Rattle.std.proofs.Common.{◌≡◌, length}
use Rattle.canonical_form.specs.steps.FirstRows.{AreFirstsFrom}
use Rattle.canonical_form.proofs.names.firsts_by_type.Given as goal

-- there is a row for each type so far
abbrev pub invariant-loop-t : goal.invariant-loop-t
invariant-loop-t l = record {
  rows : AreFirstsFrom l.model 0 l.rows.items;
  long : length l.rows.items ≡ l.t;
}
