-- The places so far, and those of the rest, are all places.
use Rattle.std.proofs.Common.{◌≡◌, ◌++◌, drop}
use Rattle.quickxplain.specs.Testers.{places_kept}
use Rattle.quickxplain.proofs.explaining.places.Given as goal

abbrev pub invariant-loop-i : goal.invariant-loop-i
invariant-loop-i l = l.places.items ++ places_kept l.i (drop l.i l.keep) ≡ places_kept 0 l.keep
