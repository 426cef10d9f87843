use Rattle.std.proofs.Common.{◌≡◌, take}
use Rattle.file_meaning.specs.Faults.{path_place}
use Rattle.file_meaning.proofs.judge.path_place.Given as goal

-- the steps before this one
abbrev pub invariant-loop-step : goal.invariant-loop-step
invariant-loop-step l = l.place ≡ path_place (take l.step-index l.path)
