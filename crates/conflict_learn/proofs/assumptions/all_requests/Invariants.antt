use Rattle.conflict_learn.specs.steps.Assuming.{AskForAll}
use Rattle.conflict_learn.proofs.assumptions.all_requests.Given as goal

abbrev pub invariant-loop-n : goal.invariant-loop-n
invariant-loop-n l = AskForAll l.trail l.why l.n l.requests
