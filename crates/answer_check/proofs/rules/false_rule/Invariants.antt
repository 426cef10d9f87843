use Rattle.std.proofs.Common.{length}
use Rattle.answer_check.specs.steps.Finds.{BreaksAt}
use Rattle.answer_check.proofs.FirstRule.{IsFirstSoFar}
use Rattle.answer_check.proofs.rules.false_rule.Given as goal

-- the first place among the rules so far
abbrev pub invariant-loop-k : goal.invariant-loop-k
invariant-loop-k l = IsFirstSoFar (BreaksAt l.problem l.c 10) (length l.c) l.k l.first l.below
