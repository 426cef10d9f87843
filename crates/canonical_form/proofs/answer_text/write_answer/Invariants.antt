use Rattle.std.proofs.Common.{◌≡◌, ◌++◌, take, codes}
use Rattle.std.specs.List.{flat_map, enumerate_from}
use Rattle.canonical_form.specs.AnswerText.{line_end, instance_text}
use Rattle.canonical_form.proofs.answer_text.write_answer.Given as goal

-- the first line, and a line for each instance so far
abbrev pub invariant-loop-i : goal.invariant-loop-i
invariant-loop-i l = l.out.items ≡ codes "preferred" ++ line_end ++ flat_map (instance_text l.problem) (take l.i (enumerate_from 0 l.c))
