use Rattle.std.proofs.Common.{◌≡◌, ◌++◌, length, take, codes}
use Rattle.std.specs.Fmt.{decimal}
use Rattle.std.specs.List.{flat_map}
use Rattle.canonical_form.specs.AnswerText.{line_end}
use Rattle.canonical_form.specs.ConflictText.{request_text}
use Rattle.canonical_form.proofs.conflict_text.write_conflict.Given as goal

-- the first line, and a line for each request so far
abbrev pub invariant-loop-k : goal.invariant-loop-k
invariant-loop-k l =
    l.out.items ≡ codes "conflict " ++ decimal (length l.members) ++ line_end ++ flat_map (request_text l.order) (take l.k-index l.members)
