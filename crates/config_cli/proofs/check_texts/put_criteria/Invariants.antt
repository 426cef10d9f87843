use Rattle.std.proofs.Common.{◌≡◌, ◌++◌, take}
use Rattle.std.specs.List.{flat_map, zip}
use Rattle.config_cli.specs.CheckTexts.{criterion_text}
use Rattle.config_cli.proofs.check_texts.put_criteria.Given as goal

-- the criteria so far are written
abbrev pub invariant-loop-k : goal.invariant-loop-k
invariant-loop-k l = l.out.items ≡ l.initial.out.items ++ flat_map criterion_text (take l.k (zip l.criteria l.values))
