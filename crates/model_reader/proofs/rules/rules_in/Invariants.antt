use Rattle.std.proofs.Common.{map, take}
use Rattle.std.specs.List.{enumerate_from}
use Rattle.serde_json.specs.View.{view}
use Rattle.file_meaning.specs.ModelOf.{rule_in}
use Rattle.file_meaning.specs.steps.Names.{names_in}
use Rattle.model_reader.specs.Stated.{AreRead, stated_rule}
use Rattle.model_reader.proofs.rules.rules_in.Given as goal

-- the rules so far are read
abbrev pub invariant-loop-i : goal.invariant-loop-i
invariant-loop-i l =
    AreRead l.model (map (stated_rule (names_in l.types)) (enumerate_from 0 (map view (take l.i l.list))))
    (map (rule_in l.model (names_in l.types)) (map view (take l.i l.list))) l.first l.rules
