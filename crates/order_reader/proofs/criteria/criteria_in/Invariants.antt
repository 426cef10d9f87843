use Rattle.std.proofs.Common.{map, take}
use Rattle.std.specs.List.{enumerate_from}
use Rattle.serde_json.specs.View.{view}
use Rattle.file_meaning.specs.ModelOf.{criterion_in}
use Rattle.model_reader.specs.Stated.{AreRead}
use Rattle.order_reader.specs.Wishes.{stated_criterion}
use Rattle.order_reader.proofs.criteria.criteria_in.Given as goal

-- the criteria so far are read
abbrev pub invariant-loop-i : goal.invariant-loop-i
invariant-loop-i l =
    AreRead l.model (map (stated_criterion l.model) (enumerate_from 0 (map view (take l.i l.list))))
    (map (criterion_in l.model) (map view (take l.i l.list))) l.first l.criteria
