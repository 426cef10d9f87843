-- Goals of the tests.
use Rattle.std.specs.Prelude.{Bool, None, [], length, replicate}
use Rattle.prod_model.specs.declared.model.Order.{Order}
use Rattle.reason_trail.specs.declared.goal.Goal.{Goal}

-- All requests of the order are kept or none, and perhaps any configuration will do; there is
-- nothing to rank after, and nothing else has to hold.
abbrev pub goal_of : Order → Bool → Bool → Goal
goal_of o keep any = record {
  keep = replicate (length o.requests) keep;
  after = None;
  extra = [];
  any = any;
}
