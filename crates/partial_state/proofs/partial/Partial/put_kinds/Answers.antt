use Rattle.std.proofs.Common.{◌≤◌, ◌<◌, length, arith}
use Rattle.state_space.specs.State.{State}
use Rattle.state_space.specs.Made.{MadeInstance}
use Rattle.partial_state.specs.contracts.partial.Partial.{the_view}
use Rattle.partial_state.proofs.StateChanges.{part_put, none_put}
use Rattle.partial_state.proofs.partial.Partial.put_kinds.Goals as goal

pub returns-then-len-at : goal.returns-then-len-at
returns-then-len-at c =
    let old : State = the_view c.self.inside in
    let change : MadeInstance → MadeInstance = λ x. record x { kinds = c.args.kinds } in
    let past : length old.made ≤ c.args.i = omega (arith, c.self.inside.made.ok.0, c.len.ensures, c.if-len-at.true) in
    rw (← c.self.view_is) (none_put old c.args.i change past)

pub returns : goal.returns
returns c =
    let old : State = the_view c.self.inside in
    let change : MadeInstance → MadeInstance = λ x. record x { kinds = c.args.kinds } in
    let below : c.args.i < length old.made = omega (arith, c.self.inside.made.ok.0, c.len.ensures, c.if-len-at.false) in
    rw (← c.self.view_is)
    (part_put old c.args.i change c.index_mut.result.now c.put_kinds.new.self below c.index_mut.ensures.value c.put_kinds.ensures)
