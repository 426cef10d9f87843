use Rattle.std.proofs.Common.{◌<◌, length, sym, subst}
use Rattle.std.specs.Prelude.{IsSome}
use Rattle.state_space.specs.Made.{port_of_made}
use Rattle.state_space.specs.State.{State, port_at}
use Rattle.partial_state.specs.steps.Bounds.{links_within}
use Rattle.partial_state.specs.contracts.partial.Partial.{the_view}
use Rattle.partial_state.proofs.StateChanges.{made_below, made_read, port_changed}
use Rattle.partial_state.proofs.partial.Partial.narrow_port.Goals as goal

pub returns : goal.returns
returns c =
    let old : State = the_view c.self.inside in
    let HasIt : State → Type 0 = λ s. IsSome (port_at s c.args.i c.args.port) in
    let some : HasIt old = subst HasIt (sym c.self.view_is) c.requires.has in
    let below : c.args.i < length old.made = made_below (λ x. port_of_made x c.args.port) old.made c.args.i some in
    let at = made_read old.made c.args.i c.index_mut.result.now below c.index_mut.ensures.value in
    rw (← c.self.view_is)
    (port_changed old c.args.i c.index_mut.result.now c.narrow_port.new.self at c.args.port (links_within c.args.bound) c.narrow_port.result c.narrow_port.ensures)
