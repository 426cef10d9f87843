use Rattle.std.proofs.Common.{◌<◌, length, sym, subst}
use Rattle.std.specs.Prelude.{IsSome}
use Rattle.state_space.specs.Made.{domain_of}
use Rattle.state_space.specs.State.{State, domain_at}
use Rattle.partial_state.specs.steps.Bounds.{is_within}
use Rattle.partial_state.specs.contracts.partial.Partial.{the_view}
use Rattle.partial_state.proofs.StateChanges.{made_below, made_read, domain_changed}
use Rattle.partial_state.proofs.partial.Partial.narrow.Goals as goal

pub returns : goal.returns
returns c =
    let old : State = the_view c.self.inside in
    let HasIt : State → Type 0 = λ s. IsSome (domain_at s c.args.i c.args.attr) in
    let some : HasIt old = subst HasIt (sym c.self.view_is) c.requires in
    let below : c.args.i < length old.made = made_below (λ x. domain_of x c.args.attr) old.made c.args.i some in
    let at = made_read old.made c.args.i c.index_mut.result.now below c.index_mut.ensures.value in
    rw (← c.self.view_is)
    (domain_changed old c.args.i c.index_mut.result.now c.narrow.new.self at c.args.attr (is_within c.args.bound) c.narrow.result c.narrow.ensures)
