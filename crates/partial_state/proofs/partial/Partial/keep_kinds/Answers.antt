use Rattle.std.proofs.Common.{◌<◌, sym, subst}
use Rattle.domain_store.specs.Words.{has_word}
use Rattle.state_space.specs.State.{State, number_made}
use Rattle.partial_state.specs.contracts.partial.Partial.{the_view}
use Rattle.partial_state.proofs.StateChanges.{made_read, kinds_changed}
use Rattle.partial_state.proofs.partial.Partial.keep_kinds.Goals as goal

pub returns : goal.returns
returns c =
    let old : State = the_view c.self.inside in
    let IsMade : State → Type 0 = λ s. c.args.i < number_made s in
    let below : IsMade old = subst IsMade (sym c.self.view_is) c.requires in
    let at = made_read old.made c.args.i c.index_mut.result.now below c.index_mut.ensures.value in
    rw (← c.self.view_is)
    (kinds_changed old c.args.i c.index_mut.result.now c.keep_kinds.new.self at (has_word c.args.mask) c.keep_kinds.result c.keep_kinds.ensures)
