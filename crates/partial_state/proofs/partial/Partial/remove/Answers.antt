use mir.Val.{SFits}
use Rattle.std.proofs.Common.{◌<◌, length, sym, subst, not, w64}
use Rattle.std.specs.Prelude.{IsSome}
use Rattle.std.specs.Ordering.{int_eq}
use Rattle.std.proofs.lemmas.Int.{to_z-of_z}
use Rattle.state_space.specs.Made.{domain_of}
use Rattle.state_space.specs.State.{State, domain_at}
use Rattle.partial_state.specs.contracts.partial.Partial.{the_view}
use Rattle.partial_state.proofs.StateChanges.{made_below, made_read, domain_changed}
use Rattle.partial_state.proofs.partial.Partial.remove.Goals as goal

pub returns-clause-narrowed : goal.returns-clause-narrowed
returns-clause-narrowed c =
    let fits : SFits w64 c.args.n = c.ranges.n in
    let old : State = the_view c.self.inside in
    let HasIt : State → Type 0 = λ s. IsSome (domain_at s c.args.i c.args.attr) in
    let some : HasIt old = subst HasIt (sym c.self.view_is) c.requires in
    let below : c.args.i < length old.made = made_below (λ x. domain_of x c.args.attr) old.made c.args.i some in
    let at = made_read old.made c.args.i c.index_mut.result.now below c.index_mut.ensures.value in
    rw (← c.self.view_is)
    (domain_changed old c.args.i c.index_mut.result.now c.remove.new.self at c.args.attr (λ v. not (int_eq v c.args.n)) c.in_ok-change.change
    (simp to_z-of_z at c.in_ok-change.ensures.narrowed))
