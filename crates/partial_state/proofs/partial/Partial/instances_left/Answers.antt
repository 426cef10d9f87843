use Rattle.std.proofs.Common.{◌≡◌, ◌≤◌, ◌∙◌, ap, sym, subst, refl, length, map, arith}
use Rattle.std.specs.Prelude.{slice_get}
use Rattle.std.proofs.lemmas.List.{take_all}
use Rattle.std.proofs.lemmas.Option.{slice_get_read}
use Rattle.state_space.specs.State.{State, IsState}
use Rattle.state_space.specs.Whole.{instance_left, whole_configuration}
use Rattle.partial_state.specs.contracts.partial.Partial.{the_view}
use Rattle.partial_state.proofs.WholeParts.{first_is_type}
use Rattle.partial_state.proofs.partial.Partial.instances_left.Goals as goal

pub instance_left-requires : goal.instance_left-requires
instance_left-requires c =
    let s : State = the_view c.self.inside in
    let k = c.loop-row.row-index in
    let state : IsState c.args.problem.now s = subst (IsState c.args.problem.now) (sym c.self.view_is) c.requires in
    let at = slice_get_read c.deref-row-items.result.now _ k c.row-item.result refl c.loop-row-test.true c.row-item.is in
    first_is_type c.args.problem.now s k c.row-item.result state
    (ap (λ xs. slice_get xs k) (sym c.deref-row-items.ensures.value) ∙ at)

pub returns : goal.returns
unfolding whole_configuration
returns c =
    let made = c.args.self.now.made in
    let same : length c.self.inside.made.items ≡ length made = ap (λ (s : State). length s.made) c.self.view_is in
    let read = ap length c.deref-row-items.ensures.value in
    let past = c.loop-row-test.false in
    let all : length made ≤ c.loop-row.row-index = omega arith in
    c.from_vec.ensures ∙ c.loop-row.invariant
    ∙ ap (map (instance_left c.args.problem.now)) (take_all c.loop-row.row-index made all)
