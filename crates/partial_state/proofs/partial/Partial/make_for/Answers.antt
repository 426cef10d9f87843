use Rattle.std.proofs.Common.{◌≡◌, ◌∙◌, ◌∷◌, [], ap, sym, length, Some, arith, length-append}
use Rattle.state_space.specs.Ports.{made_here}
use Rattle.state_space.specs.State.{State, number_made, port_at}
use Rattle.partial_state.specs.contracts.partial.Partial.{the_view}
use Rattle.partial_state.specs.steps.Generated.{instance_elsewhere}
use Rattle.partial_state.specs.Views.{state_of_port}
use Rattle.partial_state.proofs.Generations.{length-first_changed, extended}
use Rattle.partial_state.proofs.partial.Partial.make_for.Goals as goal

-- there was room for one more
pub invariant_of-self-2 : goal.invariant_of-self-2
invariant_of-self-2 c =
    let long = ap length c.make_rows_elsewhere.ensures ∙ length-first_changed (instance_elsewhere c.made-next.result) c.push.new.self.items c.made-next.result in
    let more = ap length c.in_ok-push.ensures.items ∙ length-append c.self.inside.made.items (c.args.row ∷ []) in
    let count : number_made (the_view c.self.inside) ≡ number_made c.args.self.now = ap number_made c.self.view_is in
    omega (arith, long, more, count, c.requires.room)

-- the next instance is put behind the others, and the ports are changed
pub returns-clause-made : goal.returns-clause-made
returns-clause-made c =
    let s : State = the_view c.self.inside in
    let count : c.made-next.result ≡ number_made s = c.made-next.ensures ∙ ap number_made (sym c.self.view_is) in
    let is : port_at s c.args.i c.args.port ≡ Some (state_of_port c.port.result) = ap (λ t. port_at t c.args.i c.args.port) c.self.view_is ∙ c.port.ensures.links in
    let made = c.made_here.ensures ∙ ap (made_here c.made-next.result) c.from_links-links.ensures in
    rw (← c.self.view_is)
    (extended s c.put_port.new.self c.push.new.self.items c.make_rows_elsewhere.new.rows.items c.made-next.result c.args.i c.args.port
    (state_of_port c.port.result) c.made_here.new.self c.args.row count is c.in_ok-push.ensures.items c.make_rows_elsewhere.ensures made c.put_port.ensures)
