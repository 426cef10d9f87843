use Rattle.std.proofs.Common.{◌∙◌, ap, sym}
use Rattle.state_space.specs.Made.{MadeInstance}
use Rattle.partial_state.specs.steps.Openings.{sole_of, first_opening}
use Rattle.partial_state.proofs.OpenPorts.{sole_known, one_type}
use Rattle.partial_state.proofs.row.InstanceRow.opening.Goals as goal

pub ports_of-requires : goal.ports_of-requires
ports_of-requires c =
    sole_known c.args.problem.now c.args.self.now.kinds c.in-Some.t
    (sym c.in-Some.is ∙ (c.sole.ensures ∙ ap (λ (x : MadeInstance). sole_of x.kinds) c.self.view_is)) c.requires

pub returns-in-Some : goal.returns-in-Some
returns-in-Some c = λ i later.
    one_type c.args.problem.now i c.args.self.now later c.in-Some.t c.first_open.result
    (sym c.in-Some.is ∙ (c.sole.ensures ∙ ap (λ (x : MadeInstance). sole_of x.kinds) c.self.view_is))
    (c.first_open.ensures ∙ ap (first_opening c.args.self.now) c.ports_of.ensures)
