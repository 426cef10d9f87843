use Rattle.std.proofs.Common.{◌≡◌, ◌+◌, ◌∙◌, ap, sym, Bool, false, Some}
use Rattle.std.specs.Prelude.{nat_le, if◌then◌else◌}
use Rattle.std.specs.Option.{option_copied, option_map_or}
use Rattle.std.specs.List.{count_by}
use Rattle.state_space.specs.Ports.{PortState}
use Rattle.state_space.specs.State.{number_made}
use Rattle.state_space.specs.Entails.{entails}
use Rattle.partial_state.specs.steps.Shared.{shared_port}
use Rattle.partial_state.proofs.SharedLaws.{port_that}
use Rattle.partial_state.proofs.partial.Partial.entails.Goals as goal

-- every possible type has the port, and what it may link is tested
pub returns-in-Some-shared_port : goal.returns-in-Some-shared_port
unfolding entails
returns-in-Some-shared_port c =
    let l = c.in-FreshAtMost in
    let test : PortState → Bool = λ q. nat_le (count_by (nat_le l.from) q.possible + q.fresh_high) l.count in
    let shared : shared_port c.args.self.now l.instance l.port ≡ Some c.in-Some-shared_port.links.now =
    sym c.shared_port-in-FreshAtMost.ensures ∙ ap option_copied c.in-Some-shared_port.is in
    rw l.is
    (c.has_at_most_from.ensures
    ∙ sym (port_that c.args.problem.now c.args.self.now l.instance l.port test c.requires ∙ ap (λ o. option_map_or test o false) shared))

pub returns-in-Some-shared_port-2 : goal.returns-in-Some-shared_port-2
unfolding entails
returns-in-Some-shared_port-2 c =
    let l = c.in-FreshAtLeast in
    let made = number_made c.args.self.now in
    let test : PortState → Bool = λ q. nat_le l.count (count_by (nat_le l.from) q.required + (if nat_le l.from made then q.fresh_low else 0)) in
    let shared : shared_port c.args.self.now l.instance l.port ≡ Some c.in-Some-shared_port-2.links.now =
    sym c.shared_port-in-FreshAtLeast.ensures ∙ ap option_copied c.in-Some-shared_port-2.is in
    rw l.is
    (rw c.made-in-Some-shared_port-2.ensures at c.has_at_least_from.ensures
    ∙ sym (port_that c.args.problem.now c.args.self.now l.instance l.port test c.requires ∙ ap (λ o. option_map_or test o false) shared))
