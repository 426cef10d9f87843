use Rattle.std.proofs.Common.{◌∙◌, ap₂, sym}
use Rattle.state_space.specs.Made.{MadeInstance}
use Rattle.state_space.specs.State.{State}
use Rattle.state_space.specs.Whole.{has_one_value, is_settled_port, is_whole_of}
use Rattle.partial_state.specs.contracts.partial.Partial.{the_view}
use Rattle.partial_state.specs.contracts.row.InstanceRow as row
use Rattle.partial_state.proofs.WholeParts.{all_of_masks, whole_by_ports, open_by_values}
use Rattle.partial_state.proofs.partial.Partial.is_whole_row.Goals as goal

pub returns-then-has_one_value_each : goal.returns-then-has_one_value_each
returns-then-has_one_value_each c =
    let s : State = the_view c.self.inside in
    let x : MadeInstance = row.the_view c.row.inside in
    let values = all_of_masks has_one_value c.in-Some.t _ c.self.inside.attribute_types.items _ c.row.inside.domains.items c.as_slice.ensures.value c.as_slice-in-Some.ensures.value in
    let ports = all_of_masks is_settled_port c.in-Some.t _ c.self.inside.port_types.items _ c.row.inside.ports.items c.as_slice-then-has_one_value_each.ensures.value c.as_slice-then-has_one_value_each-2.ensures.value in
    whole_by_ports s x c.in-Some.t (sym c.sole.ensures ∙ c.in-Some.is) c.has_one_value_each.result (c.has_one_value_each.ensures ∙ values)
    c.has_settled_ports.result c.if-has_one_value_each.true (c.has_settled_ports.ensures ∙ ports)
    ∙ ap₂ (λ (s : State) (x : MadeInstance). is_whole_of s x x.kinds) c.self.view_is c.row.view_is

pub returns-else-has_one_value_each : goal.returns-else-has_one_value_each
returns-else-has_one_value_each c =
    let s : State = the_view c.self.inside in
    let x : MadeInstance = row.the_view c.row.inside in
    let values = all_of_masks has_one_value c.in-Some.t _ c.self.inside.attribute_types.items _ c.row.inside.domains.items c.as_slice.ensures.value c.as_slice-in-Some.ensures.value in
    open_by_values s x c.in-Some.t (sym c.sole.ensures ∙ c.in-Some.is) c.has_one_value_each.result (c.has_one_value_each.ensures ∙ values)
    c.if-has_one_value_each.false
    ∙ ap₂ (λ (s : State) (x : MadeInstance). is_whole_of s x x.kinds) c.self.view_is c.row.view_is
