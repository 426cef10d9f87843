use Rattle.std.proofs.Common.{rules, ◌≡◌, ◌<◌, ◌∷◌, ◌∙◌, sym, SFits, w64, arith, true, false}
use Rattle.state_space.specs.State.{number_made}
use Rattle.partial_state.proofs.WholeParts.{first_kind}
use Rattle.state_values.proofs.KeyStartLeft.{link_turn, port_ends, port_turn, start_ends, some_kind, kind_known, has_left, instance_turn, instance_ends}
use Rattle.state_values.proofs.key_start_cursor.KeyStartCursor.next.Goals as goal

-- the next link
pub returns-in-Some-least_from : goal.returns-in-Some-least_from
returns-in-Some-least_from c =
    let fits : SFits w64 c.from.result = search rules in
    sym c.self.view_is
    ∙ link_turn c.self.inside.problem.now c.self.inside.state.now c.self.inside.instance c.self.inside.next c.in-Some-least_from.link c.from.result
    c.self.inside.attributes.now c.self.inside.ports.now c.self.inside.links c.remove.new.self
    c.in_default.ensures.cases c.in-Some-least_from.ensures c.remove.ensures c.from.ensures fits

-- a port that is not settled ends the start
pub returns-then-not-is_settled : goal.returns-then-not-is_settled
returns-then-not-is_settled c =
    let parted : c.self.inside.ports.now ≡ c.in-Some-split_first.port.now ∷ c.in-Some-split_first.rest.now = search rules in
    let fails : c.is_settled.result ≡ false = search rules in
    sym c.self.view_is
    ∙ port_ends c.self.inside.problem.now c.self.inside.state.now c.self.inside.instance c.self.inside.next
    c.self.inside.attributes.now c.self.inside.links c.self.inside.ports.now c.in-Some-split_first.rest.now c.in-Some-split_first.port.now c.port-links.result c.is_settled.result
    c.in_default.ensures.cases c.in_default-least_from.ensures parted c.port-links.ensures.links c.is_settled.ensures fails

-- the number of links of a settled port
pub returns-in-Some-split_first : goal.returns-in-Some-split_first
returns-in-Some-split_first c =
    let fits : SFits w64 c.from-in-Some-split_first.result = search rules in
    let parted : c.self.inside.ports.now ≡ c.in-Some-split_first.port.now ∷ c.in-Some-split_first.rest.now = search rules in
    let holds : c.is_settled.result ≡ true = search rules in
    sym c.self.view_is
    ∙ port_turn c.self.inside.problem.now c.self.inside.state.now c.self.inside.instance c.self.inside.next c.count.result c.from-in-Some-split_first.result
    c.self.inside.attributes.now c.self.inside.links c.self.inside.ports.now c.in-Some-split_first.rest.now c.in-Some-split_first.port.now c.port-links.result c.is_settled.result
    c.in_default.ensures.cases c.in_default-least_from.ensures parted c.port-links.ensures.links c.is_settled.ensures holds
    c.count.ensures c.from-in-Some-split_first.ensures fits

-- no instance is left
pub returns-then-made-self : goal.returns-then-made-self
returns-then-made-self c =
    sym c.self.view_is
    ∙ start_ends c.self.inside.problem.now c.self.inside.state.now c.self.inside.instance c.self.inside.next c.made.result
    c.self.inside.attributes.now c.self.inside.links c.self.inside.ports.now
    c.in_default.ensures.cases c.in_default-least_from.ensures c.in_default-split_first.ensures.cases c.made.ensures c.if-made-self.true

pub sole-requires : goal.sole-requires
sole-requires c =
    let below : c.self.inside.next < number_made c.self.inside.state.now = omega (arith, c.made.ensures) in
    some_kind c.self.inside.problem.now c.self.inside.state.now c.self.invariant.state c.self.inside.next c.kinds-kinds.result below c.kinds-kinds.type_inv c.kinds-kinds.ensures

pub attrs_of-self-inside-requires : goal.attrs_of-self-inside-requires
attrs_of-self-inside-requires c =
    let below : c.self.inside.next < number_made c.self.inside.state.now = omega (arith, c.made.ensures) in
    kind_known c.self.inside.problem.now c.self.inside.state.now c.self.invariant.state c.self.inside.next c.kinds-kinds.result below c.kinds-kinds.type_inv c.kinds-kinds.ensures
    c.in-Some-sole.kind c.in-Some-sole.ensures

pub ports_of-self-inside-requires : goal.ports_of-self-inside-requires
ports_of-self-inside-requires c =
    let below : c.self.inside.next < number_made c.self.inside.state.now = omega (arith, c.made.ensures) in
    kind_known c.self.inside.problem.now c.self.inside.state.now c.self.invariant.state c.self.inside.next c.kinds-kinds.result below c.kinds-kinds.type_inv c.kinds-kinds.ensures
    c.in-Some-sole.kind c.in-Some-sole.ensures

-- the instance has the attributes and ports of its type
pub invariant_of-self-in-Some-sole : goal.invariant_of-self-in-Some-sole
invariant_of-self-in-Some-sole c =
    let below : c.self.inside.next < number_made c.self.inside.state.now = omega (arith, c.made.ensures) in
    has_left c.self.inside.problem.now c.self.inside.state.now c.self.invariant.state c.self.inside.next c.kinds-kinds.result below c.kinds-kinds.type_inv c.kinds-kinds.ensures
    c.in-Some-sole.kind c.in-Some-sole.ensures c.attrs_of-self-inside.result.now c.ports_of-self-inside.result.now c.attrs_of-self-inside.ensures c.ports_of-self-inside.ensures

-- an instance of one type
pub returns-in-Some-sole : goal.returns-in-Some-sole
returns-in-Some-sole c =
    let below : c.self.inside.next < number_made c.self.inside.state.now = omega (arith, c.made.ensures) in
    let fits : SFits w64 c.from-in-Some-sole.result = search rules in
    sym c.self.view_is
    ∙ instance_turn c.self.inside.problem.now c.self.inside.state.now c.self.invariant.state c.self.inside.next c.kinds-kinds.result below c.kinds-kinds.type_inv c.kinds-kinds.ensures
    c.in-Some-sole.kind c.in-Some-sole.ensures c.self.inside.instance c.from-in-Some-sole.result
    c.self.inside.attributes.now c.attrs_of-self-inside.result.now c.self.inside.links c.self.inside.ports.now c.ports_of-self-inside.result.now
    c.in_default.ensures.cases c.in_default-least_from.ensures c.in_default-split_first.ensures.cases
    c.attrs_of-self-inside.ensures c.ports_of-self-inside.ensures c.from-in-Some-sole.ensures fits

-- an instance of several types
pub returns-in-None : goal.returns-in-None
returns-in-None c =
    let below : c.self.inside.next < number_made c.self.inside.state.now = omega (arith, c.made.ensures) in
    let fits : SFits w64 c.from-in-None.result = search rules in
    let some = some_kind c.self.inside.problem.now c.self.inside.state.now c.self.invariant.state c.self.inside.next c.kinds-kinds.result below c.kinds-kinds.type_inv c.kinds-kinds.ensures in
    sym c.self.view_is
    ∙ instance_ends c.self.inside.problem.now c.self.inside.state.now c.self.invariant.state c.self.inside.next c.kinds-kinds.result below c.kinds-kinds.type_inv c.kinds-kinds.ensures
    c.in-None.ensures c.self.inside.instance c.made-self-inside.result _ c.from-in-None.result
    c.self.inside.attributes.now c.self.inside.links c.self.inside.ports.now
    c.in_default.ensures.cases c.in_default-least_from.ensures c.in_default-split_first.ensures.cases
    c.made-self-inside.ensures (sym (first_kind c.kinds-kinds.result some c.kinds-kinds.type_inv)) c.from-in-None.ensures fits
