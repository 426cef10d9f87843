use Rattle.std.proofs.Common.{◌≡◌, ◌∙◌, ap, length, slice_index, arith}
use Rattle.partial_state.specs.steps.NewRows.{shares, new_domain}
use Rattle.partial_state.proofs.NewRows.{push_place, push_next}
use Rattle.partial_state.proofs.new_row.push_domains.Goals as goal

pub offset_bounds-attribute_types-len : goal.offset_bounds-attribute_types-len
offset_bounds-attribute_types-len c =
    let types = c.args.attribute_types.now in
    let within = push_place (λ a. shares (slice_index types a) c.args.kinds) c.args.domains.now.items c.loop-attribute.domains.items c.args.new.now c.loop-attribute.attribute-index (length types) c.loop-attribute-test.true c.loop-attribute.invariant c.requires.room in
    omega (arith, within, c.len.ensures)

pub bounds-attribute_types-len : goal.bounds-attribute_types-len
bounds-attribute_types-len c =
    let types = c.args.attribute_types.now in
    let within = push_place (λ a. shares (slice_index types a) c.args.kinds) c.args.domains.now.items c.loop-attribute.domains.items c.args.new.now c.loop-attribute.attribute-index (length types) c.loop-attribute-test.true c.loop-attribute.invariant c.requires.room in
    omega (arith, within, c.len.ensures)

pub loop-attribute-preserved : goal.loop-attribute-preserved
loop-attribute-preserved c =
    let types = c.args.attribute_types.now in
    let now = c.loop-attribute.domains.items in
    let same : c.len.result ≡ length now = omega (arith, c.len.ensures) in
    push_next (λ a. shares (slice_index types a) c.args.kinds) c.args.domains.now.items now c.push.new.self.items c.args.new.now c.loop-attribute.attribute-index c.attribute-item.result c.in_ok-domain_if.field-0
    c.loop-attribute-test.true c.attribute-item.is c.loop-attribute.invariant
    (c.in_ok-domain_if.ensures ∙ ap (λ n. new_domain (shares (slice_index types n) c.args.kinds) c.attribute-item.result.domain) same) c.in_ok-push.ensures.items
