use Rattle.std.proofs.Common.{◌∙◌, ap, sym, max, map, arith}
use Rattle.std.specs.List.{fold}
use Rattle.std.specs.Option.{option_copied}
use Rattle.state_space.specs.Root.{ports_under}
use Rattle.partial_state.specs.Masks.{kinds_of}
use Rattle.partial_state.proofs.KindLists.{kinds_next}
use Rattle.partial_state.proofs.NewPorts.{greatest_of_none, greatest_with, greatest_without, fewer_others}
use Rattle.partial_state.proofs.new_row.+greatest_count.Goals as goal

pub returns-then-types-eq0 : goal.returns-then-types-eq0
returns-then-types-eq0 t c = greatest_of_none c.args.problem.now c.args.port c.args.most c.args.types c.if-types-eq0.true

-- there are fewer others
pub greatest_count-requires : goal.greatest_count-requires
greatest_count-requires t c =
    let low = c.lowest_type-t.ensures in
    let others = c.without_type-others.result in
    let fewer = fewer_others c.args.problem.now c.args.port c.args.most c.args.types others c.lowest_type-t.result
    (kinds_next c.args.types others c.lowest_type-t.result low.below low.is low.least c.without_type-others.ensures) in
    (omega (arith, c.decreases, fewer), tt)

pub greatest_count-requires-in-None : goal.greatest_count-requires-in-None
greatest_count-requires-in-None t c =
    let low = c.lowest_type-t.ensures in
    let others = c.without_type-others.result in
    let fewer = fewer_others c.args.problem.now c.args.port c.args.most c.args.types others c.lowest_type-t.result
    (kinds_next c.args.types others c.lowest_type-t.result low.below low.is low.least c.without_type-others.ensures) in
    (omega (arith, c.decreases, fewer), tt)

pub returns-in-Some : goal.returns-in-Some
returns-in-Some t c =
    let low = c.lowest_type-t.ensures in
    let others = c.without_type-others.result in
    let next = kinds_next c.args.types others c.lowest_type-t.result low.below low.is low.least c.without_type-others.ensures in
    c.greatest_count.ensures
    ∙ ap (λ n. fold max n (map (λ q. q.high) (ports_under c.args.problem.now (kinds_of others) c.args.port))) c.max.ensures
    ∙ greatest_with c.args.problem.now c.args.port c.args.most c.args.types others c.lowest_type-t.result next c.in-Some.found.now (sym c.port_of.ensures ∙ ap option_copied c.in-Some.is)

pub returns-in-None : goal.returns-in-None
returns-in-None t c =
    let low = c.lowest_type-t.ensures in
    let others = c.without_type-others.result in
    let next = kinds_next c.args.types others c.lowest_type-t.result low.below low.is low.least c.without_type-others.ensures in
    c.greatest_count-in-None.ensures
    ∙ greatest_without c.args.problem.now c.args.port c.args.most c.args.types others c.lowest_type-t.result next (sym c.port_of.ensures ∙ ap option_copied c.in-None.is)
