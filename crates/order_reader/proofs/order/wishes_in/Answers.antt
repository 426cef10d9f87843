use Rattle.std.proofs.Common.{◌≡◌, Option, None, sym, ◌∙◌, map, subst}
use Rattle.serde_json.specs.View.{view}
use Rattle.file_values.specs.declared.fault.Fault.{Fault as AFault}
use Rattle.file_meaning.specs.Faults.{HasStatedFault, wishes_of}
use Rattle.model_reader.specs.Stated.{FindsFault}
use Rattle.order_reader.proofs.OrderPass.{wishes_found, wishes_say}
use Rattle.order_reader.proofs.order.wishes_in.Goals as goal

pub returns-clause-first : goal.returns-clause-first
returns-clause-first c =
    let m = c.args.model.now in
    let d = view c.args.value.now in
    let Finds : Option AFault → Type 0 = λ o. FindsFault (HasStatedFault m (wishes_of m d)) o in
    subst Finds (sym c.earlier.ensures)
    (wishes_found m d (map view c.items_at-list.result.now) (map view c.items_at-others.result.now) c.in_ok-requests.first c.in_ok-criteria.other c.in_ok-requests.requests c.in_ok-criteria.criteria
    c.items_at-list.ensures c.items_at-others.ensures c.in_ok-requests.ensures c.in_ok-criteria.ensures)

pub returns-clause-order : goal.returns-clause-order
returns-clause-order c none =
    let m = c.args.model.now in
    let d = view c.args.value.now in
    wishes_say m d (map view c.items_at-list.result.now) (map view c.items_at-others.result.now) c.in_ok-requests.first c.in_ok-criteria.other c.in_ok-requests.requests c.in_ok-criteria.criteria
    c.items_at-list.ensures c.items_at-others.ensures c.in_ok-requests.ensures c.in_ok-criteria.ensures (sym c.earlier.ensures ∙ none)
