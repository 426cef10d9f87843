use Rattle.std.proofs.Common.{subst, Option}
use Rattle.serde_json.specs.View.{view}
use Rattle.file_values.specs.declared.fault.Fault.{Fault as AFault}
use Rattle.file_meaning.specs.Faults.{HasStatedFault, wishes_of}
use Rattle.model_reader.specs.Stated.{FindsFault}
use Rattle.order_reader.proofs.OrderPass.{order_none, order_first, stands_for, is_valid}
use Rattle.order_reader.proofs.order.order_of.Goals as goal

pub returns-in-None-clause-order : goal.returns-in-None-clause-order
returns-in-None-clause-order c =
    let m = c.args.model.now in
    let d = view c.args.value.now in
    let Finds : Option AFault → Type 0 = λ o. FindsFault (HasStatedFault m (wishes_of m d)) o in
    stands_for c.faultless_is_valid_order.ensures m c.requires.valid d (order_none m d c.in_ok-check_plain.ensures.clear (subst Finds c.in-None.is c.in-Ok.ensures.first))
    c.in-Ok.order (c.in-Ok.ensures.order c.in-None.is)

pub returns-in-None-clause-valid : goal.returns-in-None-clause-valid
returns-in-None-clause-valid c =
    let m = c.args.model.now in
    let d = view c.args.value.now in
    let Finds : Option AFault → Type 0 = λ o. FindsFault (HasStatedFault m (wishes_of m d)) o in
    is_valid c.faultless_is_valid_order.ensures m c.requires.valid d (order_none m d c.in_ok-check_plain.ensures.clear (subst Finds c.in-None.is c.in-Ok.ensures.first))
    c.in-Ok.order (c.in-Ok.ensures.order c.in-None.is)

pub returns-in-Some-clause-fault : goal.returns-in-Some-clause-fault
returns-in-Some-clause-fault c =
    let m = c.args.model.now in
    let d = view c.args.value.now in
    let Finds : Option AFault → Type 0 = λ o. FindsFault (HasStatedFault m (wishes_of m d)) o in
    order_first m d c.in_ok-check_plain.ensures.clear c.in-Some.fault (subst Finds c.in-Some.is c.in-Ok.ensures.first)
