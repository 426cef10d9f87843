use Rattle.std.proofs.Common.{map, sym, ap, subst, Option}
use Rattle.serde_json.specs.View.{view}
use Rattle.prod_model.specs.Valid.{IsDeclared}
use Rattle.file_values.specs.declared.kind.Key.TheVariants.{Name}
use Rattle.file_values.specs.Read.{text_at}
use Rattle.file_values.specs.declared.fault.Fault.{Fault as AFault}
use Rattle.file_meaning.specs.ModelOf.{declared_in}
use Rattle.file_meaning.specs.Faults.{HasStatedFault, rules_of}
use Rattle.file_meaning.specs.steps.Names.{names_in}
use Rattle.model_reader.specs.Stated.{FindsFault}
use Rattle.model_reader.proofs.RulePass.{known_in_list, read_so, rules_clear, rules_refused}
use Rattle.model_reader.proofs.rules.rules_with.Goals as goal

pub rules_in-requires-clause-declared : goal.rules_in-requires-clause-declared
rules_in-requires-clause-declared c =
    subst IsDeclared (sym c.requires.declared) (c.faultless_is_declared.ensures (view c.args.value.now) c.requires.faultless)

pub rules_in-requires-clause-known : goal.rules_in-requires-clause-known
rules_in-requires-clause-known c =
    known_in_list (view c.args.value.now) c.requires.faultless c.args.model.now (names_in c.items_at-types.result.now) (map view c.items_at-list.result.now)
    c.requires.declared (ap (map (text_at Name)) c.items_at-types.ensures) c.items_at-list.ensures

pub returns-in-None-clause-faultless : goal.returns-in-None-clause-faultless
returns-in-None-clause-faultless c =
    let d = view c.args.value.now in
    let Finds : Option AFault → Type 0 = λ o. FindsFault (HasStatedFault (declared_in d) (rules_of d)) o in
    let read = read_so d c.requires.faultless c.args.model.now (names_in c.items_at-types.result.now) (map view c.items_at-list.result.now)
    c.requires.declared (ap (map (text_at Name)) c.items_at-types.ensures) c.items_at-list.ensures c.in-Ok.first c.in-Ok.rules c.in-Ok.ensures in
    rules_clear d c.requires.faultless (subst Finds c.in-None.is read.finds)

pub returns-in-Some-clause-fault : goal.returns-in-Some-clause-fault
returns-in-Some-clause-fault c =
    let d = view c.args.value.now in
    let Finds : Option AFault → Type 0 = λ o. FindsFault (HasStatedFault (declared_in d) (rules_of d)) o in
    let read = read_so d c.requires.faultless c.args.model.now (names_in c.items_at-types.result.now) (map view c.items_at-list.result.now)
    c.requires.declared (ap (map (text_at Name)) c.items_at-types.ensures) c.items_at-list.ensures c.in-Ok.first c.in-Ok.rules c.in-Ok.ensures in
    rules_refused d c.requires.faultless c.in-Some.fault (subst Finds c.in-Some.is read.finds)
