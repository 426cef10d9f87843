use Rattle.std.proofs.Common.{subst}
use Rattle.serde_json.specs.View.{view}
use Rattle.file_meaning.specs.declared.refusal.Refusal.{Refusal}
use Rattle.file_meaning.specs.Faults.{Stated}
use Rattle.file_meaning.specs.Refused.{IsRefusalOfExpr}
use Rattle.model_reader.proofs.StatedFaults.{one_sound, one_placed}
use Rattle.model_reader.proofs.stated.read_stated.Goals as goal

pub returns-in-Ok-clause-sound : goal.returns-in-Ok-clause-sound
returns-in-Ok-clause-sound c =
    let s : Stated = record { place = c.args.front; value = view c.args.value.now; of = c.args.at; truth = c.args.truth } in
    one_sound c.args.model.now s c.in-Ok.ensures.faultless

pub returns-in-Ok-placed-clause-fault : goal.returns-in-Ok-placed-clause-fault
returns-in-Ok-placed-clause-fault c =
    let s : Stated = record { place = c.args.front; value = view c.args.value.now; of = c.args.at; truth = c.args.truth } in
    let Refused : Refusal → Type 0 = λ e. IsRefusalOfExpr c.args.model.now (view c.args.value.now) c.args.at c.args.truth e in
    one_placed c.args.model.now s c.in-Err-Fault.own c.in-Ok-placed.fault (subst Refused c.in-Err-Fault.field-0-is c.in-Err-Fault.ensures.fault) c.in-Ok-placed.ensures
