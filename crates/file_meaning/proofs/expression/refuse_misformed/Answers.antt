use Rattle.std.proofs.Common.{◌≡◌, ◌∙◌, sym, Some, None}
use Rattle.std.specs.Prelude.{slice_get}
use Rattle.serde_json.specs.View.{view}
use Rattle.file_values.specs.Forms.{misformed}
use Rattle.file_meaning.proofs.OwnFaults.{no_place, misformed_first}
use Rattle.file_meaning.proofs.expression.refuse_misformed.Goals as goal

pub returns-in-Ok-None-clause-formed : goal.returns-in-Ok-None-clause-formed
returns-in-Ok-None-clause-formed c =
    let none : slice_get (misformed (view c.args.value.now)) 0 ≡ None = sym c.in-Ok-None.ensures ∙ c.in-Ok-None.field-0-is in no_place (misformed (view c.args.value.now)) none

pub returns-in-Ok-Some-clause-fault : goal.returns-in-Ok-Some-clause-fault
returns-in-Ok-Some-clause-fault c =
    let first : slice_get (misformed (view c.args.value.now)) 0 ≡ Some c.in-Ok-Some.place = sym c.in-Ok-Some.ensures ∙ c.in-Ok-Some.field-0-is in
    λ m of truth. misformed_first m (view c.args.value.now) of truth c.in-Ok-Some.place first
