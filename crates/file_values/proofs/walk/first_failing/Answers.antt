use Rattle.serde_json.specs.View.{view}
use Rattle.file_values.proofs.Searching.{ok-finds, finds-failing}
use Rattle.file_values.proofs.walk.first_failing.Goals as goal

pub returns : goal.returns
returns c =
    ok-finds (finds-failing c.args.format c.args.test.now c.args.kind (view c.args.value.now)) c.first_found.result c.first_found.ensures
