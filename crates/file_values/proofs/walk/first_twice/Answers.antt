use Rattle.serde_json.specs.View.{view}
use Rattle.file_values.proofs.Searching.{ok-finds, finds-twice}
use Rattle.file_values.proofs.walk.first_twice.Goals as goal

pub returns : goal.returns
returns c =
    ok-finds (finds-twice c.args.format c.args.kind (view c.args.value.now)) c.first_found.result c.first_found.ensures
