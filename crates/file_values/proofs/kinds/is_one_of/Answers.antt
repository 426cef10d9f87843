use Rattle.std.proofs.Common.{rules, ◌≡◌, Some}
use Rattle.serde_json.specs.View.{view}
use Rattle.serde_json.specs.Find.{as_str}
use Rattle.file_values.proofs.MemberLaws.{among_view}
use Rattle.file_values.proofs.kinds.is_one_of.Goals as goal

pub returns-in-Some : goal.returns-in-Some
returns-in-Some c =
    let found : as_str (view c.args.value.now) ≡ Some c.in-Some.text.now = search rules in
    rw (found, among_view c.in-Some.text.now c.args.texts.now) c.is_among.ensures
