use Rattle.std.proofs.Common.{rules, ◌≡◌, true, length}
use Rattle.std.specs.Prelude.{◌==◌}
use Rattle.serde_json.specs.View.{view}
use Rattle.file_values.proofs.MemberLaws.{pair_view}
use Rattle.file_values.proofs.kinds.is_pair.Goals as goal

pub returns-then-items-eq2 : goal.returns-then-items-eq2
returns-then-items-eq2 c =
    let two : (length c.items_in-items.result.now == 2) ≡ true = search rules in
    rw (pair_view (view c.args.value.now) c.items_in-items.result.now c.items_in-items.ensures, two) c.are_whole.ensures
