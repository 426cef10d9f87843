use Rattle.std.proofs.Common.{sym}
use Rattle.file_values.proofs.GroupLaws.{length_grouped}
use Rattle.file_values.proofs.group.Group.count.Goals as goal

pub returns : goal.returns
returns c = sym (length_grouped c.args.self.now)
