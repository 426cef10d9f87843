use Rattle.std.proofs.Common.{◌≡◌, ◌++◌, take}
use Rattle.type_taxonomy.proofs.rows.push_all.Given as goal

-- the entries so far stand at the end
abbrev pub invariant-loop-e : goal.invariant-loop-e
invariant-loop-e g l = l.row ≡ l.fn.row ++ take l.e-index l.new
