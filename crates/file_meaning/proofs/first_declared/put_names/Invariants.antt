use Rattle.std.proofs.Common.{◌≡◌, map, take}
use Rattle.std.specs.List.{fold}
use Rattle.file_meaning.specs.steps.FirstDeclared.{with_new}
use Rattle.file_meaning.proofs.first_declared.put_names.Given as goal

-- the names so far are put in
abbrev pub invariant-loop-d : goal.invariant-loop-d
invariant-loop-d g l = l.names ≡ fold with_new l.initial.names (map g.D.Declaration.name_of (take l.d-index l.d-items))
