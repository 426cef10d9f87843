use Rattle.std.proofs.Common.{◌≡◌, [], map, take}
use Rattle.std.specs.List.{fold}
use Rattle.file_meaning.specs.steps.FirstDeclared.{with_new}
use Rattle.file_meaning.proofs.named_tables.type_names.Given as goal

-- the names are those of the types so far, each once
abbrev pub invariant-loop-kind : goal.invariant-loop-kind
invariant-loop-kind l = l.names ≡ fold with_new [] (map (λ d. d.name) (take l.kind-index l.kind-items))
