use Rattle.std.proofs.Common.{◌≡◌, [], take, reverse}
use Rattle.std.specs.List.{flat_map, fold}
use Rattle.prod_model.specs.Forest.{line}
use Rattle.file_meaning.specs.steps.FirstDeclared.{with_new, names_of}
use Rattle.file_meaning.proofs.first_declared.first_names.Given as goal

-- the names are those of the types so far, each once
abbrev pub invariant-loop-u : goal.invariant-loop-u
invariant-loop-u g l = record {
  names : l.names ≡ fold with_new [] (flat_map (names_of g.D.Declaration.declared g.D.Declaration.name_of l.types) (take l.u-index l.u-items));
  all : l.u-items ≡ reverse (line l.types l.t);
}
