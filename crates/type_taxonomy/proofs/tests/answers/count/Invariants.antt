use Rattle.std.proofs.Common.{◌≡◌, length, take, sum_by}
use Rattle.type_taxonomy.proofs.tests.answers.count.Given as goal

abbrev pub invariant-loop-decl : goal.invariant-loop-decl
invariant-loop-decl g l = l.number ≡ sum_by (λ d. length (g.D.Declaration.declared d)) (take l.decl-index l.types)
