use Rattle.std.proofs.Common.{take}
use Rattle.std.specs.Prelude.{IsTrue}
use Rattle.std.specs.List.{list_all}
use Rattle.prod_model.specs.Taxonomy.{ports_at}
use Rattle.branch_cut.specs.steps.Fixed.{is_decided_at}
use Rattle.branch_cut.proofs.choosing.port_branch.Given as goal

-- the ports so far are decided
abbrev pub invariant-loop-port : goal.invariant-loop-port
invariant-loop-port l =
    IsTrue (list_all (λ q. is_decided_at l.p l.i q.id) (take l.port-index (ports_at l.problem l.kind)))
