-- What the questions come to is the preferred conflict of the order.
use Rattle.std.proofs.Common.{◌∙◌, length, sym, subst, ap}
use Rattle.std.specs.Prelude.{IsTrue, nat_lt}
use Rattle.std.specs.List.{list_all}
use Rattle.config_value.specs.Shaped.{ascends}
use Rattle.canonical_form.specs.ConflictText.{conflict_text}
use Rattle.quickxplain.specs.Explains.{ArePlacesOfPreferred, all_of}
use Rattle.config_cli.specs.steps.Clashes.{CanBeMet}
use Rattle.config_cli.proofs.ConflictLaws.{all_clash, clash_of, clash_ascends, clash_within, clash_told}
use Rattle.config_cli.proofs.solved.clash_outcome.Goals as goal

pub clash-requires-clause-clash : goal.clash-requires-clause-clash
clash-requires-clause-clash g c =
    subst (λ a. ¬ CanBeMet (g.S.Solver.problem a.solver) (g.S.Solver.order a.solver) (all_of c.len-n.result)) (sym c.new.ensures)
    (all_clash (g.S.Solver.problem c.args.solver) (g.S.Solver.order c.args.solver) c.args.order.now c.len-n.result c.requires.order c.len-n.ensures c.requires.clash)

pub write_conflict-requires-clause-ascending : goal.write_conflict-requires-clause-ascending
write_conflict-requires-clause-ascending g c =
    let found = subst (λ a. ArePlacesOfPreferred (CanBeMet (g.S.Solver.problem a.solver) (g.S.Solver.order a.solver)) c.len-n.result c.in_ok-members.members.items) c.new.ensures c.in_ok-members.ensures in
    let clash = clash_of (g.S.Solver.problem c.args.solver) (g.S.Solver.order c.args.solver) c.args.order.now c.len-n.result c.in_ok-members.members.items c.requires.order c.len-n.ensures found in
    subst (λ ks. IsTrue (ascends ks)) (sym c.deref.ensures.value) (clash_ascends (g.S.Solver.problem c.args.solver) c.args.order.now c.in_ok-members.members.items clash)

pub write_conflict-requires-clause-within : goal.write_conflict-requires-clause-within
write_conflict-requires-clause-within g c =
    let found = subst (λ a. ArePlacesOfPreferred (CanBeMet (g.S.Solver.problem a.solver) (g.S.Solver.order a.solver)) c.len-n.result c.in_ok-members.members.items) c.new.ensures c.in_ok-members.ensures in
    let clash = clash_of (g.S.Solver.problem c.args.solver) (g.S.Solver.order c.args.solver) c.args.order.now c.len-n.result c.in_ok-members.members.items c.requires.order c.len-n.ensures found in
    subst (λ ks. IsTrue (list_all (λ k. nat_lt k (length c.args.order.now.requests)) ks)) (sym c.deref.ensures.value) (clash_within (g.S.Solver.problem c.args.solver) c.args.order.now c.in_ok-members.members.items clash)

pub returns-clause-outcome : goal.returns-clause-outcome
returns-clause-outcome g c =
    let found = subst (λ a. ArePlacesOfPreferred (CanBeMet (g.S.Solver.problem a.solver) (g.S.Solver.order a.solver)) c.len-n.result c.in_ok-members.members.items) c.new.ensures c.in_ok-members.ensures in
    let clash = clash_of (g.S.Solver.problem c.args.solver) (g.S.Solver.order c.args.solver) c.args.order.now c.len-n.result c.in_ok-members.members.items c.requires.order c.len-n.ensures found in
    clash_told (g.S.Solver.problem c.args.solver) c.args.order.now c.in_ok-members.members.items c.in_ok-write_conflict.field-0.items clash
    (c.in_ok-write_conflict.ensures ∙ ap (conflict_text c.args.order.now) c.deref.ensures.value)
