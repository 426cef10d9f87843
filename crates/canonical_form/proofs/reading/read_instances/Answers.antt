use Rattle.std.proofs.Common.{◌≢◌, [], sym, subst, ◌∙◌, eqb-true, eq-eqb, arith}
use Rattle.std.proofs.lemmas.Bool.{false≢true}
use Rattle.prod_model.specs.Limits.{most_instances}
use Rattle.canonical_form.specs.steps.Grammar.{at_number}
use Rattle.canonical_form.specs.steps.Reading.{Refuses}
use Rattle.canonical_form.proofs.LineSteps.{refused_behind, same_refusal}
use Rattle.canonical_form.proofs.LinesSteps.{instances_more, instances_read, instances_stop, no_length}
use Rattle.canonical_form.proofs.reading.read_instances.Goals as goal
use Rattle.canonical_form.proofs.reading.read_instances.Goals.{then-number-eq0, else-number-eq0+then-not-is_empty}

pub returns-then-is_full-clause-refused : goal.returns-then-is_full-clause-refused
returns-then-is_full-clause-refused c =
    let m = c.args.known.now.problem.now in
    let full = eqb-true c.loop-number.number most_instances (sym c.is_full.ensures ∙ c.if-is_full.true) in
    let some : c.loop-number.rest.now ≢ [] = elim c.if-number-eq0.branch [
      | then-number-eq0 w ↦ λ e. let none = w.if-number-eq0.true in absurd (omega arith)
      | else-number-eq0+then-not-is_empty w ↦ λ e. no_length c.loop-number.rest.now e (sym w.is_empty.ensures ∙ w.if-not-is_empty.true)
    ] in
    subst (Refuses m (at_number 0) c.args.bytes.now) (sym c.at.ensures)
    (instances_stop m c.loop-number.number c.args.bytes.now c.loop-number.instances c.loop-number.rest.now full c.loop-number.invariant some)

pub returns-in_err-instance-clause-refused : goal.returns-in_err-instance-clause-refused
returns-in_err-instance-clause-refused c =
    let m = c.args.known.now.problem.now in
    let e = c.in_err-instance.field-0.0 in
    same_refusal c.from_residual.result e (Refuses m (at_number 0) c.args.bytes.now) c.from_residual.ensures.1
    (refused_behind m (at_number 0) (at_number c.loop-number.number) c.args.bytes.now c.loop-number.rest.now e
    (instances_read m c.loop-number.number c.args.bytes.now c.loop-number.instances c.loop-number.rest.now c.loop-number.invariant) c.in_err-instance.ensures.refused)

pub loop-number-preserved : goal.loop-number-preserved
loop-number-preserved c =
    let most = c.loop-number.invariant.few in
    let other : c.loop-number.number ≢ most_instances = λ same. false≢true (sym c.if-is_full.false ∙ c.is_full.ensures ∙ eq-eqb c.loop-number.number most_instances same) in
    instances_more c.args.known.now.problem.now c.loop-number.number c.args.bytes.now c.loop-number.instances c.loop-number.rest.now c.in_ok-instance.instance c.in_ok-instance.after.now c.push.new.self (omega arith)
    c.loop-number.invariant c.in_ok-instance.ensures.read c.in_ok-push.ensures.ok
