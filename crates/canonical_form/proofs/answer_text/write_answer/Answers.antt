use Rattle.std.proofs.Common.{ap, sym, subst, arith}
use Rattle.std.specs.List.{enumerate_from}
use Rattle.std.proofs.lemmas.Grind.{common_steps}
use Rattle.std.proofs.lemmas.List.{take_all}
use Rattle.std.proofs.lemmas.List.FromFn.{length-enumerate_from}
use Rattle.prod_model.specs.declared.model.Model.{Model}
use Rattle.canonical_form.specs.steps.Written.{IsWritten}
use Rattle.canonical_form.specs.AnswerText.{instance_text, answer_text}
use Rattle.canonical_form.proofs.SpelledInstances.{few_instances, written_at, numbered_at}
use Rattle.base_laws.proofs.Steps.{flat_map_take_more}
use Rattle.canonical_form.proofs.answer_text.write_answer.Goals as goal

pub overflow_cast-i-end : goal.overflow_cast-i-end
overflow_cast-i-end c = let few = few_instances c.args.problem.now c.args.c.now c.requires in omega (arith, few)

pub put_instance-requires-clause-written : goal.put_instance-requires-clause-written
put_instance-requires-clause-written c =
    subst (λ (m : Model). IsWritten m c.get.result.now) (sym c.in_ok-known.ensures.problem)
    (written_at c.args.problem.now c.args.c.now c.loop-i.i c.get.result.now c.requires c.get.ensures)

pub loop-i-preserved : goal.loop-i-preserved
loop-i-preserved c =
    let more = flat_map_take_more (instance_text c.args.problem.now) (enumerate_from 0 c.args.c.now) c.loop-i.i (c.loop-i.i, c.get.result.now)
    (numbered_at c.args.c.now c.loop-i.i c.get.result.now c.get.ensures) in
    let same = ap (λ (m : Model). instance_text m (c.loop-i.i, c.get.result.now)) c.in_ok-known.ensures.problem in
    grind (arith, common_steps)

pub returns : goal.returns
unfolding answer_text
returns c =
    let long = length-enumerate_from 0 c.args.c.now in
    let all = take_all c.loop-i.i (enumerate_from 0 c.args.c.now) (omega (arith, long)) in
    grind (arith, common_steps)
