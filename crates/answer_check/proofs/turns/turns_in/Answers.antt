use Rattle.std.proofs.Common.{◌∙◌, ap, subst, Some, zero-add, arith}
use Rattle.std.specs.List.{flat_map, enumerate_from}
use Rattle.std.proofs.lemmas.List.{take_all}
use Rattle.std.proofs.lemmas.List.FromFn.{length-enumerate_from}
use Rattle.base_laws.proofs.Ranges.{at_enumerate}
use Rattle.answer_check.specs.steps.Turns.{HasTurns, links_from}
use Rattle.answer_check.proofs.Grown.{has_each}
use Rattle.answer_check.proofs.turns.turns_in.Goals as goal

-- the links of one instance more
pub loop-i-preserved : goal.loop-i-preserved
loop-i-preserved c =
    let at = at_enumerate 0 c.args.c.now c.loop-i.i c.get.result.now c.get.ensures ∙ ap (λ j. Some (j, c.get.result.now)) (zero-add c.loop-i.i) in
    has_each HasTurns (λ e. flat_map (links_from e.0) e.1.links) (enumerate_from 0 c.args.c.now) c.loop-i.i (c.loop-i.i, c.get.result.now) at c.loop-i.turns _ c.loop-i.invariant c.add_instance.ensures

pub returns : goal.returns
returns c =
    let all = take_all c.loop-i.i (enumerate_from 0 c.args.c.now) (omega (arith, length-enumerate_from 0 c.args.c.now)) in
    subst (λ es. HasTurns c.loop-i.turns (flat_map (λ e. flat_map (links_from e.0) e.1.links) es)) all c.loop-i.invariant
