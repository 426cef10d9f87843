use Rattle.std.proofs.Common.{◌∙◌, ◌==◌, ◌||◌, nat_lt, ap}
use Rattle.std.specs.List.{list_all, list_any}
use Rattle.instance_set.specs.InstanceSets.{is_member}
use Rattle.config_value.proofs.SpelledLaws.{shaped_is_spelled}
use Rattle.answer_check.proofs.LinkedLaws.{links_low, linked_next, linked_all}
use Rattle.answer_check.proofs.linked.linked_from.Goals as goal

-- a set has a place for each link of a configuration
pub with_links-linked-requires : goal.with_links-linked-requires
with_links-linked-requires c =
    ap (list_all (λ j. nat_lt j 256)) c.links_at.ensures
    ∙ links_low c.args.problem.now c.args.c.now (shaped_is_spelled c.args.problem.now c.args.c.now c.requires.valid.declared c.requires.shaped) c.args.port c.in-Some.i

pub loop-i-preserved : goal.loop-i-preserved
loop-i-preserved c =
    linked_next c.args.problem.now c.args.c.now c.args.port c.args.among c.loop-i.linked c.loop-i.from c.loop-i.invariant c.in-Some.i c.with_links-linked.result c.in-Some.ensures
    (λ j. c.with_links-linked.ensures j ∙ ap (λ links. is_member c.loop-i.linked j || list_any (λ k. k == j) links) c.links_at.ensures)

pub returns : goal.returns
returns c = linked_all c.args.problem.now c.args.c.now c.args.port c.args.among c.loop-i.linked c.loop-i.from c.loop-i.invariant c.in_default.ensures
