use Rattle.std.proofs.Common.{ℕ, ◌+◌, ◌&&◌, ◌∙◌, ap, sym, subst}
use Rattle.std.proofs.lemmas.Bool.{and_parts, and_from, and_right}
use Rattle.std.specs.List.{list_all}
use Rattle.instance_set.specs.InstanceSets.{is_member}
use Rattle.instance_set.proofs.Walks.{HasFoundBelow, found_with, found_without}
use Rattle.config_value.specs.Value.{links_at_instance}
use Rattle.answer_check.proofs.linked.linking_only.Goals as goal
use Rattle.answer_check.proofs.linked.linking_only.Goals.{then-are_in, else-are_in}

pub loop-i-preserved : goal.loop-i-preserved
loop-i-preserved c =
    let passes = λ (i : ℕ). is_member c.args.among i && list_all (is_member c.args.into) (links_at_instance c.args.problem.now c.args.c.now c.args.port i) in
    let i = c.in-Some.i in
    let told = ap (list_all (is_member c.args.into)) (sym c.links_at.ensures) ∙ sym c.are_in.ensures in
    let next = HasFoundBelow passes (i + 1) in
    elim c.if-are_in.branch [
      | then-are_in w ↦
          subst next (sym w.found-is)
          (found_with passes c.args.among (λ k yes. (and_parts _ _ yes).0) c.loop-i.from i c.loop-i.found w.insert.new.self c.loop-i.invariant c.in-Some.ensures
          (and_from _ _ c.in-Some.ensures.1 (told ∙ w.if-are_in.true)) w.insert.ensures)
      | else-are_in w ↦
          subst next (sym w.found-is)
          (found_without passes c.args.among (λ k yes. (and_parts _ _ yes).0) c.loop-i.from i c.loop-i.found c.loop-i.invariant c.in-Some.ensures
          (and_right _ _ (told ∙ w.if-are_in.false)))
    ]
