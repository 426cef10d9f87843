use Rattle.std.proofs.Common.{ℕ, ◌+◌, ◌&&◌, ◌∙◌, sym, subst}
use Rattle.std.proofs.lemmas.Bool.{and_parts, and_from, and_right}
use Rattle.instance_set.specs.InstanceSets.{is_member}
use Rattle.instance_set.proofs.Walks.{HasFoundBelow, found_with, found_without}
use Rattle.state_values.specs.steps.Truths.{links_only}
use Rattle.state_values.proofs.LinkableLaws.{only_stored}
use Rattle.state_values.proofs.links.linking_only.Goals as goal
use Rattle.state_values.proofs.links.linking_only.Goals.{then-links_only, else-links_only}

pub loop-i-preserved : goal.loop-i-preserved
loop-i-preserved c =
    let passes = λ (i : ℕ). is_member c.args.among i && links_only c.args.p.now c.args.port i c.args.into in
    let i = c.in-Some.i in
    let told = only_stored c.args.p.now i c.args.port c.port.result c.port.ensures.links c.args.into ∙ sym c.links_only.ensures in
    let next = HasFoundBelow passes (i + 1) in
    elim c.if-links_only.branch [
      | then-links_only w ↦
          subst next (sym w.found-is)
          (found_with passes c.args.among (λ k yes. (and_parts _ _ yes).0) c.loop-i.from i c.loop-i.found w.insert.new.self c.loop-i.invariant c.in-Some.ensures
          (and_from _ _ c.in-Some.ensures.1 (told ∙ w.if-links_only.true)) w.insert.ensures)
      | else-links_only w ↦
          subst next (sym w.found-is)
          (found_without passes c.args.among (λ k yes. (and_parts _ _ yes).0) c.loop-i.from i c.loop-i.found c.loop-i.invariant c.in-Some.ensures
          (and_right _ _ (told ∙ w.if-links_only.false)))
    ]
