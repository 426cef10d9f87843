use Rattle.std.proofs.Common.{ℕ, ◌+◌, ◌&&◌, ◌∙◌, sym, subst}
use Rattle.std.proofs.lemmas.Bool.{and_parts, and_from, and_right}
use Rattle.instance_set.specs.InstanceSets.{is_member}
use Rattle.instance_set.proofs.Walks.{HasFoundBelow, found_with, found_without}
use Rattle.state_values.specs.Sights.{is_surely_under}
use Rattle.state_values.proofs.links.surely_among.Goals as goal
use Rattle.state_values.proofs.links.surely_among.Goals.{then-is_surely_under, else-is_surely_under}

pub loop-j-preserved : goal.loop-j-preserved
loop-j-preserved c =
    let passes = λ (j : ℕ). is_member c.args.among j && is_surely_under c.args.problem.now c.args.p.now c.args.kind j in
    let j = c.in-Some.j in
    let next = HasFoundBelow passes (j + 1) in
    elim c.if-is_surely_under.branch [
      | then-is_surely_under w ↦
          subst next (sym w.found-is)
          (found_with passes c.args.among (λ k yes. (and_parts _ _ yes).0) c.loop-j.from j c.loop-j.found w.insert.new.self c.loop-j.invariant c.in-Some.ensures
          (and_from _ _ c.in-Some.ensures.1 (sym c.is_surely_under.ensures ∙ w.if-is_surely_under.true)) w.insert.ensures)
      | else-is_surely_under w ↦
          subst next (sym w.found-is)
          (found_without passes c.args.among (λ k yes. (and_parts _ _ yes).0) c.loop-j.from j c.loop-j.found c.loop-j.invariant c.in-Some.ensures
          (and_right _ _ (sym c.is_surely_under.ensures ∙ w.if-is_surely_under.false)))
    ]
