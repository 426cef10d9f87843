use Rattle.std.proofs.Common.{sym, ◌∙◌, ap, arith, ◌<◌}
use Rattle.reason_trail.specs.Trails.{length_of}
use Rattle.conflict_learn.proofs.Entries.{one_assumed, none_assumed}
use Rattle.conflict_learn.proofs.assumptions.assumed.Goals as goal
use Rattle.conflict_learn.proofs.assumptions.assumed.Goals.{in-Some+in_ok-push, in_default}

-- an assumed literal comes behind the earlier ones
pub loop-n-preserved : goal.loop-n-preserved
loop-n-preserved c =
    let t = c.args.trail.now in
    let e = c.entry.result.now in
    let within : c.loop-n.n < length_of t = omega arith in
    elim c.match-assumed_by.branch [
      | in-Some+in_ok-push w ↦
          ap (λ v. v.items) w.literals-is ∙ (w.in_ok-push.ensures.items
          ∙ one_assumed t c.loop-n.n e w.in-Some.literal c.loop-n.literals.items within c.entry.ensures.entry
          (sym c.assumed_by.ensures ∙ w.in-Some.is) c.loop-n.invariant)
      | in_default w ↦
          ap (λ v. v.items) w.literals-is
          ∙ none_assumed t c.loop-n.n e c.loop-n.literals.items within c.entry.ensures.entry
          (sym c.assumed_by.ensures ∙ w.in_default.is) c.loop-n.invariant
    ]
