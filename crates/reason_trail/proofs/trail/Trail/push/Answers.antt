use Rattle.std.proofs.Common.{◌≡◌, ◌≢◌, subst, sym, rules, arith}
use Rattle.std.specs.Prelude.{IsTrue}
use Rattle.std.proofs.lemmas.Grind.{common_steps}
use Rattle.domain_store.specs.declared.change.Change.TheVariants.{Smaller}
use Rattle.state_space.specs.State.{IsState}
use Rattle.state_space.specs.Entails.{fits}
use Rattle.state_space.specs.Changes.{ChangesBy}
use Rattle.reason_trail.specs.Reasons.{IsWhy}
use Rattle.reason_trail.specs.Trails.{Trace}
use Rattle.reason_trail.specs.steps.Marks.{trace_of}
use Rattle.reason_trail.proofs.Trails.{now_is_state}
use Rattle.reason_trail.proofs.TrailPushes.{same_kept, same_is_pushed, smaller_kept, smaller_is_pushed}
use Rattle.reason_trail.proofs.trail.Trail.push.Goals as goal

-- the state that a trail has come to is one of its problem
pub change-requires-clause-state : goal.change-requires-clause-state
change-requires-clause-state c =
    subst (λ m. IsState m c.self.inside.state) (sym c.problem.ensures.problem)
    (now_is_state (trace_of c.self.inside.job c.self.inside.state c.self.inside.log c.self.inside.entries.items) c.self.invariant.trail)

-- unless less is left nothing changes
pub invariant_of-self-then-ne : goal.invariant_of-self-then-ne
invariant_of-self-then-ne c =
    let other : c.in_ok-change.change ≢ Smaller = search rules in
    same_kept c.self.inside.job c.self.inside.root c.self.inside.state c.change.new.self c.self.inside.log c.change.new.log c.self.inside.entries.items c.self.invariant
    c.in_ok-change.ensures.logged (c.in_ok-change.ensures.same (λ e. other cc))

-- so the trail is the one before
pub returns-then-ne-clause-pushed : goal.returns-then-ne-clause-pushed
returns-then-ne-clause-pushed c =
    let other : c.in_ok-change.change ≢ Smaller = search rules in
    let fit = subst (λ (t : Trace). IsTrue (fits t.job.model t.state c.args.l)) (sym c.self.view_is) c.requires.fits in
    rw (← c.self.view_is)
    (same_is_pushed c.self.inside.job c.self.inside.root c.self.inside.state c.change.new.self c.self.inside.log c.change.new.log c.self.inside.entries.items c.self.invariant
    c.in_ok-change.ensures.logged c.args.l c.args.why fit c.problem.result.now c.problem.ensures.problem c.in_ok-change.change c.in_ok-change.ensures.changed other
    (c.in_ok-change.ensures.same (λ e. other cc)))

-- where less is left there is one entry more
pub invariant_of-self-in_default : goal.invariant_of-self-in_default
invariant_of-self-in_default c =
    let smaller : c.in_ok-change.change ≡ Smaller = grind (arith, common_steps) in
    let fit = subst (λ (t : Trace). IsTrue (fits t.job.model t.state c.args.l)) (sym c.self.view_is) c.requires.fits in
    let because = subst (λ (t : Trace). IsWhy t.job t.state c.args.l c.args.why) (sym c.self.view_is) c.requires.because in
    let changed = subst (λ r. ChangesBy c.problem.result.now c.args.l r c.self.inside.state c.change.new.self) smaller c.in_ok-change.ensures.changed in
    rw (c.in_default.ensures.added, c.len-mark.ensures)
    (smaller_kept c.self.inside.job c.self.inside.root c.self.inside.state c.change.new.self c.self.inside.log c.change.new.log c.self.inside.entries.items c.self.invariant
    c.in_ok-change.ensures.logged c.args.l c.args.why fit c.problem.result.now c.problem.ensures.problem changed because
    (rw (c.in_default.ensures.added, c.len-mark.ensures) at c.in_default.ensures.few))

-- and that entry is the one that it was asked for
pub returns-clause-pushed : goal.returns-clause-pushed
returns-clause-pushed c =
    let smaller : c.in_ok-change.change ≡ Smaller = grind (arith, common_steps) in
    let fit = subst (λ (t : Trace). IsTrue (fits t.job.model t.state c.args.l)) (sym c.self.view_is) c.requires.fits in
    let changed = subst (λ r. ChangesBy c.problem.result.now c.args.l r c.self.inside.state c.change.new.self) smaller c.in_ok-change.ensures.changed in
    rw (← c.self.view_is, c.in_default.ensures.added, c.len-mark.ensures, smaller)
    (smaller_is_pushed c.self.inside.job c.self.inside.root c.self.inside.state c.change.new.self c.self.inside.log c.change.new.log c.self.inside.entries.items c.self.invariant
    c.in_ok-change.ensures.logged c.args.l c.args.why fit c.problem.result.now c.problem.ensures.problem changed)
