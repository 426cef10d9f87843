use Rattle.std.proofs.Common.{◌<◌, subst, sym}
use Rattle.reason_trail.specs.Reasons.{IsWhy}
use Rattle.reason_trail.specs.Trails.{Trace, length_of, state_at}
use Rattle.reason_trail.proofs.TrailMarks.{kept_because}
use Rattle.reason_trail.proofs.trail.Trail.entry.Goals as goal

-- what was kept for the entry tells why its literal holds
pub returns-clause-because : goal.returns-clause-because
returns-clause-because c =
    let within = subst (λ (t : Trace). c.args.n < length_of t) (sym c.self.view_is) c.requires in
    subst (λ (t : Trace). IsWhy t.job (state_at t c.args.n) c.index.result.now.entry.literal c.index.result.now.entry.why) c.self.view_is
    (kept_because c.self.inside.job c.self.inside.state c.self.inside.log c.self.inside.entries.items c.args.n c.index.result.now c.self.invariant.trail within c.index.ensures)
