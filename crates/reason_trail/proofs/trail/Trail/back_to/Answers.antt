use Rattle.std.proofs.Common.{◌<◌, length, ap, refl, arith}
use Rattle.std.proofs.lemmas.List.{length-map}
use Rattle.std.proofs.lemmas.Option.{slice_get_read}
use Rattle.base_laws.specs.Places.{IsAt}
use Rattle.reason_trail.specs.Trails.{length_of}
use Rattle.reason_trail.specs.steps.Marks.{stage_of}
use Rattle.reason_trail.proofs.TrailMarks.{cut_kept, trace_of-cut_to}
use Rattle.reason_trail.proofs.trail.Trail.back_to.Goals as goal

-- what is kept of it is what was kept before the entry
pub invariant_of-self : goal.invariant_of-self
invariant_of-self c =
    let within : c.args.len < length c.self.inside.entries.items =
    omega (arith, ap length_of c.self.view_is, length-map c.self.inside.entries.items (stage_of c.self.inside.log c.self.inside.state)) in
    let at : IsAt c.self.inside.entries.items c.args.len c.index.result.now =
    slice_get_read c.self.inside.entries.items (length c.self.inside.entries.items) c.args.len c.index.result.now refl within c.index.ensures in
    rw (c.undo.ensures.state, c.undo.ensures.log, c.truncate.ensures.items)
    (cut_kept c.self.inside.log c.self.inside.entries.items c.self.invariant.marks c.args.len c.index.result.now at c.self.inside.job c.self.inside.root c.self.inside.state c.self.invariant)

-- so it is the trail before the entry
pub returns : goal.returns
returns c =
    let within : c.args.len < length c.self.inside.entries.items =
    omega (arith, ap length_of c.self.view_is, length-map c.self.inside.entries.items (stage_of c.self.inside.log c.self.inside.state)) in
    let at : IsAt c.self.inside.entries.items c.args.len c.index.result.now =
    slice_get_read c.self.inside.entries.items (length c.self.inside.entries.items) c.args.len c.index.result.now refl within c.index.ensures in
    rw (c.undo.ensures.state, c.undo.ensures.log, c.truncate.ensures.items, ← c.self.view_is)
    (trace_of-cut_to c.self.inside.log c.self.inside.entries.items c.self.invariant.marks c.args.len c.index.result.now at c.self.inside.job c.self.inside.state)
