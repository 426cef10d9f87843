use Rattle.std.proofs.Common.{◌≡◌, ◌+◌, ◌<◌, ◌∷◌, [], length, length-append, ◌∙◌, ap, refl, arith}
use Rattle.partial_state.proofs.StateChanges.{one_undone, all_undone}
use Rattle.partial_state.proofs.partial.Partial.undo.Goals as goal

-- nothing is put back yet
pub loop-log-init : goal.loop-log-init
loop-log-init c = record { within = c.requires; state = refl; kept = refl }

-- the latest entry is put back
pub loop-log-preserved : goal.loop-log-preserved
loop-log-preserved c =
    let below : c.args.len < length c.loop-log.log = omega arith in
    one_undone c.args.len c.args.self.now c.args.log.now c.loop-log.self c.put_back.new.self c.loop-log.log c.pop-entry.new.self c.pop-entry.result
    c.loop-log.invariant c.pop-entry.ensures below c.put_back.ensures

-- the log is shorter
pub loop-log-smaller : goal.loop-log-smaller
loop-log-smaller c =
    let long : length c.loop-log.log ≡ length c.pop-entry.new.self + 1 =
    ap length c.pop-entry.ensures ∙ length-append c.pop-entry.new.self (c.pop-entry.result ∷ []) in
    omega arith

-- the log has the length
pub returns : goal.returns
returns c =
    let done = all_undone c.args.len c.args.self.now c.args.log.now c.loop-log.self c.loop-log.log c.loop-log.invariant (omega arith) in
    record { state = done.0; log = done.1 }
