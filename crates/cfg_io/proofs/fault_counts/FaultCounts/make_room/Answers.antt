use Rattle.std.proofs.Common.{◌≡◌, ◌∙◌, sym, ap, ℕ, List}
use Rattle.std.specs.Prelude.{is_some}
use Rattle.cfg_io.specs.steps.Counts.{is_kept}
use Rattle.cfg_io.specs.FaultCounts.{counts_of}
use Rattle.cfg_io.proofs.KeptCounts.{kept_at, room_behind, room_kept}
use Rattle.cfg_io.proofs.fault_counts.FaultCounts.make_room.Goals as goal

-- the new count stands behind the others
pub returns-in_ok-push-clause-ok : goal.returns-in_ok-push-clause-ok
returns-in_ok-push-clause-ok c =
    let kept : is_some c.place_of.result ≡ is_kept c.args.name.now (counts_of c.args.self.now) =
    kept_at _ _ _ _ c.deref.ensures.value c.place_of.ensures in
    let new = ap (λ (n : List ℕ). (n, 0)) c.in_ok-name.ensures.ok in
    rw c.in_ok-push.ensures.items (room_behind _ _ _ (sym kept ∙ c.if-is_none.ensures) new)

-- the name had a count before
pub returns-else-is_none-clause-ok : goal.returns-else-is_none-clause-ok
returns-else-is_none-clause-ok c =
    let kept : is_some c.place_of.result ≡ is_kept c.args.name.now (counts_of c.args.self.now) =
    kept_at _ _ _ _ c.deref.ensures.value c.place_of.ensures in
    room_kept _ _ (sym kept ∙ c.if-is_none.ensures)
