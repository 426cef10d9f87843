use Rattle.std.proofs.Common.{◌≡◌, ◌∙◌, sym, ap, true, rules, string_bytes}
use Rattle.std.specs.Prelude.{is_some}
use Rattle.cfg_io.specs.declared.fault_counts.FaultCount.{FaultCount}
use Rattle.cfg_io.specs.Causes.{raised}
use Rattle.cfg_io.specs.steps.Counts.{is_kept}
use Rattle.cfg_io.specs.FaultCounts.{counts_of}
use Rattle.cfg_io.proofs.KeptCounts.{kept_at, fault_at_place}
use Rattle.cfg_io.proofs.fault_counts.FaultCounts.raise.Goals as goal

-- a kept name has a place
pub unwrap-place-requires : goal.unwrap-place-requires
unwrap-place-requires c =
    let kept : is_some c.place_of.result ≡ is_kept c.args.name.now (counts_of c.args.self.now) =
    kept_at _ _ _ _ c.deref.ensures.value c.place_of.ensures in
    let found : is_some c.place_of.result ≡ true = kept ∙ c.requires in
    search rules

-- the count at that place is the one that rose
pub returns : goal.returns
returns c =
    let at_place = ap (λ (n : FaultCount). (string_bytes n.name, raised n.times)) c.index_mut-count.ensures.value in
    fault_at_place _ _ _ _ _ c.index_mut-count.result.now c.deref.ensures.value
    (sym c.unwrap-place.ensures ∙ c.place_of.ensures) (rw c.saturating_add-count.ensures at_place)
