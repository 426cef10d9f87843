use Rattle.std.proofs.Common.{rules, ◌≡◌, ◌∙◌, sym, to_z, of_z, w64}
use Rattle.domain_store.proofs.Intervals.{high_read}
use Rattle.domain_store.proofs.int_domain.last_high.Goals as goal

-- the last interval stands at the last place
pub returns-in-Some : goal.returns-in-Some
returns-in-Some c =
    let kept : to_z w64 (of_z w64 c.in-Some.last.now.high) ≡ c.in-Some.last.now.high = search rules in
    kept ∙ sym (high_read c.args.intervals.now c.in-Some.last.now (sym c.in-Some.ensures.value))
