use Rattle.std.proofs.Common.{rules, ◌≡◌, ◌∙◌, ap, sym, to_z, of_z, w64, pos}
use Rattle.std.specs.Prelude.{IsTrue}
use Rattle.domain_store.specs.Intervals.{are_intervals}
use Rattle.domain_store.proofs.Removal.{shown_absent, shown_present, shown_removed, shown_formed, number_absent, only_number}
use Rattle.domain_store.proofs.int_domain.IntDomain.remove.Goals as goal

-- no interval has the number
pub returns-in_default-clause-narrowed : goal.returns-in_default-clause-narrowed
returns-in_default-clause-narrowed c =
    let shown : to_z w64 (of_z w64 c.args.n) ≡ c.args.n = search rules in
    let seen : c.self.inside.intervals.items ≡ c.args.self.now = search rules in
    let formed : IsTrue (are_intervals c.args.self.now) = search rules in
    number_absent c.args.n c.args.self.now formed (shown_absent c.args.n _ c.args.self.now c.as_slice.result.now c.place_of.result shown (c.as_slice.ensures ∙ seen) c.in_default.is c.place_of.ensures)

-- the least number is the greatest
pub returns-then-low-high-clause-narrowed : goal.returns-then-low-high-clause-narrowed
returns-then-low-high-clause-narrowed c =
    let shown : to_z w64 (of_z w64 c.args.n) ≡ c.args.n = search rules in
    let seen : c.self.inside.intervals.items ≡ c.args.self.now = search rules in
    let low : to_z w64 (of_z w64 c.low.result) ≡ c.low.result = search rules in
    let high : to_z w64 (of_z w64 c.high.result) ≡ c.high.result = search rules in
    only_number c.args.n c.args.self.now c.low.result c.high.result c.low.ensures.least c.high.ensures (sym low ∙ ap (to_z w64) c.if-low-high.true ∙ high)
    (shown_present c.args.n _ c.args.self.now c.as_slice.result.now c.in-Some.at (record { low = pos 0; high = pos 0 }) c.place_of.result shown (c.as_slice.ensures ∙ seen) c.in-Some.is c.place_of.ensures)

-- another number is left
pub invariant_of-self-2 : goal.invariant_of-self-2
invariant_of-self-2 c =
    let shown : to_z w64 (of_z w64 c.args.n) ≡ c.args.n = search rules in
    let seen : c.self.inside.intervals.items ≡ c.args.self.now = search rules in
    shown_formed c.args.n _ c.args.self.now c.as_slice.result.now c.in-Some.at _ c.place_of.result shown (c.as_slice.ensures ∙ seen) c.in-Some.is c.place_of.ensures
    c.self.inside.intervals.items c.as_slice-2.result.now c.take_out.new.list.items seen c.as_slice-2.ensures c.low.ensures.formed c.low.result c.high.result c.low.ensures.least c.high.ensures (λ e. c.if-low-high.false (ap (of_z w64) e)) c.in_ok-take_out.ensures.ok

pub returns-clause-narrowed : goal.returns-clause-narrowed
returns-clause-narrowed c =
    let shown : to_z w64 (of_z w64 c.args.n) ≡ c.args.n = search rules in
    let seen : c.self.inside.intervals.items ≡ c.args.self.now = search rules in
    shown_removed c.args.n _ c.args.self.now c.as_slice.result.now c.in-Some.at _ c.place_of.result shown (c.as_slice.ensures ∙ seen) c.in-Some.is c.place_of.ensures
    c.self.inside.intervals.items c.as_slice-2.result.now c.take_out.new.list.items seen c.as_slice-2.ensures c.low.ensures.formed c.low.result c.high.result c.low.ensures.least c.high.ensures (λ e. c.if-low-high.false (ap (of_z w64) e)) c.in_ok-take_out.ensures.ok

pub returns-clause-formed : goal.returns-clause-formed
returns-clause-formed c =
    let shown : to_z w64 (of_z w64 c.args.n) ≡ c.args.n = search rules in
    let seen : c.self.inside.intervals.items ≡ c.args.self.now = search rules in
    shown_formed c.args.n _ c.args.self.now c.as_slice.result.now c.in-Some.at _ c.place_of.result shown (c.as_slice.ensures ∙ seen) c.in-Some.is c.place_of.ensures
    c.self.inside.intervals.items c.as_slice-2.result.now c.take_out.new.list.items seen c.as_slice-2.ensures c.low.ensures.formed c.low.result c.high.result c.low.ensures.least c.high.ensures (λ e. c.if-low-high.false (ap (of_z w64) e)) c.in_ok-take_out.ensures.ok
