use Rattle.std.proofs.Common.{rules, ◌≡◌, ◌∙◌, sym, ap, to_z, of_z, w64, false}
use Rattle.std.specs.Prelude.{IsTrue}
use Rattle.state_space.specs.Values.{has_value, least, greatest}
use Rattle.partial_state.proofs.CutAnswers.{without_absent, without_only, without_some}
use Rattle.partial_state.proofs.values.AttributeDomain.answer_without.Goals as goal

-- it is none of the values
pub returns-then-not-contains : goal.returns-then-not-contains
returns-then-not-contains c =
    let shown : to_z w64 (of_z w64 c.args.n) ≡ c.args.n = search rules in
    let none : has_value c.args.self.now c.args.n ≡ false = (simp shown at (sym c.contains.ensures)) ∙ c.if-not-contains.true in
    without_absent c.args.self.now c.args.n c.low-low.ensures.formed none

-- it is the only one
pub returns-then-low-high : goal.returns-then-low-high
returns-then-low-high c =
    let shown : to_z w64 (of_z w64 c.args.n) ≡ c.args.n = search rules in
    let low : to_z w64 (of_z w64 c.low-low.result) ≡ c.low-low.result = search rules in
    let high : to_z w64 (of_z w64 c.high-high.result) ≡ c.high-high.result = search rules in
    let first : c.low-low.result ≡ least c.args.self.now = c.low-low.ensures.least in
    let last : c.high-high.result ≡ greatest c.args.self.now = c.high-high.ensures in
    let there : IsTrue (has_value c.args.self.now c.args.n) = (simp shown at (sym c.contains.ensures)) ∙ c.if-not-contains.false in
    without_only c.args.self.now c.args.n c.low-low.ensures.formed (sym first ∙ (sym low ∙ (ap (to_z w64) c.if-low-high.true ∙ (high ∙ last)))) there

-- there is another
pub returns : goal.returns
returns c =
    let shown : to_z w64 (of_z w64 c.args.n) ≡ c.args.n = search rules in
    let first : c.low-low.result ≡ least c.args.self.now = c.low-low.ensures.least in
    let last : c.high-high.result ≡ greatest c.args.self.now = c.high-high.ensures in
    let there : IsTrue (has_value c.args.self.now c.args.n) = (simp shown at (sym c.contains.ensures)) ∙ c.if-not-contains.false in
    without_some c.args.self.now c.args.n c.low-low.ensures.formed (λ e. c.if-low-high.false (ap (of_z w64) (first ∙ (e ∙ sym last)))) there
