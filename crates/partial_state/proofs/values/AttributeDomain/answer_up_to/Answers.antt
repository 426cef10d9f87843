use Rattle.std.proofs.Common.{rules, ◌≡◌, to_z, of_z, w64, arith}
use Rattle.std.proofs.lemmas.Int.{ints}
use Rattle.state_space.specs.Values.{least, greatest}
use Rattle.partial_state.proofs.CutAnswers.{up_to_all, up_to_none, up_to_some}
use Rattle.partial_state.proofs.values.AttributeDomain.answer_up_to.Goals as goal

-- the greatest value stays
pub returns-then-high-n : goal.returns-then-high-n
returns-then-high-n c =
    let shown : to_z w64 (of_z w64 c.args.n) ≡ c.args.n = search rules in
    let low : to_z w64 (of_z w64 c.low-low.result) ≡ c.low-low.result = search rules in
    let high : to_z w64 (of_z w64 c.high-high.result) ≡ c.high-high.result = search rules in
    let first : c.low-low.result ≡ least c.args.self.now = c.low-low.ensures.least in
    let last : c.high-high.result ≡ greatest c.args.self.now = c.high-high.ensures in
    up_to_all c.args.self.now c.args.n c.low-low.ensures.formed (omega (arith, ints))

-- the least value goes
pub returns-then-n-low : goal.returns-then-n-low
returns-then-n-low c =
    let shown : to_z w64 (of_z w64 c.args.n) ≡ c.args.n = search rules in
    let low : to_z w64 (of_z w64 c.low-low.result) ≡ c.low-low.result = search rules in
    let high : to_z w64 (of_z w64 c.high-high.result) ≡ c.high-high.result = search rules in
    let first : c.low-low.result ≡ least c.args.self.now = c.low-low.ensures.least in
    let last : c.high-high.result ≡ greatest c.args.self.now = c.high-high.ensures in
    up_to_none c.args.self.now c.args.n c.low-low.ensures.formed (omega (arith, ints))

-- the greatest goes and the least stays
pub returns : goal.returns
returns c =
    let shown : to_z w64 (of_z w64 c.args.n) ≡ c.args.n = search rules in
    let low : to_z w64 (of_z w64 c.low-low.result) ≡ c.low-low.result = search rules in
    let high : to_z w64 (of_z w64 c.high-high.result) ≡ c.high-high.result = search rules in
    let first : c.low-low.result ≡ least c.args.self.now = c.low-low.ensures.least in
    let last : c.high-high.result ≡ greatest c.args.self.now = c.high-high.ensures in
    up_to_some c.args.self.now c.args.n c.low-low.ensures.formed (omega (arith, ints)) (omega (arith, ints))
