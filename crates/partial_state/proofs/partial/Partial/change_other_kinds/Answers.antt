use Rattle.std.proofs.Common.{◌==◌, not}
use Rattle.std.specs.Int.{bit_at, bit_not, w128}
use Rattle.prod_model.specs.Forest.{is_a}
use Rattle.partial_state.proofs.KindTests.{kinds_alike, possible_leaf, other_leaf_tested}
use Rattle.partial_state.proofs.partial.Partial.change_other_kinds.Goals as goal

-- the other bits say of each possible type whether it is not under the type
pub returns-clause-changed : goal.returns-clause-changed
returns-clause-changed c =
    let m = c.args.problem.now in
    let s = c.args.self.now in
    let mask = c.leaves_under-mask.result in
    kinds_alike c.args.i (λ u. bit_at (bit_not w128 mask) u == 1) (λ u. not (is_a m u c.args.t)) c.in_ok-change.change s c.change_kinds.new.self c.args.log.now c.change_kinds.new.log
    (λ u there. let is = possible_leaf m s c.args.i u c.requires.state there in
    other_leaf_tested m mask c.args.t u c.leaves_under-mask.ensures is.0 c.leaves_under-mask.type_inv is.1)
    c.in_ok-change.ensures.changed
