use Rattle.std.proofs.Common.{◌==◌}
use Rattle.std.specs.Int.{bit_at}
use Rattle.prod_model.specs.Forest.{is_a}
use Rattle.partial_state.proofs.KindTests.{kinds_alike, possible_leaf, leaf_tested}
use Rattle.partial_state.proofs.partial.Partial.change_kind.Goals as goal

-- the mask says of each possible type, since these are leaves, whether it is under the type
pub returns-clause-changed : goal.returns-clause-changed
returns-clause-changed c =
    let m = c.args.problem.now in
    let s = c.args.self.now in
    let mask = c.leaves_under-mask.result in
    kinds_alike c.args.i (λ u. bit_at mask u == 1) (λ u. is_a m u c.args.t) c.in_ok-change.change s c.change_kinds.new.self c.args.log.now c.change_kinds.new.log
    (λ u there. leaf_tested m mask c.args.t u c.leaves_under-mask.ensures (possible_leaf m s c.args.i u c.requires.state there).0)
    c.in_ok-change.ensures.changed
