use Rattle.std.proofs.Common.{◌∙◌, arith}
use Rattle.partial_state.proofs.SharedLaws.{no_kinds_under}
use Rattle.partial_state.proofs.partial.Partial.is_none_under.Goals as goal

-- the possible types are leaves
pub returns : goal.returns
returns c =
    c.is_apart.ensures
    ∙ no_kinds_under c.args.problem.now c.args.self.now c.args.i c.leaves_under.result c.args.t c.requires c.leaves_under.ensures
    (omega (arith, c.leaves_under.type_inv))
