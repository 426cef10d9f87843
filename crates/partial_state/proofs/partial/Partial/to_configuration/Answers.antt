use Rattle.std.proofs.Common.{◌≡◌, ◌∙◌}
use Rattle.state_space.specs.Whole.{whole_configuration}
use Rattle.state_space.proofs.WholeCovered.{whole_covers_one}
use Rattle.partial_state.proofs.partial.Partial.to_configuration.Goals as goal

-- a whole state covers its configuration
pub returns-clause-covered : goal.returns-clause-covered
returns-clause-covered c =
    let m = c.args.problem.now in
    let s = c.args.self.now in
    let left : c.from_list.result ≡ whole_configuration m s = c.from_list.ensures ∙ c.in_ok-instances.ensures in
    ((whole_covers_one m s c.from_list.result c.model.ensures.valid c.requires.state c.requires.whole).1 left).0
