use Rattle.std.proofs.Common.{rules, ◌∙◌, ap}
use borrow.Author.Tests.{tests}
use Rattle.std.specs.List.{list_all}
use Rattle.std.proofs.lemmas.Iterator.{YieldsList-from_slice}
use Rattle.std.proofs.lemmas.Iterator.Search.{all_from_yields_List}
use Rattle.state_space.specs.Made.{MadeInstance}
use Rattle.state_space.specs.State.{State}
use Rattle.state_space.specs.Whole.{is_whole_of, is_whole}
use Rattle.partial_state.proofs.partial.Partial.is_whole.Goals as goal

pub returns : goal.returns
unfolding is_whole
returns c =
    all_from_yields_List (λ (x : MadeInstance). is_whole_of c.args.self.now x x.kinds) _ _ _ c.all.ensures.ran
    (YieldsList-from_slice c.self.inside.made.items cc) (λ x b q k. search (rules, tests))
    ∙ ap (λ (s : State). list_all (λ x. is_whole_of c.args.self.now x x.kinds) s.made) c.self.view_is
