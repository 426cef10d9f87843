use Rattle.std.proofs.Common.{◌≡◌, ◌∙◌, ap, sym, subst, List}
use Rattle.std.specs.Prelude.{IsTrue}
use Rattle.std.specs.Option.{option_map}
use Rattle.std.specs.List.{list_all}
use Rattle.prod_model.specs.Forest.{is_leaf}
use Rattle.state_space.specs.Made.{MadeInstance}
use Rattle.state_space.specs.State.{State}
use Rattle.state_space.specs.Generation.{PortOf, first_open, first_open_from}
use Rattle.partial_state.proofs.OpenPorts.{all_leaves}
use Rattle.partial_state.proofs.partial.Partial.first_open.Goals as goal

-- each possible type is a leaf
pub first_of-requires-clause-leaves : goal.first_of-requires-clause-leaves
first_of-requires-clause-leaves c =
    let AreLeaves : List MadeInstance → Type 0 = λ xs. IsTrue (list_all (λ x. list_all (is_leaf c.args.problem.now) x.kinds) xs) in
    let rows : c.as_slice.result.now ≡ c.args.self.now.made = c.as_slice.ensures.value ∙ ap (λ (s : State). s.made) c.self.view_is in
    subst AreLeaves (sym rows) (all_leaves c.args.problem.now c.args.self.now c.requires)

pub returns : goal.returns
unfolding first_open
returns c =
    let rows : c.as_slice.result.now ≡ c.args.self.now.made = c.as_slice.ensures.value ∙ ap (λ (s : State). s.made) c.self.view_is in
    c.first_of.ensures ∙ ap (λ xs. option_map (λ (at : PortOf). (at.instance, at.port)) (first_open_from c.args.problem.now 0 xs)) rows
