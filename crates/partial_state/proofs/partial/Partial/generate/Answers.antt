use Rattle.std.proofs.Common.{rules, ◌≡◌, sym, subst}
use Rattle.state_space.specs.State.{IsState}
use Rattle.state_space.specs.Generation.{generated}
use Rattle.state_space.proofs.GenerationState.{generation_keeps_state}
use Rattle.partial_state.specs.steps.Generated.{IsFirst}
use Rattle.partial_state.proofs.NextInstances.{room_left, generated_first}
use Rattle.partial_state.proofs.partial.Partial.generate.Goals as goal

pub make_for-requires-clause-room : goal.make_for-requires-clause-room
make_for-requires-clause-room c = room_left c.args.problem.now c.args.self.now c.model-model.ensures.valid c.requires.room

-- the next instance is made for the first open port
pub returns-clause-made : goal.returns-clause-made
returns-clause-made c =
    let first : IsFirst c.args.problem.now c.args.self.now c.in-Some.i c.in-Some.port = search rules in
    generated_first c.args.problem.now c.args.self.now c.make_for.new.self c.in-Some.i c.in-Some.port c.in_ok-row.row first c.in_ok-row.ensures c.in_ok-make_for.ensures.made

pub returns-clause-state : goal.returns-clause-state
returns-clause-state c =
    let first : IsFirst c.args.problem.now c.args.self.now c.in-Some.i c.in-Some.port = search rules in
    let made : c.make_for.new.self ≡ generated c.args.problem.now c.args.self.now =
    generated_first c.args.problem.now c.args.self.now c.make_for.new.self c.in-Some.i c.in-Some.port c.in_ok-row.row first c.in_ok-row.ensures c.in_ok-make_for.ensures.made in
    subst (IsState c.args.problem.now) (sym made)
    (generation_keeps_state c.args.problem.now c.args.self.now c.model-model.ensures.valid c.requires.state c.requires.room)
