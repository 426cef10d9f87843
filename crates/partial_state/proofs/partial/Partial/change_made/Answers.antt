use Rattle.std.proofs.Common.{◌∙◌, ap}
use Rattle.state_space.specs.Undo.{undone, generation_log}
use Rattle.state_space.proofs.UndoneGeneration.{generation_is_undone}
use Rattle.partial_state.proofs.LiteralChanges.{none_logged}
use Rattle.partial_state.proofs.partial.Partial.change_made.Goals as goal

-- the log of the generation brings the state back
pub returns-clause-logged : goal.returns-clause-logged
returns-clause-logged c =
    let s = c.args.self.now in record {
      entries = generation_log s;
      appended = c.in_ok-generate_logged.ensures.logged;
      back = ap (undone (generation_log s)) c.in_ok-generate_logged.ensures.made ∙ generation_is_undone c.args.problem.now s c.requires.room;
    }

pub returns-in_err-generate_logged-clause-logged : goal.returns-in_err-generate_logged-clause-logged
returns-in_err-generate_logged-clause-logged c =
    none_logged c.args.self.now c.generate_logged.new.self c.args.log.now c.generate_logged.new.log c.in_err-generate_logged.ensures.unchanged c.in_err-generate_logged.ensures.kept
