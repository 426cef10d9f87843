-- How old values are stored in a log.
use Rattle.state_space.specs.Undo.{OldValue}
use Rattle.state_space.specs.Undo as old
use Rattle.partial_state.specs.declared.change_log.Replaced.{Replaced}
use Rattle.partial_state.specs.declared.change_log.Replaced.TheVariants.{Kinds, Domain, Port, Made}

-- the old value that an entry of the log has
abbrev pub old_value_of : Replaced → OldValue
old_value_of (Kinds i kinds) = old.Kinds i kinds
old_value_of (Domain i a values) = old.Domain i a values
old_value_of (Port i p links) = old.Port i p links
old_value_of Made = old.Made
