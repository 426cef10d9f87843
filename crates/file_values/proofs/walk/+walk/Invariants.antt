use Rattle.std.proofs.Common.{◌+◌, ◌*◌, map}
use Rattle.serde_json.specs.View.{view}
use Rattle.file_values.specs.steps.Searches.{stands_in}
use Rattle.file_values.proofs.TableLaws.{levels}
use Rattle.file_values.proofs.Searching.{NoneInFirst, NoneInFirstMembers}
use Rattle.file_values.proofs.walk.+walk.Given as goal

-- a value, a list of such values, and the members of an object have less levels in turn
abbrev pub decreases-first_found : goal.decreases-first_found
decreases-first_found l = 3 * levels l.kind + 2

abbrev pub decreases-first_in_list : goal.decreases-first_in_list
decreases-first_in_list l = 3 * levels l.inner + 3

abbrev pub decreases-first_in_members : goal.decreases-first_in_members
decreases-first_in_members l = 3 * levels l.kind + 1

-- nothing is found before this value
abbrev pub invariant-first_in_list-loop-index : goal.invariant-first_in_list-loop-index
invariant-first_in_list-loop-index l = NoneInFirst l.format (stands_in l.search l.format) l.inner (map view l.items) l.index

-- nothing is found in the members before this one
abbrev pub invariant-first_in_members-loop-index : goal.invariant-first_in_members-loop-index
invariant-first_in_members-loop-index l = NoneInFirstMembers l.format (stands_in l.search l.format) l.fn.kind (view l.value) l.index
