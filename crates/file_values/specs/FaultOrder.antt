-- The order of faults, by which one is the first.
use Rattle.std.specs.Prelude.{IsTrue}
use Rattle.std.specs.declared.cmp.Ordering.{Ordering}
use Rattle.std.specs.Ordering.{nat_cmp, ordering_then, is_lt}
use Rattle.std.specs.Cmp.Lexicographic.{slice_cmp}
use Rattle.file_values.specs.declared.fault.Fault.{Fault}
use Rattle.file_values.specs.Codes.{number_of}
use Rattle.file_values.specs.Places.{part_cmp}

-- by the number of the code, and then by place in the document
abbrev pub fault_cmp : Fault → Fault → Ordering
fault_cmp f g =
    ordering_then (nat_cmp (number_of f.code) (number_of g.code))
    (slice_cmp part_cmp f.place g.place)

-- one fault comes before another
abbrev pub IsFaultBefore : Fault → Fault → Type 0
IsFaultBefore f g = IsTrue (is_lt (fault_cmp f g))
