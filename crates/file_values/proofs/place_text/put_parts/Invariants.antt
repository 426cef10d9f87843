use Rattle.std.proofs.Common.{◌≡◌, ◌++◌, take}
use Rattle.file_values.specs.Places.{rest_text}
use Rattle.file_values.proofs.place_text.put_parts.Given as goal

-- the steps before this one were appended
abbrev pub invariant-loop-part : goal.invariant-loop-part
invariant-loop-part l = l.out.items ≡ l.fn.out.items ++ rest_text (take l.part-index l.parts)
