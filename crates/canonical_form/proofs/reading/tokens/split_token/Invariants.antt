use Rattle.std.proofs.Common.{◌≡◌, ◌≤◌, ◌-◌, true, length, take}
use Rattle.std.specs.List.{list_all}
use Rattle.canonical_form.specs.AnswerParts.{belongs}
use Rattle.canonical_form.specs.steps.Reading.{end_of}
use Rattle.canonical_form.proofs.reading.tokens.split_token.Given as goal

-- the bytes so far belong to the token
abbrev pub invariant-loop-len : goal.invariant-loop-len
invariant-loop-len l = record {
  within : l.len ≤ length l.bytes;
  belonging : list_all (belongs (end_of l.reach)) (take l.len l.bytes) ≡ true;
}

abbrev pub decreases-loop-len : goal.decreases-loop-len
decreases-loop-len l = length l.bytes - l.len
