use Rattle.std.proofs.Common.{◌≡◌, ℕ, ◌||◌, ◌==◌, take}
use Rattle.std.specs.List.{list_any}
use Rattle.instance_set.specs.InstanceSets.{is_member}
use Rattle.answer_check.proofs.linked.with_links.Given as goal

-- the links so far are added
abbrev pub invariant-loop-j : goal.invariant-loop-j
invariant-loop-j l = (k : ℕ) → is_member l.more k ≡ (is_member l.fn.set k || list_any (λ j. j == k) (take l.j-index l.links))
