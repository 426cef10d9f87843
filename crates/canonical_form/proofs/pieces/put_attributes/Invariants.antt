use Rattle.std.proofs.Common.{◌≡◌, ◌++◌, map, take}
use Rattle.std.specs.List.{flat_map, zip}
use Rattle.canonical_form.specs.steps.Pieces.{attribute_piece}
use Rattle.canonical_form.proofs.pieces.put_attributes.Given as goal

-- the attributes so far are written
abbrev pub invariant-loop-k : goal.invariant-loop-k
invariant-loop-k l = l.out.items ≡ l.initial.out.items ++ flat_map attribute_piece (take l.k (zip (map (λ d. d.now) l.firsts) (zip l.attrs l.values)))
