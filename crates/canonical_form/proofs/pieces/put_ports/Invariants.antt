use Rattle.std.proofs.Common.{◌≡◌, ◌++◌, map, take}
use Rattle.std.specs.List.{flat_map, zip}
use Rattle.canonical_form.specs.steps.Pieces.{port_piece}
use Rattle.canonical_form.proofs.pieces.put_ports.Given as goal

-- the ports so far are written
abbrev pub invariant-loop-k : goal.invariant-loop-k
invariant-loop-k l = l.out.items ≡ l.initial.out.items ++ flat_map port_piece (take l.k (zip (map (λ d. d.now) l.firsts) l.links))
