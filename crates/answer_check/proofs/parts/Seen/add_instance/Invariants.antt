use Rattle.std.proofs.Common.{[]}
use Rattle.std.specs.Prelude.{if◌then◌else◌}
use Rattle.std.specs.Iterator.Adapters.{zip_first, zip_second}
use Rattle.std.specs.List.{flat_map, zip}
use Rattle.std.specs.Slice.Iter.{iter_rest}
use Rattle.config_value.specs.Shaped.{is_part}
use Rattle.answer_check.specs.declared.parts.Seen.{Seen}
use Rattle.answer_check.specs.steps.Seen.{SeesMore, part_links_of}
use Rattle.answer_check.proofs.parts.Seen.add_instance.Given as goal

-- once the links of the part ports to come are seen too, all of the instance are
abbrev pub invariant-loop-port : goal.invariant-loop-port
invariant-loop-port l =
    let to_come = zip (iter_rest (zip_first l.port-iterator)) (iter_rest (zip_second l.port-iterator)) in
    (last : Seen) → SeesMore l.self (flat_map (λ pair. if is_part pair.0 then pair.1 else []) to_come) last
    → SeesMore l.fn.self (part_links_of l.problem l.instance) last
