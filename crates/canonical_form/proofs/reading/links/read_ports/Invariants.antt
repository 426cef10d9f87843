use Rattle.prod_model.specs.Taxonomy.{ports_of}
use Rattle.canonical_form.proofs.MemberSteps.{HasLinks}
use Rattle.canonical_form.proofs.reading.links.read_ports.Given as goal

-- links of the ports so far are read
abbrev pub invariant-loop-first : goal.invariant-loop-first
invariant-loop-first l = HasLinks l.number (ports_of l.known.problem.now.types l.kind) l.first-index l.bytes l.ports l.rest
