use Rattle.prod_model.specs.Taxonomy.{attributes_of}
use Rattle.canonical_form.proofs.MemberSteps.{HasValues}
use Rattle.canonical_form.proofs.reading.values.read_attributes.Given as goal

-- values of the attributes so far are read
abbrev pub invariant-loop-k : goal.invariant-loop-k
invariant-loop-k l = HasValues l.known.problem.now l.number (attributes_of l.known.problem.now.types l.kind) l.k l.bytes l.values l.rest
