use Rattle.std.proofs.Common.{◌+◌, [], refl, sym, subst}
use Rattle.prod_model.specs.Taxonomy.{attributes_of, ports_of}
use Rattle.config_value.specs.declared.configuration.Instance.{Instance}
use Rattle.canonical_form.specs.declared.fault.PartCode.TheVariants.{TypeName, LineEnd}
use Rattle.canonical_form.specs.steps.Grammar.{at_number, at_type, at_members}
use Rattle.canonical_form.specs.steps.Reading.{Refuses}
use Rattle.canonical_form.proofs.Paths.{Reads_then, Stops_then}
use Rattle.canonical_form.proofs.ModelTexts.{leaf_is_type}
use Rattle.canonical_form.proofs.LineSteps.{number_stops, type_stops, end_stops, number_reads, type_reads, values_reads, links_reads, instance_read, refused_behind, same_refusal}
use Rattle.canonical_form.proofs.reading.line.read_instance.Goals as goal

pub returns-in_default-clause-refused : goal.returns-in_default-clause-refused
returns-in_default-clause-refused c =
    let m = c.args.known.now.problem.now in
    let n = c.args.number in
    subst (Refuses m (at_number n) c.args.bytes.now) (sym c.at.ensures) (number_stops m n c.args.bytes.now c.requires.unended (c.in_default.ensures.none refl))

pub read_attributes-requires-clause-typed : goal.read_attributes-requires-clause-typed
read_attributes-requires-clause-typed c = leaf_is_type c.args.known.now.problem.now c.in-Some-read_type.kind c.in-Some-read_type.ensures.found.0

pub returns-in_default-read_type-clause-refused : goal.returns-in_default-read_type-clause-refused
returns-in_default-read_type-clause-refused c =
    let m = c.args.known.now.problem.now in
    let n = c.args.number in
    let first = number_reads m n c.args.bytes.now c.in-Some.typed.now c.requires.few c.in-Some.ensures.found in
    let stops = type_stops m n c.in-Some.typed.now (c.in_default-read_type.ensures.none refl) in
    subst (Refuses m (at_number n) c.args.bytes.now) (sym c.at-in_default-read_type.ensures)
    (Stops_then m (at_number n) (at_type n) c.args.bytes.now c.in-Some.typed.now (n + 2) TypeName first stops)

pub returns-in_err-values-clause-refused : goal.returns-in_err-values-clause-refused
returns-in_err-values-clause-refused c =
    let m = c.args.known.now.problem.now in
    let n = c.args.number in
    let t = c.in-Some-read_type.kind in
    let first = number_reads m n c.args.bytes.now c.in-Some.typed.now c.requires.few c.in-Some.ensures.found in
    let second = type_reads m n t c.in-Some.typed.now c.in-Some-read_type.rest.now c.in-Some-read_type.ensures.found.0 c.in-Some-read_type.ensures.found.1 in
    let members = at_members n (attributes_of m.types t) (ports_of m.types t) in
    let reads = Reads_then m (at_number n) (at_type n) members c.args.bytes.now c.in-Some.typed.now c.in-Some-read_type.rest.now first second in
    let e = c.in_err-values.field-0.0 in
    same_refusal c.from_residual.result e (Refuses m (at_number n) c.args.bytes.now) c.from_residual.ensures.1
    (refused_behind m (at_number n) members c.args.bytes.now c.in-Some-read_type.rest.now e reads c.in_err-values.ensures.refused)

pub returns-in_err-links-clause-refused : goal.returns-in_err-links-clause-refused
returns-in_err-links-clause-refused c =
    let m = c.args.known.now.problem.now in
    let n = c.args.number in
    let t = c.in-Some-read_type.kind in
    let first = number_reads m n c.args.bytes.now c.in-Some.typed.now c.requires.few c.in-Some.ensures.found in
    let second = type_reads m n t c.in-Some.typed.now c.in-Some-read_type.rest.now c.in-Some-read_type.ensures.found.0 c.in-Some-read_type.ensures.found.1 in
    let third = values_reads m n t c.in-Some-read_type.rest.now c.in_ok-values.values c.in_ok-values.rest.now c.in_ok-values.ensures.read in
    let members = at_members n (attributes_of m.types t) (ports_of m.types t) in
    let ports = at_members n [] (ports_of m.types t) in
    let both = Reads_then m (at_number n) (at_type n) members c.args.bytes.now c.in-Some.typed.now c.in-Some-read_type.rest.now first second in
    let reads = Reads_then m (at_number n) members ports c.args.bytes.now c.in-Some-read_type.rest.now c.in_ok-values.rest.now both third in
    let e = c.in_err-links.field-0.0 in
    same_refusal c.from_residual-in_err-links.result e (Refuses m (at_number n) c.args.bytes.now) c.from_residual-in_err-links.ensures.1
    (refused_behind m (at_number n) ports c.args.bytes.now c.in_ok-values.rest.now e reads c.in_err-links.ensures.refused)

pub returns-in_default-behind_byte-clause-refused : goal.returns-in_default-behind_byte-clause-refused
returns-in_default-behind_byte-clause-refused c =
    let m = c.args.known.now.problem.now in
    let n = c.args.number in
    let t = c.in-Some-read_type.kind in
    let first = number_reads m n c.args.bytes.now c.in-Some.typed.now c.requires.few c.in-Some.ensures.found in
    let second = type_reads m n t c.in-Some.typed.now c.in-Some-read_type.rest.now c.in-Some-read_type.ensures.found.0 c.in-Some-read_type.ensures.found.1 in
    let third = values_reads m n t c.in-Some-read_type.rest.now c.in_ok-values.values c.in_ok-values.rest.now c.in_ok-values.ensures.read in
    let fourth = links_reads m n t c.in_ok-values.rest.now c.in_ok-links.links c.in_ok-links.rest.now c.in_ok-links.ensures.read in
    let members = at_members n (attributes_of m.types t) (ports_of m.types t) in
    let ports = at_members n [] (ports_of m.types t) in
    let both = Reads_then m (at_number n) (at_type n) members c.args.bytes.now c.in-Some.typed.now c.in-Some-read_type.rest.now first second in
    let more = Reads_then m (at_number n) members ports c.args.bytes.now c.in-Some-read_type.rest.now c.in_ok-values.rest.now both third in
    let reads = Reads_then m (at_number n) ports (at_members n [] []) c.args.bytes.now c.in_ok-values.rest.now c.in_ok-links.rest.now more fourth in
    subst (Refuses m (at_number n) c.args.bytes.now) (sym c.at-in_default-behind_byte.ensures)
    (Stops_then m (at_number n) (at_members n [] []) c.args.bytes.now c.in_ok-links.rest.now (n + 2) LineEnd reads (end_stops m n c.in_ok-links.rest.now (c.in_default-behind_byte.ensures.none refl)))

pub returns-clause-read : goal.returns-clause-read
returns-clause-read c =
    let x : Instance = record { kind = c.in-Some-read_type.kind; values = c.in_ok-values.values; links = c.in_ok-links.links } in
    instance_read c.args.known.now.problem.now c.args.number x c.args.bytes.now c.in-Some.typed.now c.in-Some-read_type.rest.now c.in_ok-values.rest.now c.in_ok-links.rest.now c.in-Some-behind_byte.next.now
    c.in-Some.ensures.found c.in-Some-read_type.ensures.found.0 c.in-Some-read_type.ensures.found.1 c.in_ok-values.ensures.read c.in_ok-links.ensures.read c.in-Some-behind_byte.ensures.found

pub read_ports-requires-clause-typed : goal.read_ports-requires-clause-typed
read_ports-requires-clause-typed c = leaf_is_type c.args.known.now.problem.now c.in-Some-read_type.kind c.in-Some-read_type.ensures.found.0
