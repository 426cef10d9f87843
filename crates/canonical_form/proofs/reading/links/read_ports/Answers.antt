use Rattle.std.proofs.Common.{◌+◌, [], map, length, refl, sym, ap, ◌∙◌, subst, arith}
use Rattle.std.specs.List.{zip}
use Rattle.std.proofs.lemmas.List.{take_all}
use Rattle.prod_model.specs.Taxonomy.{ports_of}
use Rattle.canonical_form.specs.AnswerParts.{port_part}
use Rattle.canonical_form.specs.steps.Grammar.{at_members, BeginsThen}
use Rattle.canonical_form.specs.steps.Reading.{Refuses}
use Rattle.canonical_form.proofs.FirstRows.{row_at, many_ports}
use Rattle.canonical_form.proofs.MemberSteps.{next_port, links_next, links_refused}
use Rattle.canonical_form.proofs.reading.links.read_ports.Goals as goal

pub returns-in_default-clause-refused : goal.returns-in_default-clause-refused
returns-in_default-clause-refused c =
    let m = c.args.known.now.problem.now in
    let row = row_at m c.args.known.now.rows.items c.args.kind c.index.result.now c.requires.firsts c.requires.typed c.index.ensures in
    let p = next_port (λ d. d.now) m m c.args.kind c.index.result.now.ports.items c.deref-first-items.result.now c.loop-first.first-index c.first-item.result refl
    row.ports c.deref-first-items.ensures.value c.loop-first-test.true c.first-item.is in
    let stops = links_refused m c.args.number (ports_of m.types c.args.kind) c.loop-first.first-index c.first-item.result.now c.args.bytes.now c.loop-first.ports c.loop-first.rest.now p c.loop-first.invariant (c.in_ok-links.ensures.none c.in_default.is) in
    subst (Refuses m (at_members c.args.number [] (ports_of m.types c.args.kind)) c.args.bytes.now) (sym c.at.ensures) stops

pub loop-first-preserved : goal.loop-first-preserved
loop-first-preserved c =
    let m = c.args.known.now.problem.now in
    let row = row_at m c.args.known.now.rows.items c.args.kind c.index.result.now c.requires.firsts c.requires.typed c.index.ensures in
    let p = next_port (λ d. d.now) m m c.args.kind c.index.result.now.ports.items c.deref-first-items.result.now c.loop-first.first-index c.first-item.result refl
    row.ports c.deref-first-items.ensures.value c.loop-first-test.true c.first-item.is in
    let found = rw c.in-Some.is at c.in_ok-links.ensures.found in
    links_next c.args.number (ports_of m.types c.args.kind) c.loop-first.first-index c.first-item.result.now c.args.bytes.now c.loop-first.ports c.loop-first.rest.now c.in-Some.links c.in-Some.after.now c.push.new.self
    p c.loop-first.invariant found c.in_ok-push.ensures.ok

-- behind the last port they are links of all
pub returns-clause-read : goal.returns-clause-read
returns-clause-read c =
    let m = c.args.known.now.problem.now in
    let qs = ports_of m.types c.args.kind in
    let row = row_at m c.args.known.now.rows.items c.args.kind c.index.result.now c.requires.firsts c.requires.typed c.index.ensures in
    let many = ap length c.deref-first-items.ensures.value ∙ many_ports m c.args.kind c.index.result.now row in
    let done = c.loop-first-test.false in
    let all = take_all c.loop-first.first-index qs (omega arith) in
    let read = c.loop-first.invariant in
    record {
      begins = subst (λ xs. BeginsThen (map (port_part (c.args.number + 2)) (zip xs c.loop-first.ports)) c.args.bytes.now c.loop-first.rest.now) all read.begins;
      long = read.long ∙ ap length all;
      spelled = read.spelled;
    }
