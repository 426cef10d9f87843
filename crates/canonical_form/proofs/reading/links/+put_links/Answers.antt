use Rattle.std.proofs.Common.{refl, ◌+◌}
use Rattle.canonical_form.specs.AnswerParts.{behind_links}
use Rattle.canonical_form.specs.steps.Pieces.{numbers_piece}
use Rattle.canonical_form.specs.steps.Reading.{AddsLinks, TakesNone, ascends_from}
use Rattle.canonical_form.proofs.LinkSteps.{more_links, no_first, no_more, found_more, none_more}
use Rattle.canonical_form.proofs.reading.links.+put_links.Goals as goal

pub returns-in_default-clause-none : goal.returns-in_default-clause-none
returns-in_default-clause-none t c none = no_first c.args.low c.args.bytes.now (c.in_default.ensures.none refl)

pub returns-clause-found : goal.returns-clause-found
returns-clause-found t c =
    let link = c.in-Some.link in
    let next = c.in-Some-behind_byte.next.now in
    let first = c.in-Some.ensures.found in
    found_more c.put_links.result (AddsLinks (link + 1) c.push.new.self c.put_links.new.links next) (AddsLinks c.args.low c.args.links.now c.put_links.new.links c.args.bytes.now)
    (λ rest adds. more_links c.args.low link c.args.links.now c.push.new.self c.put_links.new.links c.args.bytes.now c.in-Some.rest.now next rest first.0 first.1 first.2 c.in-Some-behind_byte.ensures.found c.in_ok-push.ensures.ok adds)
    c.put_links.ensures.found

pub returns-clause-none : goal.returns-clause-none
returns-clause-none t c =
    let link = c.in-Some.link in
    let next = c.in-Some-behind_byte.next.now in
    let first = c.in-Some.ensures.found in
    none_more c.put_links.result (TakesNone numbers_piece (λ js. behind_links) (ascends_from (link + 1)) next) (TakesNone numbers_piece (λ js. behind_links) (ascends_from c.args.low) c.args.bytes.now)
    (no_more c.args.low link c.args.bytes.now c.in-Some.rest.now next first.0 first.1 first.2 c.in-Some-behind_byte.ensures.found)
    c.put_links.ensures.none
