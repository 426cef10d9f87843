use Rattle.std.proofs.Common.{pos, sym, ◌∙◌, arith}
use Rattle.canonical_form.proofs.ReadingSteps.{number_is, link_within, no_link_from}
use Rattle.canonical_form.proofs.reading.links.read_link.Goals as goal

pub returns-in_err-link-clause-none : goal.returns-in_err-link-clause-none
returns-in_err-link-clause-none c none j rest from few takes =
    let text = number_is j c.args.bytes.now c.split_token.result.0.now c.split_token.result.1.now rest (omega arith) c.split_token.ensures takes in
    let some = c.in_err-link.ensures.only (pos j) (link_within c.args.low j few) text.0 in
    cc

pub returns-then-not-is_link-clause-none : goal.returns-then-not-is_link-clause-none
returns-then-not-is_link-clause-none c none j rest from few takes =
    let text = number_is j c.args.bytes.now c.split_token.result.0.now c.split_token.result.1.now rest (omega arith) c.split_token.ensures takes in
    let some = c.in_ok-link.ensures.only (pos j) (link_within c.args.low j few) text.0 in
    no_link_from c.args.low j c.in_ok-link.link some from few (sym c.is_link.ensures ∙ c.if-not-is_link.true)
