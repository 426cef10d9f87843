use Rattle.std.proofs.Common.{List, ℕ, sym, subst, ◌∙◌}
use Rattle.canonical_form.specs.steps.Reading.{AddsLinks}
use Rattle.canonical_form.proofs.LinkSteps.{all_links, no_links}
use Rattle.canonical_form.proofs.reading.links.read_links.Goals as goal

pub returns-in_default-clause-none : goal.returns-in_default-clause-none
returns-in_default-clause-none c none =
    no_links c.args.bytes.now (sym c.begins_with_digit.ensures ∙ c.if-not-begins_with_digit.false) (c.in_ok-rest.ensures.none c.in_default.is)

pub returns-clause-found : goal.returns-clause-found
returns-clause-found c =
    let adds = rw c.in-Some.is at c.in_ok-rest.ensures.found in
    let from_none = subst (λ (old : List ℕ). AddsLinks 0 old c.put_links.new.links c.args.bytes.now c.in-Some.rest.now) c.new-links.ensures adds in
    all_links c.args.bytes.now c.put_links.new.links c.in-Some.rest.now from_none
