use Rattle.std.proofs.Common.{List, ℕ, length, subst}
use Rattle.prod_model.specs.Taxonomy.{words_of}
use Rattle.canonical_form.specs.steps.Pieces.{value_piece, is_written_value, attribute_piece}
use Rattle.canonical_form.specs.steps.Reading.{TakesNone, end_of_domain}
use Rattle.canonical_form.proofs.ReadingSteps.{piece_behind}
use Rattle.canonical_form.proofs.reading.values.read_attribute.Goals as goal

pub returns-clause-none : goal.returns-clause-none
unfolding attribute_piece
returns-clause-none c none v rest written takes =
    let d = c.args.first.now in
    let domain = c.args.at.now.domain in
    let behind = c.in_ok-rest.rest.now in
    let never = subst (λ (words : List (List ℕ)). TakesNone (value_piece words domain) (λ u. end_of_domain domain) (is_written_value (length words) domain) behind) c.words.ensures (c.read_value.ensures.none none) in
    let parts = piece_behind 61 d.name c.bytes.result.now (value_piece (words_of d.domain) domain v) behind rest c.args.bytes.now c.bytes.ensures c.in_ok-rest.ensures.found takes.parts in
    never v rest written (record { parts = parts; ends = takes.ends })
