use Rattle.config_value.specs.Spelled.{is_spelled_links}
use Rattle.canonical_form.specs.AnswerParts.{links_end}
use Rattle.canonical_form.specs.steps.Pieces.{numbers_piece, port_piece}
use Rattle.canonical_form.specs.steps.Reading.{TakesNone}
use Rattle.canonical_form.proofs.ReadingSteps.{piece_behind}
use Rattle.canonical_form.proofs.LinkSteps.{none_more}
use Rattle.canonical_form.proofs.reading.links.read_port.Goals as goal

pub returns-clause-none : goal.returns-clause-none
unfolding port_piece
returns-clause-none c =
    let d = c.args.first.now in
    let behind = c.in-Some.rest.now in
    none_more c.read_links.result (TakesNone numbers_piece links_end is_spelled_links behind) (TakesNone (λ links. port_piece (d, links)) links_end is_spelled_links c.args.bytes.now)
    (λ none js rest spelled takes. none js rest spelled (record {
      parts = piece_behind 58 d.name c.bytes.result.now (numbers_piece js) behind rest c.args.bytes.now c.bytes.ensures c.in-Some.ensures.found takes.parts;
      ends = takes.ends;
    }))
    c.read_links.ensures.none
