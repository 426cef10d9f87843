use Rattle.std.proofs.Common.{◌++◌, ◌∙◌, ap, sym, map, length}
use Rattle.std.specs.List.{flat_map, zip}
use Rattle.std.proofs.lemmas.List.{length-map}
use Rattle.std.proofs.lemmas.Result.{IfOk-equal}
use Rattle.prod_model.specs.Taxonomy.{attributes_of, attributes_at, ports_of}
use Rattle.canonical_form.specs.AnswerText.{attribute_text}
use Rattle.canonical_form.specs.steps.Pieces.{attribute_piece, port_piece}
use Rattle.canonical_form.proofs.FirstRows.{row_at, many_attributes, many_ports}
use Rattle.canonical_form.proofs.LinePieces.{attributes_text, attributes_written, ports_text}
use Rattle.canonical_form.proofs.SpelledPaths.{many_ports_at}
use Rattle.canonical_form.proofs.answer_text.put_members.Goals as goal

pub put_attributes-requires-clause-firsts : goal.put_attributes-requires-clause-firsts
put_attributes-requires-clause-firsts c =
    let it = c.args.instance.now in
    let m = c.args.known.now.problem.now in
    let firsts = c.index-firsts.result.now in
    let row = row_at m c.args.known.now.rows.items it.kind firsts c.requires.firsts c.requires.written.typed c.index-firsts.ensures in
    ap length c.deref.ensures.value ∙ many_attributes m it.kind firsts row ∙ sym (ap length c.attrs_of-attrs.ensures)

pub put_attributes-requires-clause-written : goal.put_attributes-requires-clause-written
put_attributes-requires-clause-written c =
    let it = c.args.instance.now in
    let m = c.args.known.now.problem.now in
    let firsts = c.index-firsts.result.now in
    let row = row_at m c.args.known.now.rows.items it.kind firsts c.requires.firsts c.requires.written.typed c.index-firsts.ensures in
    rw (c.deref.ensures.value, c.attrs_of-attrs.ensures, c.as_slice.ensures)
    (attributes_written (λ d. d.now) m it.kind firsts.attributes.items row.names row.words it.values c.requires.written.valued)

pub put_ports-requires : goal.put_ports-requires
put_ports-requires c =
    let it = c.args.instance.now in
    let m = c.args.known.now.problem.now in
    let firsts = c.index-firsts.result.now in
    let row = row_at m c.args.known.now.rows.items it.kind firsts c.requires.firsts c.requires.written.typed c.index-firsts.ensures in
    ap length c.deref-2.ensures.value ∙ many_ports m it.kind firsts row ∙ sym (many_ports_at m it.kind)
    ∙ sym c.requires.written.linked ∙ sym (ap length c.as_slice-2.ensures)

pub returns : goal.returns
returns c =
    let it = c.args.instance.now in
    let m = c.args.known.now.problem.now in
    let out = c.args.out.now.items in
    let firsts = c.index-firsts.result.now in
    let row = row_at m c.args.known.now.rows.items it.kind firsts c.requires.firsts c.requires.written.typed c.index-firsts.ensures in
    let values =
    ap (λ ds. flat_map attribute_piece (zip (map (λ d. d.now) ds) (zip c.attrs_of-attrs.result.now c.as_slice.result.now))) c.deref.ensures.value
    ∙ ap (λ as'. flat_map attribute_piece (zip (map (λ d. d.now) firsts.attributes.items) (zip as' c.as_slice.result.now))) c.attrs_of-attrs.ensures
    ∙ ap (λ vs. flat_map attribute_piece (zip (map (λ d. d.now) firsts.attributes.items) (zip (attributes_at m it.kind) vs))) c.as_slice.ensures
    ∙ attributes_text (λ d. d.now) m it.kind firsts.attributes.items row.names row.words it.values in
    let links =
    ap (λ ds. flat_map port_piece (zip (map (λ d. d.now) ds) c.as_slice-2.result.now)) c.deref-2.ensures.value
    ∙ ap (λ ls. flat_map port_piece (zip (map (λ d. d.now) firsts.ports.items) ls)) c.as_slice-2.ensures
    ∙ ports_text (λ d. d.now) m it.kind firsts.ports.items it.links row.ports in
    IfOk-equal c.put_ports.result _ _ _ c.put_ports.ensures
    (ap (λ t. t ++ flat_map port_piece (zip (map (λ d. d.now) c.deref-2.result.now) c.as_slice-2.result.now)) (c.in_ok-put_attributes.ensures ∙ ap (λ t. out ++ t) values)
    ∙ ap (λ t. (out ++ flat_map (attribute_text m) (zip (attributes_of m.types it.kind) it.values)) ++ t) links)
