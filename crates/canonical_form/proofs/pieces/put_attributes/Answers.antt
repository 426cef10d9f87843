use Rattle.std.proofs.Common.{◌≡◌, ap, map, rules, arith, to_z, of_z, w64, pos, slice_index_or}
use Rattle.std.specs.List.{zip}
use Rattle.std.proofs.lemmas.Grind.{common_steps}
use Rattle.std.proofs.lemmas.Int.{ints, to_z-of_z}
use Rattle.std.proofs.lemmas.List.{take_all}
use Rattle.canonical_form.specs.steps.Pieces.{attribute_piece, is_written}
use Rattle.base_laws.proofs.Tests.{list_all_at}
use Rattle.base_laws.proofs.Lists.{triple_read, length_triple}
use Rattle.base_laws.proofs.Steps.{flat_map_take_more}
use Rattle.canonical_form.proofs.pieces.put_attributes.Goals as goal

pub put_attribute-requires : goal.put_attribute-requires
put_attribute-requires c =
    let k = c.loop-k.k in
    let value = slice_index_or c.args.values.now k (pos 0) in
    let own : to_z w64 (of_z w64 value) ≡ value = search (rules, ints, to_z-of_z) in
    let all = triple_read (λ d. d.now) c.args.firsts.now c.args.attrs.now c.args.values.now k c.index-firsts-k.result c.index-attrs-k.result (pos 0)
    c.requires.firsts c.requires.values c.loop-k-test.true c.index-firsts-k.is c.index-attrs-k.is in
    let written = list_all_at is_written (zip (map (λ d. d.now) c.args.firsts.now) (zip c.args.attrs.now c.args.values.now)) c.requires.written k
    (c.index-firsts-k.result.now, (c.index-attrs-k.result, value)) all in
    rw own written

pub loop-k-preserved : goal.loop-k-preserved
loop-k-preserved c =
    let k = c.loop-k.k in
    let value = slice_index_or c.args.values.now k (pos 0) in
    let own : to_z w64 (of_z w64 value) ≡ value = search (rules, ints, to_z-of_z) in
    let all = triple_read (λ d. d.now) c.args.firsts.now c.args.attrs.now c.args.values.now k c.index-firsts-k.result c.index-attrs-k.result (pos 0)
    c.requires.firsts c.requires.values c.loop-k-test.true c.index-firsts-k.is c.index-attrs-k.is in
    let more = flat_map_take_more attribute_piece (zip (map (λ d. d.now) c.args.firsts.now) (zip c.args.attrs.now c.args.values.now)) k
    (c.index-firsts-k.result.now, (c.index-attrs-k.result, value)) all in
    let here = ap (λ v. attribute_piece (c.index-firsts-k.result.now, (c.index-attrs-k.result, v))) own in
    grind (arith, common_steps)

pub returns : goal.returns
returns c =
    let long = length_triple (λ d. d.now) c.args.firsts.now c.args.attrs.now c.args.values.now c.requires.firsts c.requires.values in
    let all = take_all c.loop-k.k (zip (map (λ d. d.now) c.args.firsts.now) (zip c.args.attrs.now c.args.values.now)) (omega (arith, long)) in
    grind (arith, common_steps)
