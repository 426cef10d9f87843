use Rattle.std.proofs.Common.{◌<◌, ◌∙◌, map, length, refl, arith}
use Rattle.std.specs.List.{zip}
use Rattle.std.proofs.lemmas.Grind.{common_steps}
use Rattle.std.proofs.lemmas.List.{length-map, take_all}
use Rattle.std.proofs.lemmas.Option.{slice_get_read}
use Rattle.canonical_form.specs.steps.Pieces.{port_piece}
use Rattle.base_laws.proofs.Lists.{slice_get_zip, slice_get_map_read, length_zip}
use Rattle.base_laws.proofs.Steps.{flat_map_take_more}
use Rattle.canonical_form.proofs.pieces.put_ports.Goals as goal

pub loop-k-preserved : goal.loop-k-preserved
loop-k-preserved c =
    let k = c.loop-k.k in
    let firsts = map (λ d. d.now) c.args.firsts.now in
    let within : k < length c.args.firsts.now = omega (arith, c.requires) in
    let first = slice_get_map_read (λ d. d.now) c.args.firsts.now k c.index-firsts-k.result within c.index-firsts-k.is in
    let linked = slice_get_read c.args.links.now (length c.args.links.now) k c.index-links-k.result refl c.loop-k-test.true c.index-links-k.is in
    let pair = slice_get_zip firsts c.args.links.now k c.index-firsts-k.result.now c.index-links-k.result first linked in
    let more = flat_map_take_more port_piece (zip firsts c.args.links.now) k (c.index-firsts-k.result.now, c.index-links-k.result) pair in
    grind (arith, common_steps)

pub returns : goal.returns
returns c =
    let firsts = map (λ d. d.now) c.args.firsts.now in
    let pairs = zip firsts c.args.links.now in
    let same = length-map c.args.firsts.now (λ d. d.now) in
    let long = length_zip firsts c.args.links.now (same ∙ c.requires) in
    let all = take_all c.loop-k.k pairs (omega (arith, long, same)) in
    grind (arith, common_steps)
