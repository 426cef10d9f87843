use Rattle.std.proofs.Common.{◌≡◌, ap, sym, refl, rules, arith, to_z, of_z, w64, pos, slice_index_or}
use Rattle.std.specs.List.{zip}
use Rattle.std.proofs.lemmas.Grind.{common_steps}
use Rattle.std.proofs.lemmas.Int.{ints, to_z-of_z}
use Rattle.std.proofs.lemmas.List.{take_all}
use Rattle.std.proofs.lemmas.Option.{slice_get-get_or}
use Rattle.base_laws.proofs.Lists.{slice_get_zip, length_zip}
use Rattle.base_laws.proofs.Places.{read_at}
use Rattle.base_laws.proofs.Steps.{flat_map_take_more}
use Rattle.config_cli.specs.CheckTexts.{criterion_text}
use Rattle.config_cli.proofs.check_texts.put_criteria.Goals as goal

pub loop-k-preserved : goal.loop-k-preserved
loop-k-preserved c =
    let k = c.loop-k.k in
    let criteria = c.args.criteria.now in
    let values = c.args.values.now in
    let value = slice_index_or values k (pos 0) in
    let own : to_z w64 (of_z w64 value) ≡ value = search (rules, ints, to_z-of_z) in
    let criterion = read_at criteria criteria k c.index-criteria-k.result refl c.loop-k-test.true c.index-criteria-k.is in
    let number = slice_get-get_or values k (pos 0) (omega (arith, c.loop-k-test.true, c.requires)) in
    let pair = slice_get_zip criteria values k c.index-criteria-k.result value criterion number in
    let more = flat_map_take_more criterion_text (zip criteria values) k (c.index-criteria-k.result, value) pair in
    let here = ap (λ v. criterion_text (c.index-criteria-k.result, v)) own in
    grind (arith, common_steps)

pub returns : goal.returns
returns c =
    let long = length_zip c.args.criteria.now c.args.values.now (sym c.requires) in
    let all = take_all c.loop-k.k (zip c.args.criteria.now c.args.values.now) (omega (arith, long, c.loop-k-test.false)) in
    grind (arith, common_steps)
