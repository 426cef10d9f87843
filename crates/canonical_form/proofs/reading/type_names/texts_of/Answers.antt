use Rattle.std.proofs.Common.{refl, arith}
use Rattle.std.proofs.lemmas.Grind.{common_steps}
use Rattle.std.proofs.lemmas.Option.{slice_get_read}
use Rattle.prod_model.proofs.NameLaws.{list_any_now}
use Rattle.canonical_form.proofs.LookUps.{distinct_before}
use Rattle.canonical_form.proofs.reading.type_names.texts_of.Goals as goal

pub loop-kind-preserved : goal.loop-kind-preserved
loop-kind-preserved c =
    let types = c.args.types.now in
    let k = c.loop-kind.kind-index in
    let at = slice_get_read types _ k c.kind-item.result refl c.loop-kind-test.true c.kind-item.is in
    let fresh = distinct_before (λ d. d.name) types k c.kind-item.result c.requires at in
    let now = list_any_now c.bytes.result.now c.loop-kind.texts.keys in
    grind (arith, common_steps)
