use Rattle.std.proofs.Common.{◌<◌, [], get_or, length, set, ap, ◌∙◌, arith}
use Rattle.std.specs.Prelude.{None}
use Rattle.prod_model.specs.declared.model.PortAt.{PortAt}
use Rattle.prod_model.specs.declared.model.PortKind.TheVariants.{Part}
use Rattle.prod_model.proofs.TaxonomyLaws.{row_read}
use Rattle.type_taxonomy.specs.steps.PortSearch.{given}
use Rattle.type_taxonomy.proofs.LinkedPorts.{still_known, place_more}
use Rattle.type_taxonomy.proofs.named_inverses.link_row.Goals as goal

pub loop-place-preserved : goal.loop-place-preserved
loop-place-preserved c =
    let rows = c.args.rows.now in
    let now = c.loop-place.rows in
    let kind = c.args.kind in
    let place = c.loop-place.place in
    let was = c.index-as_slice-kind.result in
    let is = c.index-as_slice-kind-in-loop-place.result in
    let row = row_read rows kind was c.requires (c.index-as_slice-kind.is ∙ ap (λ rs. get_or rs kind was) c.as_slice.ensures) in
    let within : place < length (get_or rows kind []) = omega (arith, c.loop-place-test.true, c.len-ports.ensures, ap length row) in
    let d : PortAt = record { id = 0; kind = Part; target = 0; low = 0; high = 0; inverse = None } in
    let x = get_or c.as_slice-in-loop-place-2.result.now place d in
    let read =
    row_read now kind is (still_known rows now kind _ c.requires c.loop-place.invariant)
    (c.index-as_slice-kind-in-loop-place.is ∙ ap (λ rs. get_or rs kind is) c.as_slice-in-loop-place.ensures) in
    place_more (given c.args.id c.args.inverse) rows now c.set.new.self kind place x d c.requires within c.loop-place.invariant
    (ap (λ r. get_or r place d) (c.as_slice-in-loop-place-2.ensures ∙ read))
    (c.set.ensures ∙ ap (λ p. set now kind (set (get_or now kind []) place p)) c.given.ensures)
