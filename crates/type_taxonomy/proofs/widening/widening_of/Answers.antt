use Rattle.std.proofs.Common.{refl, sym, subst, Some, None, MatchOption}
use Rattle.type_taxonomy.specs.steps.Built.{NarrowsAll, IsWideningOf, of_attribute, of_port}
use Rattle.type_taxonomy.proofs.Widenings.{attributes_told, ports_told}
use Rattle.type_taxonomy.proofs.widening.widening_of.Goals as goal

pub returns-in-Some : goal.returns-in-Some
returns-in-Some c =
    of_attribute c.in-Some.place refl
    (attributes_told c.args.forest.now.model.now c.args.t c.args.decl.now c.args.above.now c.as_slice.result.now (Some c.in-Some.place) c.requires.above c.as_slice.ensures c.in-Some.ensures)

pub returns-in_err-place : goal.returns-in_err-place
returns-in_err-place c =
    let m = c.args.forest.now.model.now in
    let d = c.args.decl.now in
    let attributes = attributes_told m c.args.t d c.args.above.now c.as_slice.result.now None c.requires.above c.as_slice.ensures c.in_default.ensures in
    let ports = ports_told m c.args.t d c.args.above.now c.as_slice-2.result.now None c.requires.above c.as_slice-2.ensures c.in_err-place.ensures in
    subst (λ r. MatchOption r (NarrowsAll m c.args.t d) (IsWideningOf m c.args.t d)) (sym c.from_residual.ensures) (record { attributes = attributes; ports = ports })

pub returns : goal.returns
returns c =
    let m = c.args.forest.now.model.now in
    let d = c.args.decl.now in
    of_port c.in_ok-place.place refl
    (attributes_told m c.args.t d c.args.above.now c.as_slice.result.now None c.requires.above c.as_slice.ensures c.in_default.ensures)
    (ports_told m c.args.t d c.args.above.now c.as_slice-2.result.now (Some c.in_ok-place.place) c.requires.above c.as_slice-2.ensures c.in_ok-place.ensures)
