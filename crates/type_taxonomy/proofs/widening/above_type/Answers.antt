use Rattle.std.proofs.Common.{length, ap, ◌∙◌, arith, get_or}
use Rattle.std.proofs.lemmas.Result.{IfOk-weaker}
use Rattle.prod_model.specs.Forest.{line}
use Rattle.type_taxonomy.proofs.Items.{length_table}
use Rattle.type_taxonomy.proofs.Widenings.{above_told}
use Rattle.type_taxonomy.proofs.widening.above_type.Goals as goal

pub bounds-as_slice-t : goal.bounds-as_slice-t
bounds-as_slice-t c =
    let f = c.args.forest.now in
    omega (arith, ap length c.as_slice.ensures, length_table (line f.model.now.types) f.lines (length f.model.now.types) c.requires.built.lines)

pub returns : goal.returns
returns c =
    let f = c.args.forest.now in
    let read = c.index-as_slice-t.is ∙ ap (λ l. get_or l c.args.t c.index-as_slice-t.result) c.as_slice.ensures in
    IfOk-weaker c.declared_above.result _ _
    (λ above told.
    above_told f.model.now.types c.as_slice-2.result.now f.lines c.args.t c.index-as_slice-t.result c.as_slice-3.result.now above c.requires.built.lines c.requires.within read
    c.as_slice-2.ensures c.as_slice-3.ensures told)
    c.declared_above.ensures
