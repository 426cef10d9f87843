use Rattle.std.proofs.Common.{refl}
use Rattle.std.proofs.lemmas.Option.{slice_get_read}
use Rattle.prod_model.specs.Forest.{line}
use Rattle.type_taxonomy.proofs.Lines.{line_more}
use Rattle.type_taxonomy.proofs.line.line_of.Goals as goal

pub loop-preserved : goal.loop-preserved
loop-preserved c =
    let found = c.in-Some-get.ensures.lookup in
    let is_type = slice_get_read c.args.types.now _ c.in-Some.u c.in-Some-get.d.now refl found.3.0 found.1 in
    line_more c.args.types.now (line c.args.types.now c.args.t) c.loop.members _ c.loop.next _ c.loop.counter c.in-Some.u c.in-Some-get.d.now c.loop-test.true
    c.loop.invariant c.in-Some.is is_type c.in_ok-push.ensures.ok
