use Rattle.std.proofs.Common.{refl, ap, sym, arith, slice_get, ◌∙◌}
use Rattle.std.proofs.lemmas.Option.{slice_get_read}
use Rattle.type_taxonomy.proofs.Widenings.{narrows_more, narrows_each}
use Rattle.type_taxonomy.proofs.widening.first_widening.Goals as goal

pub returns-in-Some : goal.returns-in-Some
returns-in-Some c =
    let is = slice_get_read c.as_slice-types.result.now _ c.loop-t.t c.index-types-t.result refl c.loop-t-test.true c.index-types-t.is in
    record {
      kind = c.loop-t.t;
      declared = c.index-types-t.result;
      is = ap (λ l. slice_get l c.loop-t.t) (sym c.as_slice-types.ensures) ∙ is;
      widens = c.in-Some.ensures;
      before = λ u e below here. c.loop-t.invariant u e below (ap (λ l. slice_get l u) c.as_slice-types.ensures ∙ here);
    }

pub loop-t-preserved : goal.loop-t-preserved
loop-t-preserved c =
    let is = slice_get_read c.as_slice-types.result.now _ c.loop-t.t c.index-types-t.result refl c.loop-t-test.true c.index-types-t.is in
    narrows_more c.args.forest.now.model.now c.as_slice-types.result.now c.loop-t.t c.index-types-t.result c.loop-t.invariant is c.in_default.ensures

pub returns : goal.returns
returns c = λ t d here.
    narrows_each c.args.forest.now.model.now c.as_slice-types.result.now c.loop-t.t c.loop-t.invariant (omega arith) t d (ap (λ l. slice_get l t) c.as_slice-types.ensures ∙ here)
