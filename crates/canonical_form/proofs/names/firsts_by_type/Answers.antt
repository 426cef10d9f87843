use Rattle.std.proofs.Common.{◌∷◌, [], length, ap, sym, ◌∙◌, subst, arith}
use Rattle.std.proofs.lemmas.List.{length-append}
use Rattle.prod_model.proofs.ValidModels.{few_types}
use Rattle.canonical_form.specs.declared.names.Firsts.{Firsts}
use Rattle.canonical_form.specs.steps.FirstRows.{AreFirstsAt, AreFirstsFrom}
use Rattle.canonical_form.proofs.FirstRows.{firsts_more}
use Rattle.canonical_form.proofs.names.firsts_by_type.Goals as goal

pub overflow_cast-t-end : goal.overflow_cast-t-end
overflow_cast-t-end c = let few = few_types c.args.model.now c.requires.valid in omega (arith, few)

-- the row of the type is put behind those of the types so far
pub loop-t-preserved : goal.loop-t-preserved
loop-t-preserved c =
    let m = c.args.model.now in
    let rows = c.loop-t.rows.items in
    let row : Firsts = record { attributes = c.in_ok-first_attributes.field-0; ports = c.in_ok-first_ports.field-0 } in
    let at : AreFirstsAt m c.loop-t.t row = record {
      names = c.in_ok-first_attributes.ensures.names;
      words = c.in_ok-first_attributes.ensures.words;
      ports = c.in_ok-first_ports.ensures.names;
    } in
    let pushed = c.in_ok-push.ensures.items in
    let next = firsts_more m 0 rows row c.loop-t.invariant.rows (subst (λ k. AreFirstsAt m k row) (omega (arith, c.loop-t.invariant.long)) at) in
    record {
      rows = subst (λ xs. AreFirstsFrom m 0 xs) (sym pushed) next;
      long = ap length pushed ∙ length-append rows (row ∷ []) ∙ omega (arith, c.loop-t.invariant.long);
    }
