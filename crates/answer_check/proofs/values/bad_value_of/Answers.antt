use Rattle.std.proofs.Common.{◌≡◌, ◌∙◌, arith, ap, sym, refl, pos, length, get_or, true, false, to_z, of_z, w64, rules}
use Rattle.std.proofs.lemmas.Int.{ints, to_z-of_z}
use Rattle.prod_model.specs.Taxonomy.{attributes_at}
use Rattle.config_value.specs.Shaped.{has_value}
use Rattle.answer_check.specs.steps.Finds.{BreaksAt}
use Rattle.answer_check.specs.Breaks.{bad_value}
use Rattle.answer_check.proofs.Items.{no_item_next}
use Rattle.answer_check.proofs.BadValues.{found_known, good_value, bad_item_within, value_is_within, attribute_read, value_read}
use Rattle.answer_check.proofs.FewItems.{few_attributes}
use Rattle.answer_check.proofs.values.bad_value_of.Goals as goal

pub bounds-values-k : goal.bounds-values-k
bounds-values-k c =
    value_is_within c.args.problem.now c.args.c.now c.args.i c.get-instance.result.now c.requires.spelled c.get-instance.ensures
    c.attributes_of-attributes.result.now c.as_slice-values.result.now c.attributes_of-attributes.ensures c.as_slice-values.ensures c.loop-k.k c.loop-k-test.true

pub has_value-requires-clause-known : goal.has_value-requires-clause-known
has_value-requires-clause-known c =
    let at = attribute_read c.args.problem.now c.args.c.now c.args.i c.get-instance.result.now c.requires.spelled c.get-instance.ensures
    c.attributes_of-attributes.result.now c.as_slice-values.result.now c.attributes_of-attributes.ensures c.as_slice-values.ensures c.loop-k.k
    c.index-attributes-k.result c.loop-k-test.true c.index-attributes-k.is in
    found_known _ (attributes_at c.args.problem.now c.get-instance.result.now.kind) c.loop-k.k c.index-attributes-k.result at refl

pub overflow_cast-result : goal.overflow_cast-result
overflow_cast-result c =
    omega (arith, few_attributes c.args.problem.now c.get-instance.result.now.kind c.requires.valid, ap length c.attributes_of-attributes.ensures)

pub returns-then-not-has_value : goal.returns-then-not-has_value
returns-then-not-has_value c =
    let value = get_or c.as_slice-values.result.now c.loop-k.k (pos 0) in
    let own : to_z w64 (of_z w64 value) ≡ value = search (rules, ints, to_z-of_z) in
    let at = attribute_read c.args.problem.now c.args.c.now c.args.i c.get-instance.result.now c.requires.spelled c.get-instance.ensures
    c.attributes_of-attributes.result.now c.as_slice-values.result.now c.attributes_of-attributes.ensures c.as_slice-values.ensures c.loop-k.k
    c.index-attributes-k.result c.loop-k-test.true c.index-attributes-k.is in
    let beside = value_read c.args.problem.now c.args.c.now c.args.i c.get-instance.result.now c.requires.spelled c.get-instance.ensures
    c.attributes_of-attributes.result.now c.as_slice-values.result.now c.attributes_of-attributes.ensures c.as_slice-values.ensures c.loop-k.k c.loop-k-test.true in
    let wrong : has_value c.args.problem.now c.index-attributes-k.result value ≡ false =
    ap (has_value c.args.problem.now c.index-attributes-k.result) (sym own) ∙ sym c.has_value.ensures ∙ c.if-not-has_value.true in
    (bad_value refl c.get-instance.result.now c.index-attributes-k.result value c.get-instance.ensures at beside wrong, c.loop-k.invariant)

pub loop-k-preserved : goal.loop-k-preserved
loop-k-preserved c =
    let value = get_or c.as_slice-values.result.now c.loop-k.k (pos 0) in
    let own : to_z w64 (of_z w64 value) ≡ value = search (rules, ints, to_z-of_z) in
    let at = attribute_read c.args.problem.now c.args.c.now c.args.i c.get-instance.result.now c.requires.spelled c.get-instance.ensures
    c.attributes_of-attributes.result.now c.as_slice-values.result.now c.attributes_of-attributes.ensures c.as_slice-values.ensures c.loop-k.k
    c.index-attributes-k.result c.loop-k-test.true c.index-attributes-k.is in
    let beside = value_read c.args.problem.now c.args.c.now c.args.i c.get-instance.result.now c.requires.spelled c.get-instance.ensures
    c.attributes_of-attributes.result.now c.as_slice-values.result.now c.attributes_of-attributes.ensures c.as_slice-values.ensures c.loop-k.k c.loop-k-test.true in
    let right : has_value c.args.problem.now c.index-attributes-k.result value ≡ true =
    ap (has_value c.args.problem.now c.index-attributes-k.result) (sym own) ∙ sym c.has_value.ensures ∙ c.if-not-has_value.false in
    no_item_next (BreaksAt c.args.problem.now c.args.c.now 3 c.args.i) c.loop-k.k c.loop-k.invariant
    (good_value c.args.problem.now c.args.c.now c.args.i c.loop-k.k c.get-instance.result.now c.index-attributes-k.result value c.get-instance.ensures at beside right)

pub returns : goal.returns
returns c = λ k broken.
    let within = bad_item_within c.args.problem.now c.args.c.now c.args.i k c.get-instance.result.now c.get-instance.ensures broken in
    c.loop-k.invariant k (omega (arith, ap length c.attributes_of-attributes.ensures)) broken
