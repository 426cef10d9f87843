use Rattle.std.proofs.Common.{◌≡◌, refl, ℕ, List, [], ◌∷◌, ◌++◌, ◌<◌, ◌^◌, length, rules, arith, ap, sym, subst, ◌∙◌, to_z, of_z, w64}
use Rattle.std.specs.Prelude.{IsTrue}
use Rattle.std.specs.List.{list_all}
use Rattle.std.proofs.lemmas.Int.{ints, to_z-of_z}
use Rattle.prod_model.specs.Names.{is_word}
use Rattle.prod_model.specs.Taxonomy.{attributes_of, ports_of}
use Rattle.canonical_form.specs.steps.Grammar.{at_members}
use Rattle.canonical_form.specs.steps.Reading.{Refuses}
use Rattle.canonical_form.proofs.FirstRows.{row_at, many_attributes}
use Rattle.canonical_form.proofs.ModelTexts.{first_words_formed, first_words_few}
use Rattle.canonical_form.proofs.MemberSteps.{next_entry, values_next, values_refused}
use Rattle.canonical_form.proofs.reading.values.read_attributes.Goals as goal

pub index-requires-in-loop-k : goal.index-requires-in-loop-k
index-requires-in-loop-k c =
    let m = c.args.known.now.problem.now in
    let row = row_at m c.args.known.now.rows.items c.args.kind c.index.result.now c.requires.firsts c.requires.typed c.index.ensures in
    let many = many_attributes m c.args.kind c.index.result.now row in
    let long = ap length c.attrs_of-attrs.ensures in
    let within = c.loop-k-test.true in
    omega arith

pub read_attribute-requires-clause-formed : goal.read_attribute-requires-clause-formed
read_attribute-requires-clause-formed c =
    let m = c.args.known.now.problem.now in
    let row = row_at m c.args.known.now.rows.items c.args.kind c.index.result.now c.requires.firsts c.requires.typed c.index.ensures in
    let e = next_entry (λ d. d.now) m m c.args.kind c.index.result.now.attributes.items c.attrs_of-attrs.result.now c.loop-k.k c.index-in-loop-k.result.now c.index-attrs-k.result refl
    row.names row.words c.attrs_of-attrs.ensures c.loop-k-test.true c.index-in-loop-k.ensures c.index-attrs-k.is in
    subst (λ (words : List (List ℕ)). IsTrue (list_all is_word words)) (sym e.words) (first_words_formed m e.entry.what.id c.requires.valid)

pub read_attribute-requires-clause-few : goal.read_attribute-requires-clause-few
read_attribute-requires-clause-few c =
    let m = c.args.known.now.problem.now in
    let row = row_at m c.args.known.now.rows.items c.args.kind c.index.result.now c.requires.firsts c.requires.typed c.index.ensures in
    let e = next_entry (λ d. d.now) m m c.args.kind c.index.result.now.attributes.items c.attrs_of-attrs.result.now c.loop-k.k c.index-in-loop-k.result.now c.index-attrs-k.result refl
    row.names row.words c.attrs_of-attrs.ensures c.loop-k-test.true c.index-in-loop-k.ensures c.index-attrs-k.is in
    let few = first_words_few m e.entry.what.id c.requires.valid in
    subst (λ (words : List (List ℕ)). length words < 2 ^ 63) (sym e.words) (omega arith)

pub returns-in_default-clause-refused : goal.returns-in_default-clause-refused
returns-in_default-clause-refused c =
    let m = c.args.known.now.problem.now in
    let n = c.args.number in
    let row = row_at m c.args.known.now.rows.items c.args.kind c.index.result.now c.requires.firsts c.requires.typed c.index.ensures in
    let e = next_entry (λ d. d.now) m m c.args.kind c.index.result.now.attributes.items c.attrs_of-attrs.result.now c.loop-k.k c.index-in-loop-k.result.now c.index-attrs-k.result refl
    row.names row.words c.attrs_of-attrs.ensures c.loop-k-test.true c.index-in-loop-k.ensures c.index-attrs-k.is in
    let stops = values_refused m n (attributes_of m.types c.args.kind) (ports_of m.types c.args.kind) c.loop-k.k c.index-in-loop-k.result.now.now c.index-attrs-k.result c.args.bytes.now c.loop-k.values c.loop-k.rest.now e c.loop-k.invariant (c.in_default.ensures.none refl) in
    subst (Refuses m (at_members n (attributes_of m.types c.args.kind) (ports_of m.types c.args.kind)) c.args.bytes.now) (sym c.at.ensures) stops

pub loop-k-preserved : goal.loop-k-preserved
loop-k-preserved c =
    let m = c.args.known.now.problem.now in
    let v = c.in-Some.value in
    let row = row_at m c.args.known.now.rows.items c.args.kind c.index.result.now c.requires.firsts c.requires.typed c.index.ensures in
    let e = next_entry (λ d. d.now) m m c.args.kind c.index.result.now.attributes.items c.attrs_of-attrs.result.now c.loop-k.k c.index-in-loop-k.result.now c.index-attrs-k.result refl
    row.names row.words c.attrs_of-attrs.ensures c.loop-k-test.true c.index-in-loop-k.ensures c.index-attrs-k.is in
    let own : to_z w64 (of_z w64 v) ≡ v = search (rules, ints, to_z-of_z) in
    let pushed = c.in_ok-push.ensures.ok ∙ ap (λ u. c.loop-k.values ++ u ∷ []) own in
    values_next m c.args.number (attributes_of m.types c.args.kind) c.loop-k.k c.index-in-loop-k.result.now.now c.index-attrs-k.result c.args.bytes.now c.loop-k.values c.loop-k.rest.now v c.in-Some.after.now c.push.new.self
    e c.loop-k.invariant c.in-Some.ensures.found.0 c.in-Some.ensures.found.1 pushed
