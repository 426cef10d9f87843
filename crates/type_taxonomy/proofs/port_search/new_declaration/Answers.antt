use Rattle.std.proofs.Common.{◌<◌, ap, sym, length, slice_get, ◌∙◌, refl, arith}
use Rattle.std.specs.List.{filter}
use Rattle.prod_model.specs.Taxonomy.{first_id, new_declarations}
use Rattle.type_taxonomy.specs.steps.PortSearch.{is_new}
use Rattle.type_taxonomy.proofs.NewEntries.{first_id_more}
use Rattle.type_taxonomy.proofs.PortLaws.{of_type, past_all}
use Rattle.type_taxonomy.proofs.port_search.new_declaration.Goals as goal

pub returns-then-left-count : goal.returns-then-left-count
returns-then-left-count c =
    let types = c.args.types.now in
    let t = c.loop-t.t in
    let are = ap (filter (is_new types t)) c.declared_at-declared.ensures in
    let below : c.loop-t.left < length (new_declarations (λ d. d.ports) (λ d. d.name) types t) =
    omega (arith, c.if-left-count.true, c.count_new-count.ensures.count, ap length are) in
    c.nth_new.ensures ∙ ap (λ ds. slice_get ds c.loop-t.left) are
    ∙ of_type types t c.loop-t.left c.args.id c.loop-t-test.true below c.loop-t.invariant

pub loop-t-preserved : goal.loop-t-preserved
loop-t-preserved c =
    let types = c.args.types.now in
    let t = c.loop-t.t in
    let size = c.count_new-count.ensures.count ∙ ap (λ ds. length (filter (is_new types t) ds)) c.declared_at-declared.ensures in
    let next = first_id_more (λ d. d.ports) (λ d. d.name) types t (first_id (λ d. d.ports) (λ d. d.name) types t) c.count_new-count.result refl size in
    omega (arith, c.loop-t.invariant, next, c.if-left-count.false)

pub returns : goal.returns
returns c =
    sym (past_all c.args.types.now c.loop-t.t c.loop-t.left c.args.id (omega (arith, c.loop-t-test.false, c.loop-t.auto.t-end)) c.loop-t.invariant)
