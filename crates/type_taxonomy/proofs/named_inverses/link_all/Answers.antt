use Rattle.std.proofs.Common.{◌≡◌, ap, ◌∙◌, length, arith}
use Rattle.prod_model.specs.Taxonomy.{first_id}
use Rattle.type_taxonomy.proofs.LinkedPorts.{none_linked, one_linked, all_linked}
use Rattle.type_taxonomy.proofs.named_inverses.link_all.Goals as goal

pub loop-id-init : goal.loop-id-init
loop-id-init c = none_linked c.args.model.now c.args.rows.now c.requires.declared

pub loop-id-preserved : goal.loop-id-preserved
loop-id-preserved c =
    one_linked c.args.model.now c.loop-id.id c.inverse_of.result c.loop-id.rows c.link_rows.new.rows c.loop-id.invariant c.inverse_of.ensures c.link_rows.ensures

pub returns : goal.returns
returns c =
    let is_end : c.loop-id.id ≡ c.first_id-id-end.result = omega (arith, c.loop-id-test.false, c.loop-id.auto.id-end) in
    all_linked c.args.model.now c.loop-id.id c.loop-id.rows
    (is_end ∙ c.first_id-id-end.ensures.id ∙ ap (λ types. first_id (λ d. d.ports) (λ d. d.name) types (length types)) c.as_slice-types.ensures) c.loop-id.invariant
