use Rattle.std.proofs.Common.{◌≡◌, ◌<◌, ◌^◌, ap, length, ◌∙◌, sym, refl, arith}
use Rattle.std.proofs.lemmas.Option.{slice_get_read}
use Rattle.type_taxonomy.proofs.Items.{sum_by_take_le}
use Rattle.type_taxonomy.proofs.NewEntries.{first_id_more}
use Rattle.type_taxonomy.proofs.PortLaws.{new_here, few_after}
use Rattle.type_taxonomy.proofs.port_search.first_id.Goals as goal

pub loop-u-preserved : goal.loop-u-preserved
loop-u-preserved c =
    let types = c.args.types.now in
    let u = c.loop-u.u in
    let kind = c.index-types-u.result in
    let within : u < length types = omega (arith, c.loop-u-test.true, c.requires.within) in
    let are = c.as_slice.ensures ∙ ap (λ d. d.ports) (sym c.index-types-u.is) in
    let is_type = slice_get_read types _ u kind refl within c.index-types-u.is in
    record {
      id = first_id_more (λ d. d.ports) (λ d. d.name) types u c.loop-u.id c.count_new.result c.loop-u.invariant.id
          (c.count_new.ensures.count ∙ ap length (new_here types u kind c.as_slice.result.now is_type are));
      few = sum_by_take_le (λ d. length d.ports) types u kind c.loop-u.id c.count_new.result within c.index-types-u.is c.loop-u.invariant.few
          (omega (arith, c.count_new.ensures.few, ap length are));
    }

pub returns-clause-few : goal.returns-clause-few
returns-clause-few c =
    let is_end : c.loop-u.u ≡ c.args.t = omega (arith, c.loop-u-test.false, c.loop-u.auto.u-end) in
    few_after c.args.types.now c.args.t c.loop-u.id (2 ^ 32) (rw (← is_end) c.loop-u.invariant.few) c.requires.few_ports
