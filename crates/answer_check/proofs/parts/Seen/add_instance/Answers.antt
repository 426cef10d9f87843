use Rattle.std.proofs.Common.{◌≡◌, [], ap₂, subst, rules}
use Rattle.std.specs.Prelude.{if◌then◌else◌}
use Rattle.std.specs.Iterator.Adapters.{zip_first, zip_second}
use Rattle.std.specs.List.{flat_map, zip}
use Rattle.std.specs.Slice.Iter.{iter_rest}
use Rattle.std.proofs.lemmas.Slice.Zip.{Zip-more, either_empty_from_Zip}
use Rattle.prod_model.specs.Taxonomy.{ports_at}
use Rattle.config_value.specs.Shaped.{is_part}
use Rattle.answer_check.specs.steps.Seen.{HasSeen, SeesMore}
use Rattle.answer_check.proofs.Grown.{adds_pair, adds_no_pair}
use Rattle.answer_check.proofs.parts.Seen.add_instance.Goals as goal

-- at first all are to come
pub loop-port-init : goal.loop-port-init
loop-port-init c = λ last rest.
    let first : iter_rest (zip_first c.into_iter-port-iterator.result) ≡ ports_at c.args.problem.now c.args.instance.now.kind = search rules in
    let second : iter_rest (zip_second c.into_iter-port-iterator.result) ≡ c.args.instance.now.links = search rules in
    subst (λ pairs. SeesMore c.args.self.now (flat_map (λ pair. if is_part pair.0 then pair.1 else []) pairs) last) (ap₂ zip first second) rest

-- the links of one part port less are to come
pub loop-port-preserved : goal.loop-port-preserved
loop-port-preserved c = λ last rest.
    let more = Zip-more _ c.next.new.self _ (c.in-Some.port, c.in-Some.links) c.in-Some.is c.next.ensures.steps in
    let next = subst (λ links. SeesMore c.loop-port.self (if is_part c.in-Some.port.now then links else []) c.add_port.new.self) c.as_slice-in-loop-port.ensures c.add_port.ensures in
    c.loop-port.invariant last (adds_pair HasSeen (λ pair. if is_part pair.0 then pair.1 else []) c.loop-port.self _ _ c.add_port.new.self c.in-Some.port.now c.in-Some.links.now _ _ more.0 more.1 next last rest)

pub returns : goal.returns
returns c =
    let spent = either_empty_from_Zip _ c.next.new.self _ c.in-None.is c.next.ensures.steps in
    c.loop-port.invariant c.loop-port.self (adds_no_pair HasSeen (λ pair. if is_part pair.0 then pair.1 else []) c.loop-port.self _ _ spent)
