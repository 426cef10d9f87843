use Rattle.std.proofs.Common.{length, get_or, ap, arith, ◌∙◌}
use Rattle.type_taxonomy.proofs.BuiltLaws.{length_attributes, length_ports, room_told}
use Rattle.type_taxonomy.proofs.room.has_room.Goals as goal

pub returns : goal.returns
returns c =
    let f = c.args.forest.now in
    let t = c.args.t in
    c.has_room_for.ensures
    ∙ room_told f t c.len-attributes.result c.len-ports.result c.index-as_slice-t.result c.index-as_slice-t-2.result c.requires.built c.requires.known
    (c.index-as_slice-t.is ∙ ap (λ l. get_or l t c.index-as_slice-t.result) c.as_slice.ensures)
    (c.index-as_slice-t-2.is ∙ ap (λ l. get_or l t c.index-as_slice-t-2.result) c.as_slice-2.ensures)
    c.len-attributes.ensures c.len-ports.ensures

pub bounds-as_slice-t : goal.bounds-as_slice-t
bounds-as_slice-t c = omega (arith, ap length c.as_slice.ensures, length_attributes c.args.forest.now c.requires.built)

pub bounds-as_slice-t-2 : goal.bounds-as_slice-t-2
bounds-as_slice-t-2 c = omega (arith, ap length c.as_slice-2.ensures, length_ports c.args.forest.now c.requires.built)
