use Rattle.std.proofs.Common.{sym, arith}
use Rattle.partial_state.specs.steps.Generated.{instance_elsewhere}
use Rattle.partial_state.proofs.Generations.{none_changed, one_changed, first_count}
use Rattle.partial_state.proofs.generation.make_rows_elsewhere.Goals as goal

pub loop-i-init : goal.loop-i-init
loop-i-init c = sym (none_changed (instance_elsewhere c.args.n) c.args.rows.now.items)

pub loop-i-preserved : goal.loop-i-preserved
loop-i-preserved c =
    one_changed (instance_elsewhere c.args.n) c.args.rows.now.items c.loop-i.rows.items c.loop-i.i c.index_mut.result.now c.make_elsewhere.new.self
    c.loop-i.invariant (omega arith) c.index_mut.ensures.value c.make_elsewhere.ensures

pub returns : goal.returns
returns c = first_count (instance_elsewhere c.args.n) c.args.rows.now.items c.loop-i.rows.items c.loop-i.i c.args.n c.loop-i.invariant (omega arith)
