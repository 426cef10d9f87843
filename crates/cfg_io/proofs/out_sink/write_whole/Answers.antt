use Rattle.std.proofs.lemmas.List.{take_rest}
use Rattle.cfg_io.proofs.StreamLaws.{leaves_on}
use Rattle.cfg_io.proofs.out_sink.write_whole.Goals as goal

-- what the writer took is no longer left
pub loop-preserved : goal.loop-preserved
loop-preserved g c = rw take_rest
    (leaves_on _ _ _ _ c.loop.rest.now c.in_ok-count.count c.loop.invariant c.in_ok-count.ensures.appends)
