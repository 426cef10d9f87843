use Rattle.cfg_io.specs.Streams.{Leaves}
use Rattle.cfg_io.proofs.out_sink.write_whole.Given as goal

-- the writer has got the piece but for the rest
abbrev pub invariant-loop : goal.invariant-loop
invariant-loop g l = Leaves (g.W.Write.contents l.initial.out) (g.W.Write.contents l.out) l.piece l.rest
