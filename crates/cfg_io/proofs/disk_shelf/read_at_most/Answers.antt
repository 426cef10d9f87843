use Rattle.std.proofs.Common.{arith}
use Rattle.cfg_io.proofs.StreamLaws.{takes_on}
use Rattle.cfg_io.proofs.disk_shelf.read_at_most.Goals as goal

-- the bytes so far, and then those of the last piece
pub returns-in_err-take_piece-clause-taken : goal.returns-in_err-take_piece-clause-taken
returns-in_err-take_piece-clause-taken g c =
    takes_on _ _ _ c.loop.bytes.items _ _ c.loop.invariant.taken c.take_piece.ensures.taken (omega arith)
