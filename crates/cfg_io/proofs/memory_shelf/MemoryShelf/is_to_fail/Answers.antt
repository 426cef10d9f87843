use Rattle.cfg_io.proofs.CountLaws.{kept_fits}
use Rattle.cfg_io.proofs.memory_shelf.MemoryShelf.is_to_fail.Goals as goal

-- each kept count is one of 64 bits
pub returns-clause-bounded : goal.returns-clause-bounded
returns-clause-bounded c = λ n. rw (← c.self.view_is) (kept_fits n c.self.inside.faults.counts.items)
