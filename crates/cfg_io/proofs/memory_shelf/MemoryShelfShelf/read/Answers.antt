use Rattle.std.proofs.Common.{ap}
use Rattle.cfg_io.specs.MemoryShelves.{ShelfState}
use Rattle.cfg_io.proofs.CountLaws.{OneFault, one_fault}
use Rattle.cfg_io.proofs.memory_shelf.MemoryShelfShelf.read.Goals as goal

fault : (c : goal.In_ok-count_fault-in-Err-Failed)
    → OneFault c.args.name.now c.args.self.now.faults c.count_fault.new.self.faults
fault c = one_fault _ _ _ c.answer.ensures.bounded
    (ap (λ (s : ShelfState). s.faults) c.in_ok-count_fault-in-Err-Failed.ensures.ok)

pub returns-in_ok-count_fault-in-Err-Failed-clause-failed : goal.returns-in_ok-count_fault-in-Err-Failed-clause-failed
returns-in_ok-count_fault-in-Err-Failed-clause-failed c = λ _. (fault c).rose

pub returns-in_ok-count_fault-in-Err-Failed-clause-later : goal.returns-in_ok-count_fault-in-Err-Failed-clause-later
returns-in_ok-count_fault-in-Err-Failed-clause-later c = (fault c).later

pub returns-in_ok-count_fault-in-Err-Failed-clause-others : goal.returns-in_ok-count_fault-in-Err-Failed-clause-others
returns-in_ok-count_fault-in-Err-Failed-clause-others c = (fault c).others

pub returns-in_ok-count_fault-in-Err-Failed-clause-bounded : goal.returns-in_ok-count_fault-in-Err-Failed-clause-bounded
returns-in_ok-count_fault-in-Err-Failed-clause-bounded c = (fault c).bounded
