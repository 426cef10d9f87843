use Rattle.std.proofs.Common.{length, ap, arith}
use Rattle.nogood_store.proofs.Shelves.{search_begins, search_ends}
use Rattle.nogood_store.proofs.shelf.Shelf.find.Goals as goal

pub loop-k-init : goal.loop-k-init
loop-k-init c =
    search_begins c.args.trail.now.job.model c.args.keep.now c.args.trail.now.state c.args.self.now c.requires c.least_bare-least.result
    c.least_bare-least.ensures.found c.least_bare-least.ensures.low

pub loop-k-preserved : goal.loop-k-preserved
loop-k-preserved c = c.search_row-least.ensures.searched c.args.self.now c.loop-k.invariant

pub returns-clause-first : goal.returns-clause-first
returns-clause-first c =
    search_ends c.args.trail.now.job.model c.args.keep.now c.args.trail.now.state c.args.self.now c.loop-k.self c.loop-k.k c.loop-k.least c.loop-k.invariant
    (omega (arith, ap length c.loop-k.invariant.kept.literals, c.count-k-end.ensures, c.loop-k-test.false))
