use Rattle.partial_state.proofs.KindLaws.{kinds_narrowed, kinds_formed}
use Rattle.partial_state.proofs.kinds.KindSet.keep.Goals as goal

pub returns-clause-narrowed : goal.returns-clause-narrowed
returns-clause-narrowed c =
    rw (← c.self.view_is)
    (kinds_narrowed c.self.inside.mask c.keep.new.kinds c.args.mask c.keep.result c.self.invariant.1 c.keep.ensures.fits c.keep.ensures.narrowed)

pub returns-clause-formed : goal.returns-clause-formed
returns-clause-formed c = kinds_formed c.keep.new.kinds
