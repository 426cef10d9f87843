use Rattle.domain_store.proofs.Words.{words_emptied, words_same, words_fewer}
use Rattle.partial_state.proofs.kinds.keep.Goals as goal

pub returns-then-left-eq0-clause-narrowed : goal.returns-then-left-eq0-clause-narrowed
returns-then-left-eq0-clause-narrowed c = words_emptied c.args.kinds.now c.args.mask c.requires c.if-left-eq0.true

pub returns-then-left-kinds-clause-narrowed : goal.returns-then-left-kinds-clause-narrowed
returns-then-left-kinds-clause-narrowed c = words_same c.args.kinds.now c.args.mask c.requires c.if-left-kinds.true

pub returns-clause-narrowed : goal.returns-clause-narrowed
returns-clause-narrowed c = words_fewer c.args.kinds.now c.args.mask c.if-left-eq0.false c.if-left-kinds.false
