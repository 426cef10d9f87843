use Rattle.std.proofs.Common.{sym, ◌∙◌, arith}
use Rattle.conflict_learn.proofs.Entries.{still_uncut, cut_here}
use Rattle.conflict_learn.proofs.assumptions.some_names_cut.Goals as goal

-- the entry's reason names it
pub returns-then-names_cut : goal.returns-then-names_cut
returns-then-names_cut c =
    sym (cut_here c.args.trail.now c.loop-n.n c.entry.result.now (omega arith) c.entry.ensures.entry
    (sym c.names_cut.ensures ∙ c.if-names_cut.true))

-- neither an earlier one nor this one does
pub loop-n-preserved : goal.loop-n-preserved
loop-n-preserved c =
    still_uncut c.args.trail.now c.loop-n.n c.entry.result.now (omega arith) c.entry.ensures.entry c.loop-n.invariant
    (sym c.names_cut.ensures ∙ c.if-names_cut.false)
