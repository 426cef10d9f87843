-- Each branch is a choice, and where there is none the state is whole.
use Rattle.std.proofs.Common.{sym, ◌∙◌}
use Rattle.std.proofs.lemmas.Bool.{false≢true}
use Rattle.branch_cut.proofs.FixedLaws.{fixed_is_whole}
use Rattle.branch_cut.proofs.choosing.choose.Goals as goal

pub returns-in-Some-clause-choice : goal.returns-in-Some-clause-choice
returns-in-Some-clause-choice c = λ b is. (c.in-Some.ensures.branch b is).choice

pub returns-in-None-clause-choice : goal.returns-in-None-clause-choice
returns-in-None-clause-choice c = λ b is. (c.lowest_branch.ensures.branch b is).choice

pub returns-in-None-clause-whole : goal.returns-in-None-clause-whole
returns-in-None-clause-whole c = (
  λ none. fixed_is_whole c.args.problem.now c.args.p.now c.requires.state (c.lowest_branch.ensures.none none) (c.owed_branch.ensures.none c.in-None.is),
  λ whole. absurd (false≢true (sym c.if-is_whole.false ∙ (c.is_whole.ensures ∙ whole))),
)
