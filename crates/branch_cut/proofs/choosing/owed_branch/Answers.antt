-- An instance that has to be made is a branch.
use Rattle.std.proofs.Common.{subst}
use Rattle.std.proofs.lemmas.Option.{same_Some}
use Rattle.branch_cut.specs.Branching.{IsBranch}
use Rattle.branch_cut.proofs.OwedLaws.{owed_told}
use Rattle.branch_cut.proofs.choosing.owed_branch.Goals as goal

pub returns-in-Some-clause-branch : goal.returns-in-Some-clause-branch
returns-in-Some-clause-branch c = λ b is.
    subst (IsBranch c.args.problem.now c.args.p.now) (same_Some _ b is)
    (owed_told c.args.problem.now c.args.p.now c.owed_port.result c.in-Some.instance c.in-Some.port c.made-next.result c.model.ensures.valid c.requires.state
    c.owed_port.ensures.owed c.requires.room c.owed_port.ensures.open c.in-Some.is c.made-next.ensures)
