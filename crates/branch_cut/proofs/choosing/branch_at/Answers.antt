-- The mask of the instance's types tells whether there is one alone.
use Rattle.std.proofs.Common.{subst, sym, ◌∙◌}
use Rattle.std.proofs.lemmas.Option.{same_Some, none-some}
use Rattle.branch_cut.specs.Branching.{IsBranch}
use Rattle.branch_cut.proofs.KindMasks.{some_kind, only_kind, lowest_kind_branch}
use Rattle.branch_cut.proofs.choosing.branch_at.Goals as goal

pub sole-requires : goal.sole-requires
sole-requires c = some_kind c.args.problem.now c.args.p.now c.args.i c.kinds-kinds.result c.requires.state c.requires.made c.kinds-kinds.ensures

pub attribute_branch-requires-clause-sole : goal.attribute_branch-requires-clause-sole
attribute_branch-requires-clause-sole c =
    only_kind c.args.problem.now c.args.p.now c.args.i c.kinds-kinds.result c.requires.state c.requires.made c.kinds-kinds.ensures c.in-Some.kind ((c.sole.ensures c.in-Some.kind).0 c.in-Some.is)

pub port_branch-requires-clause-sole : goal.port_branch-requires-clause-sole
port_branch-requires-clause-sole c =
    only_kind c.args.problem.now c.args.p.now c.args.i c.kinds-kinds.result c.requires.state c.requires.made c.kinds-kinds.ensures c.in-Some.kind ((c.sole.ensures c.in-Some.kind).0 c.in-Some.is)

pub returns-in-None-clause-branch : goal.returns-in-None-clause-branch
returns-in-None-clause-branch c = λ b is.
    subst (IsBranch c.args.problem.now c.args.p.now) (same_Some _ b is)
    (lowest_kind_branch c.args.problem.now c.args.p.now c.args.i c.kinds-kinds.result c.requires.state c.requires.made c.kinds-kinds.ensures c.kinds-kinds.type_inv
    (λ t power. none-some t (sym c.in-None.is ∙ (c.sole.ensures t).1 power)))

pub returns-in-None-attribute_branch-clause-none : goal.returns-in-None-attribute_branch-clause-none
returns-in-None-attribute_branch-clause-none c = λ none. record {
  kind = c.in-Some.kind;
  sole = only_kind c.args.problem.now c.args.p.now c.args.i c.kinds-kinds.result c.requires.state c.requires.made c.kinds-kinds.ensures c.in-Some.kind ((c.sole.ensures c.in-Some.kind).0 c.in-Some.is);
  values = c.attribute_branch.ensures.none c.in-None-attribute_branch.is;
  ports = c.port_branch.ensures.none none;
}
