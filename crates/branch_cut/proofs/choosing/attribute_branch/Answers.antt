-- The instance has the attributes of its type.
use Rattle.base_laws.proofs.Places.{read_at}
use Rattle.branch_cut.proofs.FixedLaws.{type_known, attribute_there, values_split}
use Rattle.branch_cut.proofs.choosing.attribute_branch.Goals as goal

pub attrs_of-attribute-items-requires : goal.attrs_of-attribute-items-requires
attrs_of-attribute-items-requires c = type_known c.args.problem.now c.args.p.now c.args.i c.args.kind c.requires.state c.requires.sole

pub value_branch-branch-requires : goal.value_branch-branch-requires
value_branch-branch-requires c =
    attribute_there c.args.problem.now c.args.p.now c.args.i c.args.kind c.requires.state c.requires.sole c.loop-attribute.attribute-index c.attribute-item.result
    (read_at c.attrs_of-attribute-items.result.now _ c.loop-attribute.attribute-index c.attribute-item.result c.attrs_of-attribute-items.ensures c.loop-attribute-test.true c.attribute-item.is)

pub returns-then-is_some-clause-branch : goal.returns-then-is_some-clause-branch
returns-then-is_some-clause-branch c = λ b is.
    values_split c.args.problem.now c.args.p.now c.args.i c.args.kind c.requires.state c.requires.sole c.loop-attribute.attribute-index c.attribute-item.result b
    (read_at c.attrs_of-attribute-items.result.now _ c.loop-attribute.attribute-index c.attribute-item.result c.attrs_of-attribute-items.ensures c.loop-attribute-test.true c.attribute-item.is)
    (c.value_branch-branch.ensures.splits b is)
