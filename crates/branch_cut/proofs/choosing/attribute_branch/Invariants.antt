use Rattle.std.proofs.Common.{take}
use Rattle.std.specs.Prelude.{IsTrue}
use Rattle.std.specs.List.{list_all}
use Rattle.prod_model.specs.Taxonomy.{attributes_at}
use Rattle.branch_cut.specs.steps.Fixed.{has_one_at}
use Rattle.branch_cut.proofs.choosing.attribute_branch.Given as goal

-- the attributes so far have one value
abbrev pub invariant-loop-attribute : goal.invariant-loop-attribute
invariant-loop-attribute l =
    IsTrue (list_all (λ a. has_one_at l.p l.i a.id) (take l.attribute-index (attributes_at l.problem l.kind)))
