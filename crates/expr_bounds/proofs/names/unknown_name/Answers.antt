use Rattle.std.proofs.Common.{◌≡◌, Some, rules}
use Rattle.prod_model.specs.Taxonomy.{attribute_of as attribute_at}
use Rattle.prod_model.proofs.FirstWords.{attribute_of_same_id}
use Rattle.expr_bounds.proofs.names.unknown_name.Goals as goal

-- what was found under the id has the id
pub is_known-requires-clause-has : goal.is_known-requires-clause-has
is_known-requires-clause-has c =
    let a = c.in-Some-attribute_of.attribute.now in
    let found : attribute_at c.args.model.now c.args.at c.in-Is.a ≡ Some a = search rules in
    attribute_of_same_id c.args.model.now c.args.at c.in-Is.a a found
