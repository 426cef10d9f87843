use Rattle.std.proofs.Common.{arith}
use Rattle.prod_model.proofs.ShortLists.{formed_is_few}
use Rattle.type_taxonomy.proofs.TaxonomyFacts.{forest_of}
use Rattle.type_taxonomy.proofs.named_inverses.inverses.Goals as goal

pub inverses_few-requires-clause-few : goal.inverses_few-requires-clause-few
inverses_few-requires-clause-few c = let small = formed_is_few c.args.model.now c.requires.formed in omega arith

pub inverses_few-requires-clause-few_ports : goal.inverses_few-requires-clause-few_ports
inverses_few-requires-clause-few_ports c = let small = formed_is_few c.args.model.now c.requires.formed in omega arith

pub inverses_few-requires-clause-forest : goal.inverses_few-requires-clause-forest
inverses_few-requires-clause-forest c = forest_of c.args.model.now c.requires.taxonomy
