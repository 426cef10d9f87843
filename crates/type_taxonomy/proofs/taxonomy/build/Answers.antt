use Rattle.std.proofs.Common.{arith}
use Rattle.std.proofs.lemmas.Result.{IfOk-weaker}
use Rattle.prod_model.proofs.ShortLists.{formed_is_few}
use Rattle.type_taxonomy.proofs.taxonomy.build.Goals as goal

pub build_few-requires : goal.build_few-requires
build_few-requires c =
    let small = formed_is_few c.args.model.now c.requires in
    record { few = omega arith; few_attributes = omega arith; few_ports = omega arith }

pub returns-clause-taxonomy : goal.returns-clause-taxonomy
returns-clause-taxonomy c = IfOk-weaker c.build_few.result _ _ (λ tables told. told c.requires.distinct_names) c.build_few.ensures.taxonomy
