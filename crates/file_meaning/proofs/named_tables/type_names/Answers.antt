use Rattle.std.proofs.Common.{◌≡◌, ◌∙◌, List, [], ap, map, take, arith}
use Rattle.std.specs.List.{fold}
use Rattle.std.proofs.lemmas.Grind.{common_steps}
use Rattle.prod_model.specs.declared.model.TypeDecl.{TypeDecl}
use Rattle.file_meaning.specs.steps.FirstDeclared.{with_new}
use Rattle.file_meaning.proofs.TypeNames.{type_name_more, type_names_declared}
use Rattle.file_meaning.proofs.named_tables.type_names.Goals as goal

pub loop-kind-preserved : goal.loop-kind-preserved
loop-kind-preserved c =
    type_name_more c.as_slice-kind-items.result.now c.loop-kind.kind-index c.kind-item.result c.loop-kind.names c.put_name.new.names c.bytes.result.now
    c.loop-kind-test.true c.kind-item.is c.bytes.ensures c.loop-kind.invariant c.in_ok-put_name.ensures

pub returns : goal.returns
returns c =
    let all : take c.loop-kind.kind-index c.as_slice-kind-items.result.now ≡ c.args.model.now.types = grind (arith, common_steps) in
    c.loop-kind.invariant ∙ ap (λ (ts : List TypeDecl). fold with_new [] (map (λ d. d.name) ts)) all ∙ type_names_declared c.args.model.now c.requires
