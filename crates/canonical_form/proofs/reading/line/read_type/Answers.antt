use Rattle.std.proofs.Common.{length, sym, ap, ◌∙◌, arith}
use Rattle.std.proofs.lemmas.List.{length-map}
use Rattle.prod_model.proofs.ValidModels.{few_types}
use Rattle.canonical_form.proofs.TypeSteps.{type_found, no_type, no_leaf, leaf_takes}
use Rattle.canonical_form.proofs.reading.line.read_type.Goals as goal

pub place_of-requires : goal.place_of-requires
place_of-requires c =
    let m = c.args.problem.now in
    let few = few_types m c.requires.valid in
    let many = ap length c.requires.named ∙ length-map m.types (λ d. d.name) in
    omega arith

pub returns-in_err-kind-clause-none : goal.returns-in_err-kind-clause-none
returns-in_err-kind-clause-none c none t rest leaf takes =
    no_type c.args.problem.now c.args.names.now c.args.bytes.now c.in_ok-named.named.now c.split_token.result.0.now c.split_token.result.1.now rest t c.requires.valid c.requires.named
    c.in_ok-named.ensures.found c.split_token.ensures (sym c.place_of.ensures ∙ c.in_err-kind.was) leaf takes

pub returns-then-not-is_leaf-clause-none : goal.returns-then-not-is_leaf-clause-none
returns-then-not-is_leaf-clause-none c none t rest leaf takes =
    let m = c.args.problem.now in
    let found = type_found m c.args.names.now c.split_token.result.0.now c.in_ok-kind.kind c.requires.named (sym c.place_of.ensures ∙ c.in_ok-kind.was) in
    no_leaf m c.args.bytes.now c.in_ok-named.named.now c.split_token.result.0.now c.split_token.result.1.now rest t c.in_ok-kind.kind c.requires.valid
    c.in_ok-named.ensures.found c.split_token.ensures found (sym c.is_leaf.ensures ∙ c.if-not-is_leaf.true) leaf takes

pub returns-clause-found : goal.returns-clause-found
returns-clause-found c =
    let m = c.args.problem.now in
    let found = type_found m c.args.names.now c.split_token.result.0.now c.in_ok-kind.kind c.requires.named (sym c.place_of.ensures ∙ c.in_ok-kind.was) in (
      sym c.is_leaf.ensures ∙ c.if-not-is_leaf.false,
      leaf_takes m c.args.bytes.now c.in_ok-named.named.now c.split_token.result.0.now c.split_token.result.1.now c.in_ok-kind.kind c.in_ok-named.ensures.found c.split_token.ensures found,
    )
