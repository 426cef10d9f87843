use Rattle.std.proofs.Common.{◌≡◌, ◌∙◌, ◌&&◌, ap, ap₂, sym, take, rules}
use Rattle.prod_model.specs.declared.expr.Expr.{the_lemmas}
use Rattle.prod_model.specs.declared.expr.Expr.TheOpen.{And, Or, Not, If, All, Any}
use Rattle.prod_model.specs.declared.expr.Expr.TheViews.{out-Expr}
use Rattle.state_values.specs.Kleene.{is_true, is_false}
use Rattle.std.proofs.lemmas.List.{take_all}
use Rattle.std.specs.List.{list_all, list_any}
use Rattle.instance_set.specs.InstanceSets.{is_member}
use Rattle.state_values.specs.Seen.{truth}
use Rattle.state_values.proofs.PartsThere.{truths_there, form_there, have_port}
use Rattle.state_values.proofs.SetTruths.{and_told, or_told, not_told, if_told, all_told, any_told, tells_all, tells_any}
use Rattle.state_values.proofs.SimpleTruths.{IsPlain, simple_told}
use Rattle.state_values.proofs.truths.+truths.Goals as goal

-- ---- what a truth asks for is there

pub truths_among-all_among-requires : goal.truths_among-all_among-requires
truths_among-all_among-requires t c =
    let has = truths_there c.args.problem.now c.args.kind c.args.e.now c.requires.truth in
    search (rules, the_lemmas)

pub truths_among-any_among-requires : goal.truths_among-any_among-requires
truths_among-any_among-requires t c =
    let has = truths_there c.args.problem.now c.args.kind c.args.e.now c.requires.truth in
    search (rules, the_lemmas)

pub truths_among-truths_among-requires : goal.truths_among-truths_among-requires
truths_among-truths_among-requires t c =
    let has = truths_there c.args.problem.now c.args.kind c.args.e.now c.requires.truth in
    search (rules, the_lemmas)

pub truths_among-truths_among-premise-requires : goal.truths_among-truths_among-premise-requires
truths_among-truths_among-premise-requires t c =
    let has = truths_there c.args.problem.now c.args.kind c.args.e.now c.requires.truth in
    search (rules, the_lemmas)

pub truths_among-truths_among-conclusion-requires : goal.truths_among-truths_among-conclusion-requires
truths_among-truths_among-conclusion-requires t c =
    let has = truths_there c.args.problem.now c.args.kind c.args.e.now c.requires.truth in
    search (rules, the_lemmas)

pub truths_among-port_at-requires : goal.truths_among-port_at-requires
truths_among-port_at-requires t c = (form_there c.args.problem.now c.args.kind c.args.e.now (All c.in-All.port c.in-All.a) (search (rules, the_lemmas)) c.requires.truth).0

pub truths_among-linkable-linked-requires-clause-has : goal.truths_among-linkable-linked-requires-clause-has
truths_among-linkable-linked-requires-clause-has t c =
    have_port c.args.problem.now c.model-model.ensures.valid.declared c.args.p.now c.requires.state c.args.kind c.in-All.port c.args.among c.requires.stand (form_there c.args.problem.now c.args.kind c.args.e.now (All c.in-All.port c.in-All.a) (search (rules, the_lemmas)) c.requires.truth).0

pub truths_among-truths_among-found-requires : goal.truths_among-truths_among-found-requires
truths_among-truths_among-found-requires t c =
    let there = (form_there c.args.problem.now c.args.kind c.args.e.now (All c.in-All.port c.in-All.a) (search (rules, the_lemmas)) c.requires.truth).1 c.port_at.result.now c.port_at.ensures in (
      search (rules, the_lemmas),
      (c.requires.state, (c.linkable-linked.ensures.stand, search (rules, the_lemmas))),
    )

pub truths_among-all_linked-requires : goal.truths_among-all_linked-requires
truths_among-all_linked-requires t c =
    have_port c.args.problem.now c.model-model.ensures.valid.declared c.args.p.now c.requires.state c.args.kind c.in-All.port c.args.among c.requires.stand (form_there c.args.problem.now c.args.kind c.args.e.now (All c.in-All.port c.in-All.a) (search (rules, the_lemmas)) c.requires.truth).0

pub truths_among-port_at-requires-in-Any : goal.truths_among-port_at-requires-in-Any
truths_among-port_at-requires-in-Any t c = (form_there c.args.problem.now c.args.kind c.args.e.now (Any c.in-Any.port c.in-Any.a) (search (rules, the_lemmas)) c.requires.truth).0

pub truths_among-linkable-linked-requires-in-Any-clause-has : goal.truths_among-linkable-linked-requires-in-Any-clause-has
truths_among-linkable-linked-requires-in-Any-clause-has t c =
    have_port c.args.problem.now c.model-model.ensures.valid.declared c.args.p.now c.requires.state c.args.kind c.in-Any.port c.args.among c.requires.stand (form_there c.args.problem.now c.args.kind c.args.e.now (Any c.in-Any.port c.in-Any.a) (search (rules, the_lemmas)) c.requires.truth).0

pub truths_among-truths_among-found-requires-in-Any : goal.truths_among-truths_among-found-requires-in-Any
truths_among-truths_among-found-requires-in-Any t c =
    let there = (form_there c.args.problem.now c.args.kind c.args.e.now (Any c.in-Any.port c.in-Any.a) (search (rules, the_lemmas)) c.requires.truth).1 c.port_at-in-Any.result.now c.port_at-in-Any.ensures in (
      search (rules, the_lemmas),
      (c.requires.state, (c.linkable-linked-in-Any.ensures.stand, search (rules, the_lemmas))),
    )

pub truths_among-all_linked-requires-in-Any : goal.truths_among-all_linked-requires-in-Any
truths_among-all_linked-requires-in-Any t c =
    have_port c.args.problem.now c.model-model.ensures.valid.declared c.args.p.now c.requires.state c.args.kind c.in-Any.port c.args.among c.requires.stand (form_there c.args.problem.now c.args.kind c.args.e.now (Any c.in-Any.port c.in-Any.a) (search (rules, the_lemmas)) c.requires.truth).0

-- ---- all arguments

pub all_among-returns : goal.all_among-returns
all_among-returns t c =
    let whole : take c.loop-e.e-index c.args.args.now ≡ c.args.args.now = take_all c.loop-e.e-index c.args.args.now c.loop-e-test.false in
    tells_all c.args.among (truth c.args.problem.now c.args.p.now c.args.kind) c.args.args.now c.loop-e.all
    (λ i. c.loop-e.invariant.holding i ∙ ap (λ es. is_member c.args.among i && list_all (λ e. is_true (truth c.args.problem.now c.args.p.now c.args.kind i e)) es) whole)
    (λ i. c.loop-e.invariant.failing i ∙ ap (λ es. is_member c.args.among i && list_any (λ e. is_false (truth c.args.problem.now c.args.p.now c.args.kind i e)) es) whole)

pub any_among-returns : goal.any_among-returns
any_among-returns t c =
    let whole : take c.loop-e.e-index c.args.args.now ≡ c.args.args.now = take_all c.loop-e.e-index c.args.args.now c.loop-e-test.false in
    tells_any c.args.among (truth c.args.problem.now c.args.p.now c.args.kind) c.args.args.now c.loop-e.any
    (λ i. c.loop-e.invariant.holding i ∙ ap (λ es. is_member c.args.among i && list_any (λ e. is_true (truth c.args.problem.now c.args.p.now c.args.kind i e)) es) whole)
    (λ i. c.loop-e.invariant.failing i ∙ ap (λ es. is_member c.args.among i && list_all (λ e. is_false (truth c.args.problem.now c.args.p.now c.args.kind i e)) es) whole)

-- ---- what is told

pub truths_among-returns-in-And : goal.truths_among-returns-in-And
truths_among-returns-in-And t c =
    let is : out-Expr c.args.e.now ≡ And c.in-And.args = search (rules, the_lemmas) in
    and_told c.args.problem.now c.args.p.now c.args.kind c.args.among c.args.e.now c.all_among.result c.as_slice.result.now (is ∙ ap And (sym c.as_slice.ensures)) c.all_among.ensures

pub truths_among-returns-in-Or : goal.truths_among-returns-in-Or
truths_among-returns-in-Or t c =
    let is : out-Expr c.args.e.now ≡ Or c.in-Or.args = search (rules, the_lemmas) in
    or_told c.args.problem.now c.args.p.now c.args.kind c.args.among c.args.e.now c.any_among.result c.as_slice-in-Or.result.now (is ∙ ap Or (sym c.as_slice-in-Or.ensures)) c.any_among.ensures

pub truths_among-returns-in-Not : goal.truths_among-returns-in-Not
truths_among-returns-in-Not t c =
    let is : out-Expr c.args.e.now ≡ Not c.in-Not.a = search (rules, the_lemmas) in
    not_told c.args.problem.now c.args.p.now c.args.kind c.args.among c.args.e.now c.negated.result c.get.result.now c.truths_among.result (is ∙ ap Not (sym c.get.ensures)) c.truths_among.ensures c.negated.ensures

pub truths_among-returns-in-If : goal.truths_among-returns-in-If
truths_among-returns-in-If t c =
    let is : out-Expr c.args.e.now ≡ If c.in-If.a c.in-If.b = search (rules, the_lemmas) in
    if_told c.args.problem.now c.args.p.now c.args.kind c.args.among c.args.e.now c.either.result c.get-in-If.result.now c.get-in-If-2.result.now c.truths_among-premise.result c.truths_among-conclusion.result c.negated-in-If.result
    (is ∙ ap₂ If (sym c.get-in-If.ensures) (sym c.get-in-If-2.ensures)) c.truths_among-premise.ensures c.truths_among-conclusion.ensures c.negated-in-If.ensures
    c.either.ensures.holding c.either.ensures.failing

pub truths_among-returns-in-All : goal.truths_among-returns-in-All
truths_among-returns-in-All t c =
    let is : out-Expr c.args.e.now ≡ All c.in-All.port c.in-All.a = search (rules, the_lemmas) in
    let there = form_there c.args.problem.now c.args.kind c.args.e.now (All c.in-All.port c.in-All.a) is c.requires.truth in
    all_told c.args.problem.now c.args.p.now c.requires.state c.args.kind c.in-All.port c.port_at.result.now c.port_at.ensures c.get-in-All.result.now c.args.e.now c.linkable-linked.result c.linkable-linked.ensures.stand
    c.args.among (have_port c.args.problem.now c.model-model.ensures.valid.declared c.args.p.now c.requires.state c.args.kind c.in-All.port c.args.among c.requires.stand there.0)
    c.linkable-linked.ensures.all c.truths_among-found.result c.truths_among-found.ensures c.all_linked.result (is ∙ ap (All c.in-All.port) (sym c.get-in-All.ensures))
    c.all_linked.ensures.holding c.all_linked.ensures.failing

pub truths_among-returns-in-Any : goal.truths_among-returns-in-Any
truths_among-returns-in-Any t c =
    let is : out-Expr c.args.e.now ≡ Any c.in-Any.port c.in-Any.a = search (rules, the_lemmas) in
    let there = form_there c.args.problem.now c.args.kind c.args.e.now (Any c.in-Any.port c.in-Any.a) is c.requires.truth in
    any_told c.args.problem.now c.args.p.now c.requires.state c.args.kind c.in-Any.port c.port_at-in-Any.result.now c.port_at-in-Any.ensures c.get-in-Any.result.now c.args.e.now c.linkable-linked-in-Any.result c.linkable-linked-in-Any.ensures.stand
    c.args.among (have_port c.args.problem.now c.model-model.ensures.valid.declared c.args.p.now c.requires.state c.args.kind c.in-Any.port c.args.among c.requires.stand there.0)
    c.linkable-linked-in-Any.ensures.all c.truths_among-found-in-Any.result c.truths_among-found-in-Any.ensures c.negated-in-Any-2.result (is ∙ ap (Any c.in-Any.port) (sym c.get-in-Any.ensures))
    c.negated-in-Any.result c.all_linked-in-Any.result c.negated-in-Any.ensures c.all_linked-in-Any.ensures.holding c.all_linked-in-Any.ensures.failing c.negated-in-Any-2.ensures

pub truths_among-returns-in_default : goal.truths_among-returns-in_default
truths_among-returns-in_default t c =
    let plain : IsPlain (out-Expr c.args.e.now) = search (rules, the_lemmas) in
    simple_told c.args.problem.now c.args.p.now c.args.kind c.args.among c.args.e.now c.simple_among.result plain c.simple_among.ensures
