use Rattle.std.proofs.Common.{◌≡◌, ◌∙◌, ap, sym, length, arith}
use Rattle.std.proofs.lemmas.Option.{same_Some}
use Rattle.config_value.specs.Satisfies.{meets as meets_of}
use Rattle.config_value.specs.Value.{is_true_at}
use Rattle.answer_check.proofs.FaultlessLaws.{request_bounded}
use Rattle.base_laws.proofs.Places.{read_at}
use Rattle.answer_check.proofs.rules.meets.Goals as goal

pub truth_at-requires-clause-bounded : goal.truth_at-requires-clause-bounded
truth_at-requires-clause-bounded c =
    let request = read_at c.as_slice.result.now c.args.order.now.requests c.args.k c.index-as_slice-k.result c.as_slice.ensures
    (omega (arith, c.requires.request, ap length c.as_slice.ensures)) c.index-as_slice-k.is in
    request_bounded c.args.problem.now c.args.order.now c.args.c.now c.args.k c.index-as_slice-k.result c.requires.order c.requires.shaped request

-- the request that was read is the one of that number
pub returns : goal.returns
unfolding meets_of
returns c = λ r at.
    let request = read_at c.as_slice.result.now c.args.order.now.requests c.args.k c.index-as_slice-k.result c.as_slice.ensures
    (omega (arith, c.requires.request, ap length c.as_slice.ensures)) c.index-as_slice-k.is in
    let same : c.index-as_slice-k.result ≡ r = same_Some c.index-as_slice-k.result r (sym request ∙ at) in
    c.truth_at.ensures ∙ ap (λ s. is_true_at c.args.problem.now c.args.c.now 0 s.holds) same
