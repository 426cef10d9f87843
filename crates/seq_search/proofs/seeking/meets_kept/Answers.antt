-- A kept request that is not met is found at its place.
use Rattle.std.proofs.Common.{◌≡◌, ◌<◌, sym, subst, ◌∙◌, ap, arith, length, not, ◌||◌, get_or, false}
use Rattle.std.proofs.lemmas.Option.{slice_get-get_or}
use Rattle.config_value.specs.Satisfies.{meets, meets_kept}
use Rattle.base_laws.specs.Places.{IsAt}
use Rattle.reason_trail.proofs.Trails.{element_at}
use Rattle.seq_search.proofs.Sought.{one_fails, all_pass, one_more}
use Rattle.seq_search.proofs.seeking.meets_kept.Goals as goal

pub returns-then-not-meets_if : goal.returns-then-not-meets_if
unfolding meets_kept
returns-then-not-meets_if c =
    let j = c.args.job.now in
    let keep : c.as_slice-kept-items.result.now ≡ j.goal.keep = c.as_slice-kept-items.ensures ∙ ap (λ g. g.keep) c.goal.ensures in
    let within : c.loop-k.k < length j.goal.keep = subst (λ ks. c.loop-k.k < length ks) keep c.loop-k-test.true in
    let kept : IsAt j.goal.keep c.loop-k.k (get_or c.as_slice-kept-items.result.now c.loop-k.k false) =
    subst (λ ks. IsAt ks c.loop-k.k (get_or c.as_slice-kept-items.result.now c.loop-k.k false)) keep (slice_get-get_or c.as_slice-kept-items.result.now c.loop-k.k false c.loop-k-test.true) in
    let asked = element_at j.order.requests c.loop-k.k (omega (arith, within, c.problem-problem.ensures.fitting.each_request)) in
    sym (one_fails (λ kept r. not kept || meets j.model c.args.c.now r) j.goal.keep j.order.requests c.loop-k.k (get_or c.as_slice-kept-items.result.now c.loop-k.k false) asked.0 kept asked.1 (sym (c.meets_if.ensures asked.0 asked.1) ∙ c.if-not-meets_if.true))

pub loop-k-preserved : goal.loop-k-preserved
loop-k-preserved c =
    let j = c.args.job.now in
    let keep : c.as_slice-kept-items.result.now ≡ j.goal.keep = c.as_slice-kept-items.ensures ∙ ap (λ g. g.keep) c.goal.ensures in
    let within : c.loop-k.k < length j.goal.keep = subst (λ ks. c.loop-k.k < length ks) keep c.loop-k-test.true in
    let kept : IsAt j.goal.keep c.loop-k.k (get_or c.as_slice-kept-items.result.now c.loop-k.k false) =
    subst (λ ks. IsAt ks c.loop-k.k (get_or c.as_slice-kept-items.result.now c.loop-k.k false)) keep (slice_get-get_or c.as_slice-kept-items.result.now c.loop-k.k false c.loop-k-test.true) in
    let asked = element_at j.order.requests c.loop-k.k (omega (arith, within, c.problem-problem.ensures.fitting.each_request)) in
    one_more (λ kept r. not kept || meets j.model c.args.c.now r) j.goal.keep j.order.requests c.loop-k.k (get_or c.as_slice-kept-items.result.now c.loop-k.k false) asked.0 kept asked.1 (sym (c.meets_if.ensures asked.0 asked.1) ∙ c.if-not-meets_if.false) c.loop-k.invariant

pub returns : goal.returns
unfolding meets_kept
returns c =
    let j = c.args.job.now in
    let keep : c.as_slice-kept-items.result.now ≡ j.goal.keep = c.as_slice-kept-items.ensures ∙ ap (λ g. g.keep) c.goal.ensures in
    let long = ap length keep in
    sym (all_pass (λ kept r. not kept || meets j.model c.args.c.now r) j.goal.keep j.order.requests c.problem-problem.ensures.fitting.each_request
    (λ i x y low. c.loop-k.invariant i x y (omega (arith, low, long, c.loop-k-test.false))))
