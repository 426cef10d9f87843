-- A nogood that applies leaves nothing, nor does a cut; a whole state one configuration; and a choice parts what is there.
use Rattle.std.proofs.Common.{subst}
use Rattle.std.specs.Prelude.{IsTrue}
use Rattle.state_space.specs.State.{IsState}
use Rattle.state_space.specs.Covers.{Covers}
use Rattle.state_space.specs.Whole.{is_whole, whole_configuration}
use Rattle.reason_trail.proofs.Trails.{now_is_state}
use Rattle.branch_cut.specs.Branching.{IsChoice, fits_either, entails_neither}
use Rattle.seq_search.specs.steps.Nodes.{IsFound, IsTested}
use Rattle.seq_search.proofs.Looking.{excluded_is_barren, dead_is_barren, whole_found, if_ok}
use Rattle.seq_search.proofs.node.look.Goals as goal

pub returns-then-is_excluded-clause-found : goal.returns-then-is_excluded-clause-found
returns-then-is_excluded-clause-found c =
    let j = c.args.job.now in
    let t = c.args.trail.now in
    let right = c.job-task.ensures.right in
    let state : IsState j.model t.state = subst (λ k. IsState k.model t.state) c.requires.job (now_is_state t right) in
    excluded_is_barren j c.args.piece.now c.args.store.now t.state c.len-right.ensures.right c.requires.model c.requires.order state
    (c.is_excluded.ensures.some c.if-is_excluded.true) c.args.best.now

pub returns-then-is_cut-clause-found : goal.returns-then-is_cut-clause-found
returns-then-is_cut-clause-found c =
    dead_is_barren c.args.job.now c.args.piece.now c.args.best.now c.args.trail.now.state (c.is_cut.ensures.dead c.if-is_cut.true)

pub returns-in-Some-clause-found : goal.returns-in-Some-clause-found
returns-in-Some-clause-found c =
    let j = c.args.job.now in
    let t = c.args.trail.now in
    let b = c.in-Some.branch in
    let model = c.problem-2.ensures.problem in
    let state = c.state-2.ensures.state in
    record {
      keeps = λ x sought covers. covers;
      choice = subst (λ s. IsChoice j.model s b) state (subst (λ m. IsChoice m c.state-2.result.now b) model (c.choose.ensures.choice b c.in-Some.is));
      fitting = subst (λ s. IsTrue (fits_either j.model s b)) state (subst (λ m. IsTrue (fits_either m c.state-2.result.now b)) model (c.choose.ensures.fits b c.in-Some.is));
      unknown = subst (λ s. IsTrue (entails_neither j.model s b)) state (subst (λ m. IsTrue (entails_neither m c.state-2.result.now b)) model (c.choose.ensures.unknown b c.in-Some.is));
      no_nogood = c.is_excluded.ensures.none c.if-is_excluded.false;
      no_cut = c.is_cut.ensures.demanded c.if-is_cut.false;
    }

pub returns-in-None-clause-found : goal.returns-in-None-clause-found
returns-in-None-clause-found c =
    let j = c.args.job.now in
    let t = c.args.trail.now in
    let right = c.job-task.ensures.right in
    let task = c.problem-2.ensures.fitting in
    let at : IsState j.model t.state = subst (λ k. IsState k.model t.state) c.requires.job (now_is_state t right) in
    let whole : IsTrue (is_whole t.state) = subst (λ s. IsTrue (is_whole s)) c.state-2.ensures.state (c.choose.ensures.whole.0 c.in-None.is) in
    if_ok (IsTested j c.args.piece.now c.args.best.now (whole_configuration j.model t.state))
    (IsFound j c.args.piece.now c.args.store.now.nogoods c.args.best.now (Covers j.model t.state) t.state) c.test_whole.result
    (whole_found j c.args.piece.now c.args.store.now.nogoods c.args.best.now t.state task at whole) c.test_whole.ensures
