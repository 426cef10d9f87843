-- Filtering keeps what the branch covers, and a failure ends it.
use Rattle.std.proofs.Common.{◌≡◌, ◌≤◌, subst, ◌∙◌, true}
use Rattle.state_space.specs.Size.{size_of}
use Rattle.state_space.specs.Covers.{Covers}
use Rattle.reason_trail.specs.Trails.{cut_to}
use Rattle.seq_search.specs.OpenBranches.{CoversOpen, open_size}
use Rattle.seq_search.specs.steps.Opens.{open_at}
use Rattle.seq_search.specs.steps.Nodes.{IsEntered, IsFound, IfSplit}
use Rattle.seq_search.proofs.Along.{extends_on}
use Rattle.seq_search.proofs.Looking.{if_ok, all_ok, found_below, still_covered, lesser_below, if_split}
use Rattle.seq_search.proofs.node.explore.Goals as goal

pub returns-in-Failed-clause-found : goal.returns-in-Failed-clause-found
returns-in-Failed-clause-found g c =
    let j = c.args.job.now in
    let t0 = c.args.trail.now in
    let t1 = c.enter.new.trail in
    let t2 = c.run.new.trail in
    let b = open_at t0 c.args.taken in
    let entered : IsEntered j.model b t1.state true = subst (λ k. IsEntered k.model b t1.state true) c.requires.job
    (subst (IsEntered t0.job.model b t1.state) c.if-not-branch.false c.in_ok-enter.ensures.entered) in
    let job : t1.job ≡ j = c.enter.ensures.extends.job ∙ c.requires.job in
    if_ok (IsFound j c.args.piece.now c.args.store.now.nogoods c.args.best.now (Covers j.model t2.state) t2.state)
    (IsFound j c.args.piece.now c.args.store.now.nogoods c.args.best.now (CoversOpen j.model b) t2.state) c.taught.result
    (found_below j c.args.piece.now c.args.store.now.nogoods c.args.best.now (CoversOpen j.model b) (Covers j.model t2.state) t2.state (still_covered j c.args.piece.now t1 t2 b job entered c.run.ensures.filters))
    (c.taught.ensures.found c.args.piece.now c.args.store.now.nogoods c.args.best.now)

pub returns-in-Failed-clause-extends : goal.returns-in-Failed-clause-extends
returns-in-Failed-clause-extends g c =
    extends_on (cut_to c.args.trail.now c.args.taken.len) c.enter.new.trail c.run.new.trail c.enter.ensures.extends c.run.ensures.filters.extends

pub returns-in-Stable-clause-found : goal.returns-in-Stable-clause-found
returns-in-Stable-clause-found g c =
    let j = c.args.job.now in
    let t0 = c.args.trail.now in
    let t1 = c.enter.new.trail in
    let t2 = c.run.new.trail in
    let b = open_at t0 c.args.taken in
    let entered : IsEntered j.model b t1.state true = subst (λ k. IsEntered k.model b t1.state true) c.requires.job
    (subst (IsEntered t0.job.model b t1.state) c.if-not-branch.false c.in_ok-enter.ensures.entered) in
    let job : t1.job ≡ j = c.enter.ensures.extends.job ∙ c.requires.job in
    if_ok (IsFound j c.args.piece.now c.args.store.now.nogoods c.args.best.now (Covers j.model t2.state) t2.state)
    (IsFound j c.args.piece.now c.args.store.now.nogoods c.args.best.now (CoversOpen j.model b) t2.state) c.look.result
    (found_below j c.args.piece.now c.args.store.now.nogoods c.args.best.now (CoversOpen j.model b) (Covers j.model t2.state) t2.state (still_covered j c.args.piece.now t1 t2 b job entered c.run.ensures.filters))
    c.look.ensures.found

pub returns-in-Stable-clause-lesser : goal.returns-in-Stable-clause-lesser
returns-in-Stable-clause-lesser g c =
    let j = c.args.job.now in
    let t0 = c.args.trail.now in
    let t1 = c.enter.new.trail in
    let t2 = c.run.new.trail in
    let b = open_at t0 c.args.taken in
    let entered : IsEntered j.model b t1.state true = subst (λ k. IsEntered k.model b t1.state true) c.requires.job
    (subst (IsEntered t0.job.model b t1.state) c.if-not-branch.false c.in_ok-enter.ensures.entered) in
    let job : t1.job ≡ j = c.enter.ensures.extends.job ∙ c.requires.job in
    let lesser = lesser_below j t1 t2 b job entered c.run.ensures.filters.extends c.look.ensures.right in
    if_ok (λ found. Unit {0}) (IfSplit (size_of j.model t2.state ≤ open_size j.model b)) c.look.result (λ found h. if_split (size_of j.model t2.state ≤ open_size j.model b) lesser found) (all_ok c.look.result)

pub returns-in-Stable-clause-extends : goal.returns-in-Stable-clause-extends
returns-in-Stable-clause-extends g c =
    extends_on (cut_to c.args.trail.now c.args.taken.len) c.enter.new.trail c.run.new.trail c.enter.ensures.extends c.run.ensures.filters.extends
