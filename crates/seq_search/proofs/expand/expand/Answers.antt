-- The parts before the node and after it.
use Rattle.std.proofs.Common.{◌≤◌, ◌++◌, refl, ap, subst, sym, ◌∙◌, arith}
use Rattle.state_space.specs.State.{IsState}
use Rattle.state_space.specs.Size.{size_of}
use Rattle.reason_trail.specs.Trails.{length_of}
use Rattle.seq_search.specs.OpenBranches.{CoversOpen, open_size}
use Rattle.seq_search.specs.Advances.{IsNode}
use Rattle.seq_search.specs.steps.Opens.{open_at, but_last, MayBeTaken, search_of}
use Rattle.seq_search.specs.steps.Nodes.{IsFound, IfSplit, kept_after, best_after}
use Rattle.seq_search.proofs.Expanding.{split_last}
use Rattle.seq_search.proofs.Whole.{on_err, kept_same, search_same, is_within, may_be_taken, same_search, still_kept, next_kept, next_is_node}
use Rattle.seq_search.proofs.expand.expand.Goals as goal

pub explore-requires-clause-within : goal.explore-requires-clause-within
explore-requires-clause-within g c =
    let items = c.args.branches.now.items in
    let k = c.index-taken.result.now in
    let apart = split_last items c.len.result k (omega (arith, c.len.ensures)) (omega (arith, c.requires.some)) c.index-taken.ensures in
    is_within (g.P.Propagate.job c.args.props.now) c.args.trail.now c.args.store.now c.args.piece.now items c.args.best.now c.args.learnt.now.items k apart c.requires.kept

pub explore-requires-clause-taken : goal.explore-requires-clause-taken
explore-requires-clause-taken g c =
    let items = c.args.branches.now.items in
    let k = c.index-taken.result.now in
    let apart = split_last items c.len.result k (omega (arith, c.len.ensures)) (omega (arith, c.requires.some)) c.index-taken.ensures in
    subst (λ j. MayBeTaken j.model (open_at c.args.trail.now k)) c.requires.job
    (may_be_taken (g.P.Propagate.job c.args.props.now) c.args.trail.now c.args.store.now c.args.piece.now items c.args.best.now c.args.learnt.now.items k apart c.requires.kept)

pub returns-in_err-found-clause-kept : goal.returns-in_err-found-clause-kept
returns-in_err-found-clause-kept g c =
    let items = c.args.branches.now.items in
    let k = c.index-taken.result.now in
    let apart = split_last items c.len.result k (omega (arith, c.len.ensures)) (omega (arith, c.requires.some)) c.index-taken.ensures in
    still_kept (g.P.Propagate.job c.args.props.now) c.args.trail.now c.args.store.now c.args.piece.now items c.args.best.now c.args.learnt.now.items k apart c.requires.kept
    (g.P.Propagate.job c.explore.new.props) c.explore.new.trail c.explore.new.store (c.explore.ensures.same_job ∙ sym c.requires.job) c.explore.ensures.extends c.explore.ensures.searched

pub returns-in_err-found-clause-unchanged : goal.returns-in_err-found-clause-unchanged
returns-in_err-found-clause-unchanged g c =
    let items = c.args.branches.now.items in
    let k = c.index-taken.result.now in
    let apart = split_last items c.len.result k (omega (arith, c.len.ensures)) (omega (arith, c.requires.some)) c.index-taken.ensures in
    on_err _ _ (same_search (g.P.Propagate.job c.args.props.now) c.args.trail.now c.args.store.now c.args.piece.now items c.args.best.now c.args.learnt.now.items k apart c.requires.kept
    (g.P.Propagate.job c.explore.new.props) c.explore.new.trail c.explore.new.store (c.explore.ensures.same_job ∙ sym c.requires.job) c.explore.ensures.extends c.explore.ensures.searched)

pub returns-in_err-commit-clause-kept : goal.returns-in_err-commit-clause-kept
returns-in_err-commit-clause-kept g c =
    let items = c.args.branches.now.items in
    let k = c.index-taken.result.now in
    let apart = split_last items c.len.result k (omega (arith, c.len.ensures)) (omega (arith, c.requires.some)) c.index-taken.ensures in
    let e = c.in_err-commit.ensures in
    kept_same (g.P.Propagate.job c.explore.new.props) c.explore.new.trail c.args.piece.now c.explore.new.store c.commit.new.store items c.commit.new.branches.items c.args.best.now c.commit.new.best c.args.learnt.now.items c.commit.new.learnt.items
    e.same_store e.same_branches e.same_best e.same_learnt
    (still_kept (g.P.Propagate.job c.args.props.now) c.args.trail.now c.args.store.now c.args.piece.now items c.args.best.now c.args.learnt.now.items k apart c.requires.kept
    (g.P.Propagate.job c.explore.new.props) c.explore.new.trail c.explore.new.store (c.explore.ensures.same_job ∙ sym c.requires.job) c.explore.ensures.extends c.explore.ensures.searched)

pub returns-in_err-commit-clause-unchanged : goal.returns-in_err-commit-clause-unchanged
returns-in_err-commit-clause-unchanged g c =
    let items = c.args.branches.now.items in
    let k = c.index-taken.result.now in
    let apart = split_last items c.len.result k (omega (arith, c.len.ensures)) (omega (arith, c.requires.some)) c.index-taken.ensures in
    let e = c.in_err-commit.ensures in
    on_err _ _ (search_same (g.P.Propagate.job c.explore.new.props) c.explore.new.trail c.args.piece.now c.explore.new.store c.commit.new.store items c.commit.new.branches.items c.args.best.now c.commit.new.best c.args.learnt.now.items c.commit.new.learnt.items
    e.same_store e.same_branches e.same_best e.same_learnt
    ∙ same_search (g.P.Propagate.job c.args.props.now) c.args.trail.now c.args.store.now c.args.piece.now items c.args.best.now c.args.learnt.now.items k apart c.requires.kept
    (g.P.Propagate.job c.explore.new.props) c.explore.new.trail c.explore.new.store (c.explore.ensures.same_job ∙ sym c.requires.job) c.explore.ensures.extends c.explore.ensures.searched)

pub returns-clause-kept : goal.returns-clause-kept
returns-clause-kept g c =
    let t0 = c.args.trail.now in
    let t2 = c.explore.new.trail in
    let found = c.in_ok-found.found in
    let items = c.args.branches.now.items in
    let k = c.index-taken.result.now in
    let apart = split_last items c.len.result k (omega (arith, c.len.ensures)) (omega (arith, c.requires.some)) c.index-taken.ensures in
    let e = c.in_ok-commit.ensures in
    let f : IsFound t0.job c.args.piece.now c.args.store.now.nogoods c.args.best.now (CoversOpen t0.job.model (open_at t0 k)) t2.state found =
    subst (λ j. IsFound j c.args.piece.now c.args.store.now.nogoods c.args.best.now (CoversOpen j.model (open_at t0 k)) t2.state found) (sym c.requires.job) c.in_ok-found.ensures.found in
    kept_same (g.P.Propagate.job c.explore.new.props) t2 c.args.piece.now c.commit.new.store c.commit.new.store
    (but_last items ++ kept_after (length_of t2) found) c.commit.new.branches.items (best_after c.args.best.now found) c.commit.new.best c.commit.new.learnt.items c.commit.new.learnt.items
    refl (e.branches ∙ ap (λ n. but_last items ++ kept_after n found) c.len-end.ensures) e.best refl
    (next_kept (g.P.Propagate.job c.args.props.now) t0 c.args.store.now c.args.piece.now items c.args.best.now c.args.learnt.now.items k apart c.requires.kept
    (g.P.Propagate.job c.explore.new.props) t2 c.explore.new.store (c.explore.ensures.same_job ∙ sym c.requires.job) c.explore.ensures.extends c.explore.ensures.searched
    found f c.commit.new.store c.commit.new.learnt.items e.learnt c.commit.ensures.model c.commit.ensures.order)

pub returns-clause-node : goal.returns-clause-node
returns-clause-node g c =
    let t0 = c.args.trail.now in
    let t2 = c.explore.new.trail in
    let found = c.in_ok-found.found in
    let items = c.args.branches.now.items in
    let k = c.index-taken.result.now in
    let apart = split_last items c.len.result k (omega (arith, c.len.ensures)) (omega (arith, c.requires.some)) c.index-taken.ensures in
    let e = c.in_ok-commit.ensures in
    let f : IsFound t0.job c.args.piece.now c.args.store.now.nogoods c.args.best.now (CoversOpen t0.job.model (open_at t0 k)) t2.state found =
    subst (λ j. IsFound j c.args.piece.now c.args.store.now.nogoods c.args.best.now (CoversOpen j.model (open_at t0 k)) t2.state found) (sym c.requires.job) c.in_ok-found.ensures.found in
    let lesser : IfSplit (size_of t0.job.model t2.state ≤ open_size t0.job.model (open_at t0 k)) found =
    subst (λ j. IfSplit (size_of j.model t2.state ≤ open_size j.model (open_at t0 k)) found) (sym c.requires.job) c.in_ok-found.ensures.lesser in
    let settled : IfSplit (g.P.Propagate.settled t0.job t2.state) found =
    subst (λ j. IfSplit (g.P.Propagate.settled j t2.state) found) (sym c.requires.job) c.in_ok-found.ensures.settled in
    let state : IsState t0.job.model t2.state = subst (λ j. IsState j.model t2.state) c.explore.ensures.extends.job c.state-state.ensures.problem in
    let same = search_same (g.P.Propagate.job c.explore.new.props) t2 c.args.piece.now c.commit.new.store c.commit.new.store
    (but_last items ++ kept_after (length_of t2) found) c.commit.new.branches.items (best_after c.args.best.now found) c.commit.new.best c.commit.new.learnt.items c.commit.new.learnt.items
    refl (e.branches ∙ ap (λ n. but_last items ++ kept_after n found) c.len-end.ensures) e.best refl in
    subst (IsNode g.P.Propagate.settled (search_of t0 c.args.store.now c.args.piece.now items c.args.best.now c.args.learnt.now.items)) (sym same)
    (next_is_node (g.P.Propagate.job c.args.props.now) t0 c.args.store.now c.args.piece.now items c.args.best.now c.args.learnt.now.items k apart c.requires.kept
    (g.P.Propagate.job c.explore.new.props) t2 c.explore.new.store (c.explore.ensures.same_job ∙ sym c.requires.job) c.explore.ensures.extends c.explore.ensures.searched
    found f c.commit.new.store c.commit.new.learnt.items e.learnt c.commit.ensures.model c.commit.ensures.order g.P.Propagate.settled lesser settled state)
