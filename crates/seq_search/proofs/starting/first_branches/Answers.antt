-- The first branch stands at the end of the trail, or nothing is sought.
use Rattle.std.proofs.Common.{◌≡◌, ◌∷◌, ◌++◌, [], subst, sym, ap, ◌∙◌, None, true, false}
use Rattle.seq_search.specs.declared.open_branch.OpenBranch.{OpenBranch}
use Rattle.seq_search.specs.steps.Opens.{IsStanding}
use Rattle.seq_search.specs.steps.Starting.{IsNarrowed}
use Rattle.seq_search.proofs.Begun.{first_stands, none_stands}
use Rattle.std.proofs.Common.{List, ℕ}
use Rattle.seq_search.proofs.starting.first_branches.Goals as goal

-- the one branch at a length
one_at : ℕ → List OpenBranch
one_at n = record { len = n; literal = None } ∷ []

pub returns-then-not-branch-clause-standing : goal.returns-then-not-branch-clause-standing
returns-then-not-branch-clause-standing c =
    let t0 = c.args.trail.now in
    let t = c.narrow_each.new.trail in
    let ls = c.as_slice.ensures in
    let narrowed : IsNarrowed t0.job.model c.args.piece.now.literals t0.state t.state false =
    subst (λ x. IsNarrowed t0.job.model x t0.state t.state false) ls (subst (IsNarrowed t0.job.model c.as_slice.result.now t0.state t.state) c.if-not-branch.true c.in_ok-narrow_each.ensures.narrowed) in
    subst (λ bs. IsStanding t0.job t c.args.piece.now bs None) (sym c.new-branches.ensures.items)
    (none_stands t0.job c.args.piece.now t0 t c.job-task.ensures.right.task c.requires narrowed)

pub returns-clause-standing : goal.returns-clause-standing
unfolding one_at
returns-clause-standing c =
    let t0 = c.args.trail.now in
    let t = c.narrow_each.new.trail in
    let ls = c.as_slice.ensures in
    let narrowed : IsNarrowed t0.job.model c.args.piece.now.literals t0.state t.state true =
    subst (λ x. IsNarrowed t0.job.model x t0.state t.state true) ls (subst (IsNarrowed t0.job.model c.as_slice.result.now t0.state t.state) c.if-not-branch.false c.in_ok-narrow_each.ensures.narrowed) in
    let items : c.push.new.self.items ≡ one_at c.len.result = c.in_ok-push.ensures.items ∙ ap (λ xs. xs ++ one_at c.len.result) c.new-branches.ensures.items in
    subst (λ bs. IsStanding t0.job t c.args.piece.now bs None) (sym (items ∙ ap one_at c.len.ensures))
    (first_stands t0.job c.args.piece.now t0 t c.job-task.ensures.right.task c.requires narrowed)
