-- One branch is pushed, and the one before it replaced.
use Rattle.std.proofs.Common.{◌≡◌, ◌-◌, ◌+◌, ◌++◌, ◌∷◌, [], ap, ◌∙◌, arith, length, Some, set}
use Rattle.seq_search.specs.declared.open_branch.OpenBranch.{OpenBranch}
use Rattle.seq_search.proofs.Commits.{replaced_and_pushed}
use Rattle.seq_search.proofs.commit.split.Goals as goal

pub returns-clause-branches : goal.returns-clause-branches
returns-clause-branches c =
    let old = c.args.branches.now.items in
    let second : OpenBranch = record { len = c.args.end; literal = Some c.args.branch.second } in
    let first : OpenBranch = record { len = c.args.end; literal = Some c.args.branch.first } in
    let n : c.len-last.result ≡ length old = omega (arith, c.len-last.ensures) in
    let pushed : c.push.new.self.items ≡ old ++ first ∷ [] = c.in_ok-push.ensures.items in
    let places : (length old - 1) + 1 ≡ length old = omega (arith, c.requires) in
    ap (λ v. set v (c.len-last.result - 1) second) pushed
    ∙ ap (λ k. set (old ++ first ∷ []) (k - 1) second) n
    ∙ replaced_and_pushed old (length old - 1) second first places
