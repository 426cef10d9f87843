-- What is kept after a node: all that is sought stays accounted for, whichever way the node came out.
use Rattle.std.proofs.Common.{◌≡◌, ◌⊎◌, ℕ, zero, suc, ◌+◌, set, Bool, true, false, not, List, [], ◌∷◌, ◌++◌, length, take, Option, Some, refl, ap, subst, sym, ◌∙◌, inl, inr, arith, append-nil}
use Rattle.std.specs.Prelude.{IsFalse}
use Rattle.config_value.specs.declared.configuration.Instance.{Instance}
use Rattle.config_value.specs.Literals.{has_literal}
use Rattle.literal_book.specs.declared.nogood.Nogood.{Nogood}
use Rattle.literal_book.specs.declared.nogood.Piece.{Piece}
use Rattle.state_space.specs.State.{State}
use Rattle.state_space.specs.Covers.{Covers}
use Rattle.reason_trail.specs.Jobs.{Task, beats}
use Rattle.branch_cut.specs.declared.branch.Branch.{Branch}
use Rattle.seq_search.specs.declared.found.Found.{Found}
use Rattle.seq_search.specs.declared.found.Found.TheVariants.{Ended, Learnt, Better, Split}
use Rattle.seq_search.specs.Quests.{IsSought}
use Rattle.seq_search.specs.Accounts.{AccountsForAll}
use Rattle.seq_search.specs.OpenBranches.{Open, CoversOpen}
use Rattle.seq_search.specs.steps.Nodes.{IsFound, IsSplit, branches_after, best_after}
use Rattle.seq_search.proofs.Accounts.{ends, splits, lowers, beats_not_itself}

-- of a choice one of the two literals holds
either_holds : (j : Task) (piece : Piece) (nogoods : List Nogood) (best : Option (List Instance)) (Below : List Instance → Type 0) (q : State) (b : Branch)
    → IsSplit j piece nogoods best Below q b → (c : List Instance) → IsSought j piece c → Below c
    → CoversOpen j.model (record { state = q; literal = Some b.second }) c ⊎ CoversOpen j.model (record { state = q; literal = Some b.first }) c
either_holds j piece nogoods best Below q b split c sought below =
    let at = split.keeps c sought below in
    by (has_literal j.model c b.first) refl at
  where
    by : (first : Bool) → has_literal j.model c b.first ≡ first → Covers j.model q c
        → CoversOpen j.model (record { state = q; literal = Some b.second }) c ⊎ CoversOpen j.model (record { state = q; literal = Some b.first }) c
    by true is at = inr (record { covered = at; holds = is })
    by false is at = inl (record { covered = at; holds = split.choice c at sought.wanted.candidate.satisfied ∙ ap not is })

-- A node keeps all that is sought accounted for.
pub node_accounts : (j : Task) (piece : Piece) (nogoods : List Nogood) (best : Option (List Instance))
    (rest : List Open) (taken : Open) (q : State) (found : Found)
    → IsFound j piece nogoods best (CoversOpen j.model taken) q found
    → AccountsForAll j piece (rest ++ taken ∷ []) best
    → AccountsForAll j piece (rest ++ branches_after q found) (best_after best found)
node_accounts j piece nogoods best rest taken q Ended barren all =
    subst (λ bs. AccountsForAll j piece bs best) (sym (append-nil rest)) (ends j piece rest taken best barren all)
node_accounts j piece nogoods best rest taken q (Learnt n) learnt all =
    subst (λ bs. AccountsForAll j piece bs best) (sym (append-nil rest)) (ends j piece rest taken best learnt.0 all)
node_accounts j piece nogoods best rest taken q (Better d) better all =
    subst (λ bs. AccountsForAll j piece bs (Some d)) (sym (append-nil rest))
    (ends j piece rest taken (Some d)
    (λ c sought covers. subst (λ x. IsFalse (beats j x d)) (sym (better.only c sought covers)) (beats_not_itself j d))
    (lowers j piece (rest ++ taken ∷ []) best d better.better all))
node_accounts j piece nogoods best rest taken q (Split b) split all =
    splits j piece rest taken (record { state = q; literal = Some b.second }) (record { state = q; literal = Some b.first }) best
    (either_holds j piece nogoods best (CoversOpen j.model taken) q b split) all

-- ---- in memory

-- one is pushed, and the one before it is replaced
pub replaced_and_pushed : {A : Type 0} (xs : List A) (n : ℕ) (e f : A) → n + 1 ≡ length xs → set (xs ++ f ∷ []) n e ≡ take n xs ++ e ∷ f ∷ []
replaced_and_pushed [] n e f h = absurd (omega (arith, h))
replaced_and_pushed (x ∷ []) zero e f h = refl
replaced_and_pushed (x ∷ []) (suc n) e f h = absurd (omega (arith, h))
replaced_and_pushed (x ∷ y ∷ ys) zero e f h = absurd (omega (arith, h))
replaced_and_pushed (x ∷ y ∷ ys) (suc n) e f h = ap (λ r. x ∷ r) (replaced_and_pushed (y ∷ ys) n e f (omega (arith, h)))
