-- What always holds of a search, and what some turns do.
use Rattle.std.proofs.Common.{◌≡◌, ◌≢◌, ℕ, suc, ◌+◌, ◌≤◌, List, [], ◌∷◌, Option, Some, refl, subst, arith}
use Rattle.std.specs.Prelude.{IsTrue}
use Rattle.std.specs.List.{AllByRecursion}
use Rattle.std.proofs.lemmas.List.Elements.{All-from_recursion}
use Rattle.base_laws.specs.Places.{IsAt}
use Rattle.config_value.specs.declared.configuration.Instance.{Instance}
use Rattle.literal_book.specs.declared.nogood.Nogood.{Nogood}
use Rattle.literal_book.specs.declared.nogood.Piece.{Piece}
use Rattle.literal_book.specs.Nogoods.{IsSound}
use Rattle.state_space.specs.State.{State}
use Rattle.reason_trail.specs.Jobs.{Task, IsWanted, beats_best}
use Rattle.reason_trail.specs.Trails.{Trace, IsTrail}
use Rattle.nogood_store.specs.Stores.{Held, IsStore}
use Rattle.seq_search.specs.declared.advance.Advance.TheVariants.{More, Done}
use Rattle.seq_search.specs.declared.open_branch.OpenBranch.{OpenBranch}
use Rattle.seq_search.specs.Searches.{Search, IsSearch}
use Rattle.seq_search.specs.Advances.{IsNode, Expands, one_more, IsAdvanced}
use Rattle.seq_search.specs.steps.Opens.{opens, IsKept, search_of}
use Rattle.seq_search.proofs.Accounts.{lowers}

-- what holds at each place holds of all
all_at : {A : Type 0} (P : A → Type 0) (xs : List A) → ((k : ℕ) (x : A) → IsAt xs k x → P x) → AllByRecursion P xs
all_at P [] each = tt
all_at P (x ∷ xs) each = (each 0 x refl, all_at P xs (λ k. each (suc k)))

module _ (made : Task) (t : Trace) (h : Held) (piece : Piece) (items : List OpenBranch) (best : Option (List Instance)) (learnt : List Nogood) where
  -- what always holds of the parts holds of the search
  pub is_search : IsTrail t → IsStore h → IsKept made t h piece items best learnt → IsSearch (search_of t h piece items best learnt)
  is_search right store kept = record {
    task = right.task;
    accounts = kept.standing.accounts;
    wanted = kept.standing.wanted;
    sound = All-from_recursion (IsSound t.job.model t.job.order) h.nogoods (all_at (IsSound t.job.model t.job.order) h.nogoods (λ k n at.
        subst (λ o. IsSound t.job.model o n) kept.order (subst (λ m. IsSound m h.order n) kept.model (store.sound k n at))));
    learnt_sound = kept.learnt_sound;
  }

  -- a wanted configuration that beats the best so far takes its place
  pub lowered_kept : (c : List Instance) → IsWanted t.job c → IsTrue (beats_best t.job best c) → IsKept made t h piece items best learnt → IsKept made t h piece items (Some c) learnt
  lowered_kept c wanted better kept = record {
    props = kept.props;
    model = kept.model;
    order = kept.order;
    standing = record {
      stacked = kept.standing.stacked;
      takable = kept.standing.takable;
      accounts = lowers t.job piece (opens t items) best c better kept.standing.accounts;
      wanted = wanted;
    };
    learnt_sound = kept.learnt_sound;
  }

-- ---- turns

module _ (Settled : Task → State → Type 0) (turns : ℕ) (s t : Search) (n : ℕ) where
  pub advanced_done : n ≤ turns → Expands Settled n s t → t.branches ≡ [] → IsAdvanced Settled turns s t Done
  advanced_done few expanded none = record {
    nodes = n;
    few = few;
    expanded = expanded;
    more = (λ e. absurd cc, λ both. absurd (both.1 none));
    done = λ e. none;
  }

  pub advanced_more : n ≡ turns → Expands Settled n s t → t.branches ≢ [] → IsAdvanced Settled turns s t More
  advanced_more all expanded some = record {
    nodes = n;
    few = omega (arith, all);
    expanded = expanded;
    more = (λ e. (all, some), λ both. refl);
    done = λ e. absurd cc;
  }

-- one node more
pub one_node_more : (Settled : Task → State → Type 0) (s t u : Search) (n : ℕ) → Expands Settled n s t → IsNode Settled t u → Expands Settled (n + 1) s u
one_node_more Settled s t u n expanded node = subst (λ k. Expands Settled k s u) (there n) (one_more n s t u expanded node)
  where
    there : (n : ℕ) → suc n ≡ n + 1
    there n = omega arith
