-- What holds of the parts of a search before a node and after it.
use Rattle.std.proofs.Common.{◌≡◌, ◌≤◌, List, [], ◌∷◌, ◌++◌, Option, ap, subst, sym, ◌∙◌}
use Rattle.std.specs.Prelude.{Result, Ok, Err, OnErr}
use Rattle.std.specs.List.{All}
use Rattle.std.proofs.lemmas.List.Elements.{All-append}
use Rattle.config_value.specs.declared.configuration.Instance.{Instance}
use Rattle.literal_book.specs.declared.nogood.Nogood.{Nogood}
use Rattle.literal_book.specs.declared.nogood.Piece.{Piece}
use Rattle.literal_book.specs.Nogoods.{IsSound}
use Rattle.state_space.specs.State.{State, IsState}
use Rattle.state_space.specs.Size.{size_of}
use Rattle.state_space.proofs.ValidStates.{size_is_positive}
use Rattle.reason_trail.specs.Jobs.{Task}
use Rattle.reason_trail.specs.Trails.{Trace, Extends, length_of, cut_to}
use Rattle.nogood_store.specs.Stores.{Held, IsSearched}
use Rattle.seq_search.specs.declared.found.Found.{Found}
use Rattle.seq_search.specs.declared.open_branch.OpenBranch.{OpenBranch}
use Rattle.seq_search.specs.OpenBranches.{CoversOpen, open_size}
use Rattle.seq_search.specs.Searches.{Search}
use Rattle.seq_search.specs.Advances.{IsNode}
use Rattle.seq_search.specs.steps.Opens.{open_at, opens, but_last, MayBeTaken, IsStanding, IsKept, search_of}
use Rattle.seq_search.specs.steps.Nodes.{IsFound, IfSplit, IsLearnt, kept_after, best_after}
use Rattle.seq_search.proofs.Along.{extends_itself}
use Rattle.seq_search.proofs.Expanding.{within_last, takable_last, kept_opens, kept_standing, next_standing, next_node}

-- what holds at all holds after a failure
pub on_err : {A E : Type 0} (r : Result A E) (P : Type 0) → P → OnErr r P
on_err (Ok x) P h = tt
on_err (Err e) P h = h

-- parts that are the same
module _ (made : Task) (t : Trace) (piece : Piece) (h h2 : Held) (items items2 : List OpenBranch) (best best2 : Option (List Instance)) (learnt learnt2 : List Nogood)
    (store : h2 ≡ h) (branches : items2 ≡ items) (bests : best2 ≡ best) (learns : learnt2 ≡ learnt) where
  pub kept_same : IsKept made t h piece items best learnt → IsKept made t h2 piece items2 best2 learnt2
  kept_same kept =
      subst (λ x. IsKept made t x piece items2 best2 learnt2) (sym store)
      (subst (λ x. IsKept made t h piece x best2 learnt2) (sym branches)
      (subst (λ x. IsKept made t h piece items x learnt2) (sym bests)
      (subst (λ x. IsKept made t h piece items best x) (sym learns) kept)))

  pub search_same : search_of t h2 piece items2 best2 learnt2 ≡ search_of t h piece items best learnt
  search_same = λ i. search_of t (store i) piece (branches i) (bests i) (learns i)

module _ (made : Task) (t0 : Trace) (h0 : Held) (piece : Piece) (items : List OpenBranch) (best : Option (List Instance)) (learnt : List Nogood) (k : OpenBranch)
    (apart : items ≡ but_last items ++ k ∷ []) (kept : IsKept made t0 h0 piece items best learnt) where
  standing : IsStanding t0.job t0 piece (but_last items ++ k ∷ []) best
  standing = subst (λ bs. IsStanding t0.job t0 piece bs best) apart kept.standing

  -- the branch that is taken was left within the trail, and may be taken
  pub is_within : k.len ≤ length_of t0
  is_within = within_last t0.job piece h0.nogoods best t0 (cut_to t0 k.len) (but_last items) k (extends_itself (cut_to t0 k.len)) standing

  pub may_be_taken : MayBeTaken t0.job.model (open_at t0 k)
  may_be_taken = takable_last t0.job piece h0.nogoods best t0 (cut_to t0 k.len) (but_last items) k (extends_itself (cut_to t0 k.len)) standing

  module _ (made2 : Task) (t2 : Trace) (h1 : Held) (same : made2 ≡ t0.job) (on : Extends (cut_to t0 k.len) t2) (searched : IsSearched h0 h1) where
    -- where the node isn't finished, the search is the same
    pub same_search : search_of t2 h1 piece items best learnt ≡ search_of t0 h0 piece items best learnt
    same_search =
        let branches : opens t2 items ≡ opens t0 items =
        subst (λ bs. opens t2 bs ≡ opens t0 bs) (sym apart) (kept_opens t0.job piece h0.nogoods best t0 t2 (but_last items) k on standing) in
        λ i. record { job = on.job i; piece = piece; branches = branches i; best = best; nogoods = searched.nogoods i; learnt = learnt }

    pub still_kept : IsKept made2 t2 h1 piece items best learnt
    still_kept = record {
      props = same ∙ sym on.job;
      model = searched.model ∙ kept.model ∙ sym (ap (λ j. j.model) on.job);
      order = searched.order ∙ kept.order ∙ sym (ap (λ j. j.order) on.job);
      standing = subst (λ j. IsStanding j t2 piece items best) (sym on.job)
          (subst (λ bs. IsStanding t0.job t2 piece bs best) (sym apart) (kept_standing t0.job piece h0.nogoods best t0 t2 (but_last items) k on standing));
      learnt_sound = subst (λ j. All (IsSound j.model j.order) learnt) (sym on.job) kept.learnt_sound;
    }

    module _ (found : Found) (f : IsFound t0.job piece h0.nogoods best (CoversOpen t0.job.model (open_at t0 k)) t2.state found)
        (h2 : Held) (learnt2 : List Nogood) (learns : IsLearnt h1.model h1.order h1.nogoods h2.nogoods learnt learnt2) (model : h2.model ≡ h1.model) (order : h2.order ≡ h1.order) where
      learns_now : IsLearnt t0.job.model t0.job.order h0.nogoods h2.nogoods learnt learnt2
      learns_now =
          subst (λ ns. IsLearnt t0.job.model t0.job.order ns h2.nogoods learnt learnt2) searched.nogoods
          (subst (λ o. IsLearnt t0.job.model o h1.nogoods h2.nogoods learnt learnt2) (searched.order ∙ kept.order)
          (subst (λ m. IsLearnt m h1.order h1.nogoods h2.nogoods learnt learnt2) (searched.model ∙ kept.model) learns))

      sound_now : All (IsSound t0.job.model t0.job.order) learnt2
      sound_now = subst (All (IsSound t0.job.model t0.job.order)) (sym learns_now.learnt)
          (All-append (IsSound t0.job.model t0.job.order) learnt learns_now.more kept.learnt_sound learns_now.sound)

      -- after a whole node all still holds
      pub next_kept : IsKept made2 t2 h2 piece (but_last items ++ kept_after (length_of t2) found) (best_after best found) learnt2
      next_kept = record {
        props = same ∙ sym on.job;
        model = model ∙ searched.model ∙ kept.model ∙ sym (ap (λ j. j.model) on.job);
        order = order ∙ searched.order ∙ kept.order ∙ sym (ap (λ j. j.order) on.job);
        standing = subst (λ j. IsStanding j t2 piece (but_last items ++ kept_after (length_of t2) found) (best_after best found)) (sym on.job)
            (next_standing t0.job piece h0.nogoods best t0 t2 (but_last items) k on standing found f);
        learnt_sound = subst (λ j. All (IsSound j.model j.order) learnt2) (sym on.job) sound_now;
      }

      -- and it was one node of the search
      pub next_is_node : (Settled : Task → State → Type 0) → IfSplit (size_of t0.job.model t2.state ≤ open_size t0.job.model (open_at t0 k)) found
          → IfSplit (Settled t0.job t2.state) found → IsState t0.job.model t2.state
          → IsNode Settled (search_of t0 h0 piece items best learnt) (search_of t2 h2 piece (but_last items ++ kept_after (length_of t2) found) (best_after best found) learnt2)
      next_is_node Settled lesser settled state =
          let node = next_node t0.job piece h0.nogoods best t0 t2 (but_last items) k on standing Settled learnt h2.nogoods learnt2 found f lesser settled (size_is_positive t0.job.model t2.state state) learns_now in
          let new : Task → Search = λ j. record { job = j; piece = piece; branches = opens t2 (but_last items ++ kept_after (length_of t2) found); best = best_after best found; nogoods = h2.nogoods; learnt = learnt2 } in
          subst (λ j. IsNode Settled (search_of t0 h0 piece items best learnt) (new j)) (sym on.job)
          (subst (λ bs. IsNode Settled (search_of t0 h0 piece bs best learnt) (new t0.job)) (sym apart) node)
