-- How a search ends, and what its best is then.
use Rattle.std.proofs.Common.{◌≡◌, ◌≢◌, ℕ, ◌+◌, ◌<◌, ◌≤◌, List, [], ◌∷◌, ◌++◌, map, Option, None, Some, refl, ap, subst, sym, ◌∙◌, arith, Bool, ◌⊎◌, inl, inr}
use Rattle.std.specs.Prelude.{◌↔◌, IsTrue, IfSome}
use Rattle.std.proofs.lemmas.Bool.{true≢false}
use Rattle.std.proofs.lemmas.List.{map-append}
use Rattle.config_value.specs.declared.configuration.Instance.{Instance}
use Rattle.literal_book.specs.declared.nogood.Piece.{Piece}
use Rattle.literal_book.specs.Nogoods.{has_literals}
use Rattle.state_space.specs.State.{State}
use Rattle.reason_trail.specs.Jobs.{Task, IsWanted, IsBestOf}
use Rattle.seq_search.specs.declared.advance.Advance.{Advance}
use Rattle.seq_search.specs.declared.advance.Advance.TheVariants.{More}
use Rattle.seq_search.specs.Quests.{IsSought, IsUnbeaten}
use Rattle.seq_search.specs.OpenBranches.{Open, open_size}
use Rattle.seq_search.specs.Weights.{weight_of}
use Rattle.seq_search.specs.Searches.{Search, IsSearch, weight_left}
use Rattle.seq_search.specs.Advances.{IsNode, Expands, none, one_more, IsAdvanced}
use Rattle.seq_search.proofs.Weights.{weight_falls}

-- ---- what is left falls

node_falls : (Settled : Task → State → Type 0) (s t : Search) → IsNode Settled s t → weight_left t < weight_left s
node_falls Settled s t node =
    let f : Open → ℕ = open_size s.job.model in
    let old : map f s.branches ≡ map f node.before ++ f node.taken ∷ map f node.after =
    ap (map f) node.were ∙ map-append f node.before (node.taken ∷ node.after) in
    let new : map (open_size t.job.model) t.branches ≡ map f node.before ++ map f node.put ++ map f node.after =
    ap (λ j. map (open_size j.model) t.branches) node.same_job ∙ ap (map f) node.are ∙ map-append f (node.before ++ node.put) node.after
    ∙ ap (λ r. r ++ map f node.after) (map-append f node.before node.put) in
    subst (λ x. weight_of x < weight_left s) (sym new)
    (subst (λ x. weight_of (map f node.before ++ map f node.put ++ map f node.after) < weight_of x) (sym old)
    (weight_falls (map f node.before) (map f node.put) (map f node.after) (f node.taken) node.less))

nodes_fall : (Settled : Task → State → Type 0) (n : ℕ) (s t : Search) → Expands Settled n s t → weight_left t + n ≤ weight_left s
nodes_fall Settled n s t (none u) = omega arith
nodes_fall Settled n s t (one_more k a b c expands node) =
    let rest = nodes_fall Settled k a b expands in
    let last = node_falls Settled b c node in
    omega (arith, rest, last)

-- where there is more, less is left
pub more_falls : (Settled : Task → State → Type 0) (turns : ℕ) (s t : Search) (a : Advance) → 0 < turns → a ≡ More → IsAdvanced Settled turns s t a → weight_left t < weight_left s
more_falls Settled turns s t a some is advanced =
    let fall = nodes_fall Settled advanced.nodes s t advanced.expanded in
    let all = (advanced.more.0 is).0 in
    omega (arith, fall, all, some)

-- ---- the job and the piece stay

pub record IsSame (s t : Search) : Type 0 where
  pub job : t.job ≡ s.job
  pub piece : t.piece ≡ s.piece

same_on : (r s t : Search) → IsSame r s → IsSame s t → IsSame r t
same_on r s t first next = record { job = next.job ∙ first.job; piece = next.piece ∙ first.piece }

same_expanded : (Settled : Task → State → Type 0) (n : ℕ) (s t : Search) → Expands Settled n s t → IsSame s t
same_expanded Settled n s t (none u) = record { job = refl; piece = refl }
same_expanded Settled n s t (one_more k a b c expands node) =
    same_on a b c (same_expanded Settled k a b expands) (record { job = node.same_job; piece = node.same_piece })

pub same_advanced : (Settled : Task → State → Type 0) (turns : ℕ) (r s t : Search) (a : Advance) → IsSame r s → IsAdvanced Settled turns s t a → IsSame r t
same_advanced Settled turns r s t a same advanced = same_on r s t same (same_expanded Settled advanced.nodes s t advanced.expanded)

-- ---- the piece of all configurations

sought_there : (j : Task) (piece : Piece) → piece.literals ≡ [] → (c : List Instance) → IsWanted j c → IsSought j piece c
sought_there j piece all c wanted = record { wanted = wanted; within = ap (has_literals j.model c) all }

-- there the best is the best of all that is wanted
pub unbeaten_is_best : (j : Task) (piece : Piece) (best : Option (List Instance)) → piece.literals ≡ [] → IfSome best (IsWanted j) → IsUnbeaten j piece best → IsBestOf j best
unbeaten_is_best j piece None all wanted unbeaten = λ c other. true≢false (unbeaten c (sought_there j piece all c other))
unbeaten_is_best j piece (Some d) all wanted unbeaten = record {
  is = wanted;
  none_before = λ c other beats. true≢false (sym beats ∙ unbeaten c (sought_there j piece all c other));
}

-- there something is wanted exactly where something is found, once it is or no branch is open
module _ (s : Search) (all : s.piece.literals ≡ []) (search : IsSearch s) (done : s.branches ≡ [] → IsUnbeaten s.job s.piece s.best) where
  found_is_wanted : (best : Option (List Instance)) → best ≢ None → IfSome best (IsWanted s.job) → (c : List Instance) × IsWanted s.job c
  found_is_wanted None some wanted = absurd (some refl)
  found_is_wanted (Some d) some wanted = (d, wanted)

  wanted_is_found : (c : List Instance) → IsWanted s.job c → (s.best ≢ None) ⊎ (s.branches ≡ []) → s.best ≢ None
  wanted_is_found c wanted (inl some) = some
  wanted_is_found c wanted (inr none_open) = λ none.
      true≢false (subst (IsUnbeaten s.job s.piece) none (done none_open) c (sought_there s.job s.piece all c wanted))

  pub found_exactly : (found : Bool) → (IsTrue found ↔ (s.best ≢ None)) → (s.best ≢ None) ⊎ (s.branches ≡ [])
      → IsTrue found ↔ ((c : List Instance) × IsWanted s.job c)
  found_exactly found told ended = (
    λ is. found_is_wanted s.best (told.0 is) search.wanted,
    λ some. told.1 (wanted_is_found some.0 some.1 ended),
  )
