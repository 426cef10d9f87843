-- Each step of a search keeps all that is sought accounted for, and at the end the best so far is unbeaten.
use Rattle.std.proofs.Common.{◌≡◌, ◌<◌, List, [], ◌∷◌, ◌++◌, Bool, true, false, not, ◌&&◌, Option, None, Some, refl, ap, subst, sym, ◌∙◌, ◌⊎◌, inl, inr, arith}
use Rattle.std.specs.Prelude.{IsTrue, IsFalse}
use Rattle.std.specs.List.{Contains}
use Rattle.std.proofs.lemmas.Bool.{and_parts, true≢false}
use Rattle.std.proofs.lemmas.List.Elements.{Contains-append_left, Contains-append_right, Contains-push_cases, Contains-push}
use Rattle.std.specs.declared.cmp.Ordering.{Ordering}
use Rattle.std.specs.declared.cmp.Ordering.TheVariants.{Less, Equal, Greater}
use Rattle.std.specs.Ordering.{is_lt}
use Rattle.std.proofs.lemmas.Cmp.{tied_itself}
use Rattle.config_value.specs.declared.configuration.Instance.{Instance}
use Rattle.config_value.specs.Rank.{ranks_before}
use Rattle.config_value.proofs.RankLaws.{rank_order_total}
use Rattle.literal_book.specs.declared.nogood.Piece.{Piece}
use Rattle.reason_trail.specs.Jobs.{Task, beats, beats_best}
use Rattle.seq_search.specs.Quests.{IsSought, IsUnbeaten}
use Rattle.seq_search.specs.OpenBranches.{Open, CoversOpen}
use Rattle.seq_search.specs.Accounts.{IsAccounted, covered, no_better, AccountsForAll}

-- ---- what a list contains

pub contains_nothing : {B : Type 0} (b : B) → Contains [] b → ⊥
contains_nothing b h = let p : h.0 < 0 = h.1 in omega (arith, p)

-- ---- the order of a job

less : (r : Ordering) → IsTrue (is_lt r) → r ≡ Less
less Less h = refl
less Equal h = absurd cc
less Greater h = absurd cc

false_unless : (b : Bool) → (IsTrue b → ⊥) → IsFalse b
false_unless false no_way = refl
false_unless true no_way = absurd (no_way refl)

-- what beats one that beats a third beats the third
beats_on : (j : Task) (x y z : List Instance) → IsTrue (beats j x y) → IsTrue (beats j y z) → IsTrue (beats j x z)
beats_on j x y z a b =
    let p = and_parts (not j.goal.any) (ranks_before j.model j.order x y) a in
    let r = and_parts (not j.goal.any) (ranks_before j.model j.order y z) b in
    let through = ap is_lt ((rank_order_total j.model j.order).trans x y z (less _ p.1) (less _ r.1)) in
    ap (λ t. t && ranks_before j.model j.order x z) p.0 ∙ through

-- none beats itself
pub beats_not_itself : (j : Task) (c : List Instance) → IsFalse (beats j c c)
beats_not_itself j c = false_unless (beats j c c) (λ h.
    true≢false (sym (and_parts (not j.goal.any) (ranks_before j.model j.order c c) h).1 ∙ ap is_lt (tied_itself (rank_order_total j.model j.order) c)))

-- what does not beat the old best does not beat one that beats it
still_no_better : (j : Task) (best : Option (List Instance)) (d : List Instance) → IsTrue (beats_best j best d)
    → (c : List Instance) → IsFalse (beats_best j best c) → IsFalse (beats j c d)
still_no_better j None d better c worse = absurd (true≢false worse)
still_no_better j (Some e) d better c worse = false_unless (beats j c d) (λ h.
    true≢false (sym (beats_on j c d e h better) ∙ worse))

-- ---- steps that take the last branch

module _ (j : Task) (piece : Piece) (rest : List Open) where
  -- Others take the place of a branch, where each sought configuration that it covers is accounted for by them.
  pub replaces : (b : Open) (put : List Open) (best : Option (List Instance))
      → ((c : List Instance) → IsSought j piece c → CoversOpen j.model b c → IsAccounted j (rest ++ put) best c)
      → AccountsForAll j piece (rest ++ b ∷ []) best → AccountsForAll j piece (rest ++ put) best
  replaces b put best again all c sought = elim (all c sought) [
    | covered x among covers ↦ elim (Contains-push_cases rest b x among) [
      | inl kept ↦ covered x (Contains-append_left rest put x kept) covers
      | inr same ↦ again c sought (subst (λ y. CoversOpen j.model y c) (sym same) covers)
    ]
    | no_better h ↦ no_better h
  ]

  -- A branch ends of which nothing that is sought beats the best: it has failed, or is cut.
  pub ends : (b : Open) (best : Option (List Instance))
      → ((c : List Instance) → IsSought j piece c → CoversOpen j.model b c → IsFalse (beats_best j best c))
      → AccountsForAll j piece (rest ++ b ∷ []) best → AccountsForAll j piece rest best
  ends b best none all c sought = elim (all c sought) [
    | covered x among covers ↦ elim (Contains-push_cases rest b x among) [
      | inl kept ↦ covered x kept covers
      | inr same ↦ no_better (none c sought (subst (λ y. CoversOpen j.model y c) (sym same) covers))
    ]
    | no_better h ↦ no_better h
  ]

  -- A branch becomes two, of which one or the other covers each sought configuration that it covers.
  pub splits : (b first second : Open) (best : Option (List Instance))
      → ((c : List Instance) → IsSought j piece c → CoversOpen j.model b c → CoversOpen j.model first c ⊎ CoversOpen j.model second c)
      → AccountsForAll j piece (rest ++ b ∷ []) best → AccountsForAll j piece (rest ++ first ∷ second ∷ []) best
  splits b first second best either = replaces b (first ∷ second ∷ []) best (λ c sought covers. elim (either c sought covers) [
    | inl one ↦ covered first (Contains-append_right rest (first ∷ second ∷ []) first (Contains-append_left (first ∷ []) (second ∷ []) first (Contains-push [] first))) one
    | inr two ↦ covered second (Contains-append_right rest (first ∷ second ∷ []) second (Contains-push (first ∷ []) second)) two
  ])

-- ---- a better answer

-- A configuration that beats the best, or comes where there is none, takes its place.
pub lowers : (j : Task) (piece : Piece) (branches : List Open) (best : Option (List Instance)) (d : List Instance)
    → IsTrue (beats_best j best d)
    → AccountsForAll j piece branches best → AccountsForAll j piece branches (Some d)
lowers j piece branches best d better all c sought = elim (all c sought) [
  | covered x among covers ↦ covered x among covers
  | no_better h ↦ no_better (still_no_better j best d better c h)
]

-- ---- the beginning and the end

-- At first one branch covers all that is sought.
pub begins : (j : Task) (piece : Piece) (root : Open) → ((c : List Instance) → IsSought j piece c → CoversOpen j.model root c)
    → AccountsForAll j piece (root ∷ []) None
begins j piece root all c sought = covered root (Contains-push [] root) (all c sought)

-- At the end the best is unbeaten by what is sought, and where there is none nothing is sought.
pub is_done : (j : Task) (piece : Piece) (best : Option (List Instance)) → AccountsForAll j piece [] best → IsUnbeaten j piece best
is_done j piece best all c sought = elim (all c sought) [
  | covered b among covers ↦ absurd (contains_nothing b among)
  | no_better h ↦ h
]
