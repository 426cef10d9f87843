-- What ends a branch, and what filtering keeps.
use Rattle.std.proofs.Common.{◌≡◌, ℕ, suc, ◌+◌, List, [], ◌∷◌, Bool, true, false, not, ◌&&◌, ◌||◌, refl, subst, sym, ◌∙◌, arith}
use Rattle.std.specs.Prelude.{IsTrue}
use Rattle.std.specs.List.{list_all, enumerate_from}
use Rattle.std.proofs.lemmas.Bool.{false≢true, and_parts, and_from}
use Rattle.base_laws.specs.Places.{IsAt}
use lib.Pointwise.{pointwise}
use Rattle.prod_model.specs.declared.model.Model.{Model}
use Rattle.prod_model.specs.declared.model.Order.{Order}
use Rattle.prod_model.specs.declared.model.Request.{Request}
use Rattle.config_value.specs.declared.configuration.Instance.{Instance}
use Rattle.config_value.specs.declared.literal.Literal.{Literal}
use Rattle.config_value.specs.Shaped.{is_shaped}
use Rattle.config_value.specs.ShapedSentences.{HasShape}
use Rattle.config_value.specs.Numbered.{is_numbered}
use Rattle.config_value.specs.Satisfies.{satisfies, follows_rules, meets, meets_kept}
use Rattle.config_value.specs.Literals.{has_literal}
use Rattle.config_value.proofs.ShapedSentences.{shaped_sentences}
use Rattle.base_laws.proofs.Tests.{list_all_by}
use Rattle.literal_book.specs.declared.nogood.Nogood.{Nogood}
use Rattle.literal_book.specs.Nogoods.{asks_for, meets_asked, has_literals, excludes, AreKept, IsSound}
use Rattle.state_space.specs.State.{State, IsState}
use Rattle.state_space.specs.Covers.{Covers}
use Rattle.state_space.specs.Entails.{entails}
use Rattle.state_space.specs.Described.{entails_all}
use Rattle.state_space.specs.Whole.{is_whole, whole_configuration}
use Rattle.state_space.proofs.EntailsLaws.{entailed_holds}
use Rattle.state_space.proofs.ValidStates.{whole_covers_its_own}
use Rattle.reason_trail.specs.declared.reason.Reason.{Reason}
use Rattle.reason_trail.specs.Jobs.{Task, IsTask, IsWanted}
use Rattle.reason_trail.specs.Propagators.{IsFailure}
use Rattle.nogood_store.specs.Stores.{Applies}

-- ---- requests

-- a configuration that passes each kept test passes each test of a mask of which all are kept
kept_met : (test : Request → Bool) (mask n : ℕ) (keep : List Bool) (rs : List Request)
    → IsTrue (pointwise (λ kept r. not kept || test r) keep rs)
    → ((k : ℕ) → IsTrue (asks_for mask (n + k)) → IsAt keep k true)
    → IsTrue (list_all (λ e. not (asks_for mask e.0) || test e.1) (enumerate_from n rs))
kept_met test mask n [] [] all kept = refl
kept_met test mask n [] (r ∷ rs) all kept = absurd cc
kept_met test mask n (b ∷ keep) [] all kept = refl
kept_met test mask n (b ∷ keep) (r ∷ rs) all kept =
    let parts = and_parts (not b || test r) _ all in
    and_from (not (asks_for mask n) || test r) _
    (head (asks_for mask n) refl)
    (kept_met test mask (n + 1) keep rs parts.1 (λ k asked. kept (suc k) (subst (λ i. IsTrue (asks_for mask i)) (later n k) asked)))
  where
    later : (n k : ℕ) → (n + 1) + k ≡ n + suc k
    later n k = omega arith

    same : (b : Bool) → IsAt (b ∷ keep) 0 true → b ≡ true
    same true there = refl
    same false there = absurd cc

    head : (a : Bool) → asks_for mask n ≡ a → IsTrue (not a || test r)
    head false is = refl
    head true is =
        let at : IsTrue (asks_for mask (n + 0)) = subst (λ i. IsTrue (asks_for mask i)) (here n) is in
        subst (λ x. IsTrue (not x || test r)) (same b (kept 0 at)) (and_parts (not b || test r) _ all).0
      where
        here : (n : ℕ) → n ≡ n + 0
        here n = omega arith

-- what meets the kept requests meets each of a mask of which all are kept
pub meets_each_kept : (m : Model) (o : Order) (keep : List Bool) (c : List Instance) (mask : ℕ)
    → IsTrue (meets_kept m o keep c) → AreKept keep mask → IsTrue (meets_asked m o mask c)
unfolding meets_kept
meets_each_kept m o keep c mask met kept = kept_met (meets m c) mask 0 keep o.requests met (λ k asked. kept k (subst (λ i. IsTrue (asks_for mask i)) (here k) asked))
  where
    here : (k : ℕ) → 0 + k ≡ k
    here k = omega arith

-- ---- what satisfies a model

-- it is shaped and numbered
pub record IsFormed (m : Model) (c : List Instance) : Type 0 where
  pub shaped : HasShape m c
  pub numbered : IsTrue (is_numbered c)

pub is_formed : (m : Model) (c : List Instance) → IsTrue (satisfies m c) → IsFormed m c
unfolding satisfies
is_formed m c satisfied =
    let parts = and_parts (is_shaped m c) (is_numbered c) (and_parts (is_shaped m c && is_numbered c) (follows_rules m c) satisfied).0 in
    record { shaped = (shaped_sentences m c).0 parts.0; numbered = parts.1 }

-- all that a state entails holds in a covered configuration
pub entailed_hold : (m : Model) (s : State) (c : List Instance) (literals : List Literal) → IsState m s → Covers m s c → entails_all m s literals
    → IsTrue (has_literals m c literals)
entailed_hold m s c literals state covers entailed =
    list_all_by (entails m s) (has_literal m c) (λ l e. entailed_holds m s l c state e covers) literals entailed

-- ---- what ends a branch

-- a state in which a sound nogood applies covers nothing wanted
pub nogood_ends : (j : Task) (s : State) (n : Nogood) → IsState j.model s → IsSound j.model j.order n → Applies j.model j.goal.keep s n
    → (c : List Instance) → IsWanted j c → ¬ Covers j.model s c
unfolding excludes
nogood_ends j s n state sound applies c wanted covers =
    let met = meets_each_kept j.model j.order j.goal.keep c n.requests wanted.candidate.met applies.kept in
    let has = entailed_hold j.model s c n.literals state covers applies.entailed in
    false≢true (sym (sound c wanted.candidate.satisfied) ∙ and_from (meets_asked j.model j.order n.requests c) (has_literals j.model c n.literals) met has)

-- a state in which filtering fails covers nothing wanted
pub failure_ends : (j : Task) (s : State) (r : Reason) → IsState j.model s → IsFailure j s r
    → (c : List Instance) → IsWanted j c → ¬ Covers j.model s c
failure_ends j s r state failure c wanted covers = failure.supported c (record {
  satisfied = wanted.candidate.satisfied;
  met = meets_each_kept j.model j.order j.goal.keep c r.requests wanted.candidate.met failure.kept;
  passed = λ cut. and_from _ _ (and_from _ _ wanted.extra_met wanted.later) refl;
}) (entailed_hold j.model s c r.literals state covers failure.entailed)

-- a whole state covers one wanted configuration at most
pub whole_covers_one : (j : Task) (s : State) → IsTask j → IsState j.model s → IsTrue (is_whole s)
    → (c : List Instance) → IsWanted j c → Covers j.model s c → c ≡ whole_configuration j.model s
whole_covers_one j s task state whole c wanted covers =
    whole_covers_its_own j.model s c task.valid state whole covers (is_formed j.model c wanted.candidate.satisfied).numbered
