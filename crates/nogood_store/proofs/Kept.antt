-- A store and the list that it is kept in.
use Rattle.std.proofs.Common.{◌≡◌, ◌<◌, ◌≤◌, ℕ, zero, suc, List, [], ◌∷◌, ◌++◌, map, length, get_or, refl, ap, sym, subst, ◌∙◌, inl, inr, ◌⊎◌, Option, Some, None, arith}
use Rattle.std.specs.Prelude.{Bool, slice_set}
use Rattle.std.proofs.lemmas.Bool.{true≢false}
use Rattle.std.proofs.lemmas.List.{length-map, length-append, length-set}
use Rattle.std.proofs.lemmas.Option.{same_Some, none-some, slice_get_within, slice_get_read}
use Rattle.base_laws.specs.Places.{IsAt}
use Rattle.base_laws.proofs.Lists.{slice_get_map_read}
use Rattle.base_laws.proofs.Places.{map_at, at_either}
use Rattle.base_laws.proofs.Tests.{list_all_at, list_all_from}
use Rattle.prod_model.specs.declared.model.Model.{Model}
use Rattle.prod_model.specs.declared.model.Order.{Order}
use Rattle.config_value.specs.declared.literal.Literal.{Literal}
use Rattle.literal_book.specs.declared.nogood.Nogood.{Nogood}
use Rattle.literal_book.specs.Nogoods.{IsSound}
use Rattle.state_space.specs.State.{State}
use Rattle.state_space.specs.Entails.{entails}
use Rattle.state_space.specs.Described.{entails_all}
use Rattle.nogood_store.specs.declared.watched.Watched.{Watched}
use Rattle.nogood_store.specs.Stores.{Held, IsStore, IsWatched, Applies, AppliesAt, most_nogoods, most_literals}
use Rattle.nogood_store.specs.steps.Watching.{held_of, AreWatchedEntailed, IsFirstOpen}

-- ---- what is kept

-- what holds of each element of the list
pub record IsKept (m : Model) (o : Order) (w : Watched) : Type 0 where
  pub sound : IsSound m o w.nogood
  pub short : length w.nogood.literals ≤ most_literals
  pub watched : IsWatched w.nogood w.watch

abbrev pub EachIsKept : Model → Order → List Watched → Type 0
EachIsKept m o kept = (k : ℕ) (w : Watched) → IsAt kept k w → IsKept m o w

pub store_from : (m : Model) (o : Order) (kept : List Watched) (looked : ℕ) → EachIsKept m o kept → length kept ≤ most_nogoods
    → IsStore (held_of m o kept looked)
store_from m o kept looked each few = record {
  sound = λ k n at. let e = map_at (λ w. w.nogood) kept k n at in subst (IsSound m o) e.2 (each k e.0 e.1).sound;
  short = λ k n at. let e = map_at (λ w. w.nogood) kept k n at in subst (λ n. length n.literals ≤ most_literals) e.2 (each k e.0 e.1).short;
  few = let long = length-map kept (λ w. w.nogood) in omega (arith, long, few);
  each_watched = length-map kept (λ w. w.watch) ∙ sym (length-map kept (λ w. w.nogood));
  watched = λ k n w at_n at_w.
      let e = map_at (λ w. w.nogood) kept k n at_n in
      let f = map_at (λ w. w.watch) kept k w at_w in
      let same : e.0 ≡ f.0 = same_Some e.0 f.0 (sym e.1 ∙ f.1) in
      subst (λ n. IsWatched n w) e.2 (subst (IsWatched e.0.nogood) (ap (λ x. x.watch) same ∙ f.2) (each k e.0 e.1).watched);
}

pub kept_from : (m : Model) (o : Order) (kept : List Watched) (looked : ℕ) → IsStore (held_of m o kept looked) → EachIsKept m o kept
kept_from m o kept looked store k w at =
    let at_n = at_map_of (λ w. w.nogood) kept k w at in
    let at_w = at_map_of (λ w. w.watch) kept k w at in
    record {
      sound = store.sound k w.nogood at_n;
      short = store.short k w.nogood at_n;
      watched = store.watched k w.nogood w.watch at_n at_w;
    }
  where
    at_map_of : {A B : Type 0} (f : A → B) (xs : List A) (k : ℕ) (x : A) → IsAt xs k x → IsAt (map f xs) k (f x)
    at_map_of f [] k x at = absurd (none-some x at)
    at_map_of f (y ∷ xs) zero x at = ap Some (ap f (same_Some y x at))
    at_map_of f (y ∷ xs) (suc k) x at = at_map_of f xs k x at

-- one more is kept, as the last
pub store_added : (m : Model) (o : Order) (kept : List Watched) (w : Watched) (looked : ℕ) → IsStore (held_of m o kept looked)
    → length kept < most_nogoods → IsKept m o w → IsStore (held_of m o (kept ++ w ∷ []) looked)
store_added m o kept w looked store few is =
    store_from m o (kept ++ w ∷ []) looked
    (λ k x at. elim (at_either kept (w ∷ []) k x at) [
      | inl before ↦ kept_from m o kept looked store k x before
      | inr last ↦ subst (IsKept m o) (only w x last.0 last.2) is
    ])
    (omega (arith, few, length-append kept (w ∷ [])))
  where
    only : (w x : Watched) (j : ℕ) → IsAt (w ∷ []) j x → w ≡ x
    only w x zero at = same_Some w x at
    only w x (suc j) at = absurd (none-some x at)

-- what stands in a list in which one was replaced is the new one, or stood there
set_at : {A : Type 0} (xs : List A) (i : ℕ) (y : A) (k : ℕ) (x : A) → IsAt (slice_set xs i y) k x → (y ≡ x) ⊎ IsAt xs k x
set_at [] i y k x at = absurd (none-some x at)
set_at (z ∷ xs) zero y zero x at = inl (same_Some y x at)
set_at (z ∷ xs) zero y (suc k) x at = inr at
set_at (z ∷ xs) (suc i) y zero x at = inr at
set_at (z ∷ xs) (suc i) y (suc k) x at = set_at xs i y k x at

-- one is replaced
pub store_replaced : (m : Model) (o : Order) (kept : List Watched) (i : ℕ) (w : Watched) (looked more : ℕ) → IsStore (held_of m o kept looked)
    → IsKept m o w → IsStore (held_of m o (slice_set kept i w) more)
store_replaced m o kept i w looked more store is =
    store_from m o (slice_set kept i w) more
    (λ k x at. elim (set_at kept i w k x at) [
      | inl new ↦ subst (IsKept m o) new is
      | inr old ↦ kept_from m o kept looked store k x old
    ])
    (let few = store.few in omega (arith, few, length-map kept (λ w. w.nogood), length-set kept i w))

-- ---- what stands at a place of a store

pub at_kept : (kept : List Watched) (nogoods : List Nogood) (k : ℕ) (w : Watched) → map (λ w. w.nogood) kept ≡ nogoods → k < length kept
    → w ≡ get_or kept k w → IsAt nogoods k w.nogood
at_kept kept nogoods k w same within is = subst (λ ns. IsAt ns k w.nogood) same (slice_get_map_read (λ w. w.nogood) kept k w within is)

-- a store, and the list that it is kept in
module _ (m : Model) (o : Order) (kept : List Watched) (looked : ℕ) (h : Held) (same : held_of m o kept looked ≡ h) where
  as_many : length kept ≡ length h.nogoods
  as_many = let long = length-map kept (λ w. w.nogood) in let e = ap (λ h. length h.nogoods) same in cc

  pub stands : (k : ℕ) (w : Watched) → k < length h.nogoods → w ≡ get_or kept k w → IsAt h.nogoods k w.nogood
  stands k w within is = at_kept kept h.nogoods k w (ap (λ h. h.nogoods) same) (omega (arith, as_many, within)) is

  pub element : IsStore (held_of m o kept looked) → (k : ℕ) (w : Watched) → k < length h.nogoods → w ≡ get_or kept k w → IsKept m o w
  element store k w within is = kept_from m o kept looked store k w (slice_get_read kept (length kept) k w refl (omega (arith, as_many, within)) is)

  -- what is read twice at a place is the same
  pub read_twice : (k : ℕ) (v w : Watched) → k < length h.nogoods → v ≡ get_or kept k v → w ≡ get_or kept k w → v ≡ w
  read_twice k v w within is_v is_w =
      let inside : k < length kept = omega (arith, as_many, within) in
      same_Some v w (sym (slice_get_read kept (length kept) k v refl inside is_v) ∙ slice_get_read kept (length kept) k w refl inside is_w)

-- ---- what applies

module _ (m : Model) (keep : List Bool) (s : State) (nogoods : List Nogood) where
  pub applies_there : (k : ℕ) (n : Nogood) → IsAt nogoods k n → Applies m keep s n → AppliesAt m keep s nogoods k
  applies_there k n at is = record { nogood = n; there = at; applies = is }

  pub passed_there : (k : ℕ) (n : Nogood) → IsAt nogoods k n → ¬ Applies m keep s n → ¬ AppliesAt m keep s nogoods k
  passed_there k n at none is = none (subst (Applies m keep s) (same_Some is.nogood n (sym is.there ∙ at)) is.applies)

  -- where none of the first so many applies, and there are no more, none does
  pub none_applies : (k : ℕ) → ((place : ℕ) → place < k → ¬ AppliesAt m keep s nogoods place) → length nogoods ≤ k
      → (place : ℕ) → ¬ AppliesAt m keep s nogoods place
  none_applies k none all place is =
      let within = slice_get_within nogoods place is.nogood is.there in
      none place (omega (arith, within, all)) is

-- ---- what is watched

pub entailed_watched : (m : Model) (s : State) (literals : List Literal) (w : Option (ℕ × ℕ)) → entails_all m s literals
    → AreWatchedEntailed m s literals w
entailed_watched m s literals None all = tt
entailed_watched m s literals (Some (a, b)) all =
    (λ l at. list_all_at (entails m s) literals all a l at, λ l at. list_all_at (entails m s) literals all b l at)

-- a literal that isn't entailed stands at none of the watched places, and keeps all from being entailed
pub open_fails : (m : Model) (s : State) (literals : List Literal) (place : ℕ) → IsFirstOpen m s literals (Some place) → ¬ entails_all m s literals
open_fails m s literals place is all = true≢false (sym (list_all_at (entails m s) literals all place is.0 is.1) ∙ is.2)

pub open_within : (m : Model) (s : State) (literals : List Literal) (place : ℕ) → IsFirstOpen m s literals (Some place) → place < length literals
open_within m s literals place is = slice_get_within literals place is.0 is.1

pub none_open : (m : Model) (s : State) (literals : List Literal) → IsFirstOpen m s literals None → entails_all m s literals
none_open m s literals none = list_all_from (entails m s) literals none
