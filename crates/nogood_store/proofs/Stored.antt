-- Stores that are kept in a shelf.
use Rattle.std.proofs.Common.{◌≡◌, ◌<◌, ◌≤◌, ℕ, zero, suc, List, [], ◌∷◌, ◌++◌, inl, inr, map, length, ap, subst, arith}
use Rattle.std.proofs.lemmas.List.{length-map, length-append}
use Rattle.base_laws.specs.Places.{IsAt}
use Rattle.base_laws.proofs.Places.{at_map, at_either}
use Rattle.prod_model.specs.declared.model.Model.{Model}
use Rattle.prod_model.specs.declared.model.Order.{Order}
use Rattle.std.proofs.lemmas.Option.{same_Some, none-some}
use Rattle.literal_book.specs.declared.nogood.Nogood.{Nogood}
use Rattle.literal_book.specs.Nogoods.{IsSound}
use Rattle.nogood_store.specs.declared.watched.Watched.{Watched}
use Rattle.nogood_store.specs.Stores.{IsStore, IsWatched, most_literals, most_nogoods}
use Rattle.nogood_store.specs.steps.Watching.{held_of}
use Rattle.nogood_store.proofs.Kept.{store_from}

-- the same nogoods, watched elsewhere
pub store_moved : (m : Model) (o : Order) (old new : List Watched) (looked more : ℕ) → IsStore (held_of m o old looked)
    → map (λ w. w.nogood) new ≡ map (λ w. w.nogood) old → ((k : ℕ) (w : Watched) → IsAt new k w → IsWatched w.nogood w.watch) → IsStore (held_of m o new more)
store_moved m o old new looked more store same watched =
    store_from m o new more
    (λ k w at.
    let there = subst (λ ns. IsAt ns k w.nogood) same (at_map (λ w. w.nogood) new k w at) in
    record { sound = store.sound k w.nogood there; short = store.short k w.nogood there; watched = watched k w at })
    (let few = store.few in let e = ap length same in omega (arith, few, e, length-map new (λ w. w.nogood)))

-- one nogood more, as the last
pub store_more : (m : Model) (o : Order) (old new : List Watched) (n : Nogood) (looked more : ℕ) → IsStore (held_of m o old looked)
    → map (λ w. w.nogood) new ≡ map (λ w. w.nogood) old ++ n ∷ [] → IsSound m o n → length n.literals ≤ most_literals → length old < most_nogoods
    → ((k : ℕ) (w : Watched) → IsAt new k w → IsWatched w.nogood w.watch) → IsStore (held_of m o new more)
store_more m o old new n looked more store same sound short room watched =
    store_from m o new more
    (λ k w at.
    let there = subst (λ ns. IsAt ns k w.nogood) same (at_map (λ w. w.nogood) new k w at) in
    elim (at_either (map (λ w. w.nogood) old) (n ∷ []) k w.nogood there) [
      | inl before ↦ record { sound = store.sound k w.nogood before; short = store.short k w.nogood before; watched = watched k w at }
      | inr last ↦
          let is = only w.nogood last.0 last.2 in
          record { sound = subst (IsSound m o) is sound; short = subst (λ n. length n.literals ≤ most_literals) is short; watched = watched k w at }
    ])
    (let e = ap length same in let f = length-append (map (λ w. w.nogood) old) (n ∷ []) in omega (arith, room, e, f, length-map new (λ w. w.nogood), length-map old (λ w. w.nogood)))
  where
    only : (x : Nogood) (j : ℕ) → IsAt (n ∷ []) j x → n ≡ x
    only x zero at = same_Some n x at
    only x (suc j) at = absurd (none-some x at)
