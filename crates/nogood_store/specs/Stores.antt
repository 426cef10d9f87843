-- Stores of nogoods: which are held, which of them apply, and where each is watched.
use Rattle.std.specs.Prelude.{◌≡◌, ◌≢◌, ◌↔◌, ◌<◌, ◌≤◌, ℕ, Bool, Option, None, Some, List, [], ◌∷◌, ◌++◌, length}
use Rattle.base_laws.specs.Places.{IsAt}
use Rattle.prod_model.specs.First.{IsFirst}
use Rattle.prod_model.specs.declared.model.Model.{Model}
use Rattle.prod_model.specs.declared.model.Order.{Order}
use Rattle.literal_book.specs.declared.added.Added.{Added}
use Rattle.literal_book.specs.declared.added.Added.TheVariants.{Added as IsLast, Full, TooLong}
use Rattle.literal_book.specs.declared.nogood.Nogood.{Nogood}
use Rattle.literal_book.specs.Nogoods.{AreKept, IsSound}
use Rattle.state_space.specs.State.{State}
use Rattle.state_space.specs.Described.{entails_all}

-- how many nogoods a store holds at most
abbrev pub most_nogoods : ℕ
most_nogoods = 20000

-- how many literals a nogood of a store has at most
abbrev pub most_literals : ℕ
most_literals = 32

-- A store: its model and order, its nogoods in order, the two places at which each is watched, and
-- how often the other literals of a nogood were looked at.
pub record Held : Type 0 where
  pub model : Model
  pub order : Order
  pub nogoods : List Nogood
  pub watches : List (Option (ℕ × ℕ))
  pub looked : ℕ

-- the store of a model and an order without nogoods
abbrev pub empty : Model → Order → Held
empty m o = record { model = m; order = o; nogoods = []; watches = []; looked = 0 }

-- ---- which apply

-- In the state the nogood's requests are kept, and each of its literals is entailed.
pub record Applies (m : Model) (keep : List Bool) (s : State) (n : Nogood) : Type 0 where
  pub kept : AreKept keep n.requests
  pub entailed : entails_all m s n.literals

-- the nogood at a place applies
pub record AppliesAt (m : Model) (keep : List Bool) (s : State) (nogoods : List Nogood)
    (place : ℕ) : Type 0 where
  pub nogood : Nogood
  pub there : IsAt nogoods place nogood
  pub applies : Applies m keep s nogood

-- The first that applies, or that none does.
abbrev pub IsFirstApplying : Model → List Bool → State → List Nogood → Option ℕ → Type 0
IsFirstApplying m keep s nogoods None = (place : ℕ) → ¬ AppliesAt m keep s nogoods place
IsFirstApplying m keep s nogoods (Some n) = IsFirst (AppliesAt m keep s nogoods) ◌<◌ n

-- ---- what always holds

-- A nogood is watched at two of its literals, at one where it has one, and nowhere where it has
-- none.
abbrev pub IsWatched : Nogood → Option (ℕ × ℕ) → Type 0
IsWatched n None = n.literals ≡ []
IsWatched n (Some (a, b)) =
    (a < length n.literals) × (b < length n.literals) × (2 ≤ length n.literals → a ≢ b)

-- Each nogood is sound for the store's model and order, and has few literals; there are few
-- nogoods, and each is watched.
pub record IsStore (h : Held) : Type 0 where
  pub sound : (k : ℕ) (n : Nogood) → IsAt h.nogoods k n → IsSound h.model h.order n
  pub short : (k : ℕ) (n : Nogood) → IsAt h.nogoods k n → length n.literals ≤ most_literals
  pub few : length h.nogoods ≤ most_nogoods
  pub each_watched : length h.watches ≡ length h.nogoods
  pub watched : (k : ℕ) (n : Nogood) (w : Option (ℕ × ℕ)) → IsAt h.nogoods k n
      → IsAt h.watches k w → IsWatched n w

-- ---- what calls do

-- What adding a nogood answers and does: too long exactly above the most literals; else full
-- exactly where the most nogoods are held; else it is last. The others stay, and where it isn't
-- added all does.
pub record IsAdded (old new : Held) (n : Nogood) (a : Added) : Type 0 where
  pub too_long : (a ≡ TooLong) ↔ (most_literals < length n.literals)
  pub full : (a ≡ Full)
      ↔ ((length n.literals ≤ most_literals) × (most_nogoods ≤ length old.nogoods))
  pub added : a ≡ IsLast → new.nogoods ≡ old.nogoods ++ n ∷ []
  pub unchanged : a ≢ IsLast → new ≡ old
  pub model : new.model ≡ old.model
  pub order : new.order ≡ old.order
  pub looked : new.looked ≡ old.looked

-- What finding leaves: the nogoods stay, and are perhaps watched elsewhere; it has looked at no
-- fewer.
pub record IsSearched (old new : Held) : Type 0 where
  pub model : new.model ≡ old.model
  pub order : new.order ≡ old.order
  pub nogoods : new.nogoods ≡ old.nogoods
  pub looked : old.looked ≤ new.looked
