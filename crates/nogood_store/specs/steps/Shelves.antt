-- Nogoods beside the literals at which they are watched, and a search that goes over these.
use Rattle.std.specs.Prelude.{◌≡◌, ◌≢◌, ◌<◌, ◌≤◌, ◌⊎◌, ℕ, Bool, IsTrue, IfSome, Option, None, Some, List, [], length, map}
use Rattle.base_laws.specs.Places.{IsAt}
use Rattle.prod_model.specs.declared.model.Model.{Model}
use Rattle.config_value.specs.declared.literal.Literal.{Literal}
use Rattle.state_space.specs.State.{State}
use Rattle.state_space.specs.Entails.{entails}
use Rattle.literal_book.specs.declared.nogood.Nogood.{Nogood}
use Rattle.nogood_store.specs.declared.watchers.Watchers.{Watchers}
use Rattle.nogood_store.specs.declared.watched.Watched.{Watched}
use Rattle.nogood_store.specs.declared.shelf.Shelf.{Shelf}
use Rattle.nogood_store.specs.declared.shelf.Seen.{Seen}
use Rattle.nogood_store.specs.declared.shelf.Seen.TheVariants.{PassedOver, Applying, Open}
use Rattle.nogood_store.specs.Stores.{Applies, AppliesAt, IsWatched, most_literals}
use Rattle.nogood_store.specs.steps.Watchers.{IsWatchedAt, KeepsAhead, Stands}

-- the nogoods of a shelf
abbrev pub nogoods_of : Shelf → List Nogood
nogoods_of s = map (λ w. w.nogood) s.nogoods.items

-- the nogood of a number is found: it has no literals and is among the bare ones, or it is watched
-- at one of its literals
pub record IsWatchedAmong (w : Watchers) (k : ℕ) (literals : List Literal) : Type 0 where
  pub literal : Literal
  pub place : ℕ
  pub there : IsAt literals place literal
  pub watched : IsWatchedAt w literal k

abbrev pub IsBareAmong : List ℕ → ℕ → List Literal → Type 0
IsBareAmong bare k literals = (literals ≡ []) × ((i : ℕ) × IsAt bare i k)

abbrev pub IsFound : Shelf → ℕ → List Literal → Type 0
IsFound s k literals = IsBareAmong s.bare.items k literals ⊎ IsWatchedAmong s.watchers k literals

-- each nogood is watched and short, and is found
pub record IsShelf (s : Shelf) : Type 0 where
  pub watched : (k : ℕ) (x : Watched) → IsAt s.nogoods.items k x → IsWatched x.nogood x.watch
  pub short : (k : ℕ) (x : Watched) → IsAt s.nogoods.items k x
      → length x.nogood.literals ≤ most_literals
  pub found : (k : ℕ) (x : Watched) → IsAt s.nogoods.items k x
      → IsFound s k x.nogood.literals

-- what a search leaves: the nogoods stay, watched perhaps elsewhere
pub record KeepsShelf (old new : Shelf) : Type 0 where
  pub nogoods : nogoods_of new ≡ nogoods_of old
  pub looked : old.looked ≤ new.looked
  pub literals : new.watchers.literals.keys ≡ old.watchers.literals.keys
  pub bare : new.bare.items ≡ old.bare.items
  pub shelf : IsShelf old → IsShelf new

-- the first watch of a nogood can move to a place
pub record CanMove (x : Watched) (place : ℕ) : Type 0 where
  pub within : place < length x.nogood.literals
  pub other : IfSome x.watch (λ w. place ≢ w.1)

-- what is seen of a nogood in a state
abbrev pub IsSeen : Model → List Bool → State → Watched → Seen → Type 0
IsSeen m keep s x PassedOver = ¬ Applies m keep s x.nogood
IsSeen m keep s x Applying = Applies m keep s x.nogood
IsSeen m keep s x (Open place) = (¬ Applies m keep s x.nogood) × CanMove x place

-- a number that was found is no greater
abbrev pub IsAtMost : Option ℕ → ℕ → Type 0
IsAtMost None n = ⊥
IsAtMost (Some k) n = k ≤ n

-- What a look at a place of a row leaves, and answers: the least number that was found applies, is
-- no greater than before, and no greater than the one that stands there, if that applies.
pub record IsLooked (m : Model) (keep : List Bool) (s : State) (k at : ℕ) (old new : Shelf)
    (least result : Option ℕ) : Type 0 where
  pub kept : KeepsShelf old new
  pub ahead : KeepsAhead k at old.watchers.rows.items new.watchers.rows.items
  pub found : IfSome least (AppliesAt m keep s (nogoods_of old))
      → IfSome result (AppliesAt m keep s (nogoods_of old))
  pub lower : (p : ℕ) → IsAtMost least p → IsAtMost result p
  pub passed : (p : ℕ) → Stands old.watchers.rows.items k at p
      → AppliesAt m keep s (nogoods_of old) p → IsAtMost result p

-- ---- what is left

-- a number is watched at an entailed literal, at a row and place that are still ahead
pub record IsLeft
    (m : Model) (s : State) (w : Watchers) (Ahead : ℕ → ℕ → Type 0) (p : ℕ) : Type 0 where
  pub row : ℕ
  pub place : ℕ
  pub literal : Literal
  pub of_row : IsAt w.literals.keys row literal
  pub entailed : IsTrue (entails m s literal)
  pub there : Stands w.rows.items row place p
  pub ahead : Ahead row place

-- the rows from one on
abbrev pub FromRow : ℕ → ℕ → ℕ → Type 0
FromRow k row place = k ≤ row

-- the rows behind one, and so many places of it
abbrev pub FromPlace : ℕ → ℕ → ℕ → ℕ → Type 0
FromPlace k at row place = (k < row) ⊎ ((row ≡ k) × (place < at))

-- How far a search has come: the least number that was found applies, and each that applies is no
-- less, or is left.
pub record IsSearching (m : Model) (keep : List Bool) (s : State) (old new : Shelf)
    (Ahead : ℕ → ℕ → Type 0) (least : Option ℕ) : Type 0 where
  pub kept : KeepsShelf old new
  pub found : IfSome least (AppliesAt m keep s (nogoods_of old))
  pub left : (p : ℕ) → AppliesAt m keep s (nogoods_of old) p
      → IsAtMost least p ⊎ IsLeft m s new.watchers Ahead p
