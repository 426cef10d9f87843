-- What holds of a store and of the shelf that it is kept in.
use Rattle.prod_model.specs.declared.model.Model.{Model}
use Rattle.prod_model.specs.declared.model.Order.{Order}
use Rattle.nogood_store.specs.declared.shelf.Shelf.{Shelf}
use Rattle.nogood_store.specs.Stores.{Held, IsStore}
use Rattle.nogood_store.specs.steps.Shelves.{IsShelf}
use Rattle.nogood_store.specs.steps.Watching.{held_of}

-- the store that is kept in a shelf
abbrev pub stored : Model → Order → Shelf → Held
stored m o s = held_of m o s.nogoods.items s.looked

-- it is a store, and each nogood is found where it is watched
pub record IsStored (m : Model) (o : Order) (s : Shelf) : Type 0 where
  pub store : IsStore (stored m o s)
  pub shelf : IsShelf s
