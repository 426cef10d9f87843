-- What stands at a place of a list.
use Rattle.std.specs.Prelude.{◌≡◌, ℕ, List, Some, slice_get}

-- the k-th of the list is x, counted from 0
abbrev pub IsAt : {A : Type 0} → List A → ℕ → A → Type 0
IsAt xs k x = slice_get xs k ≡ Some x
