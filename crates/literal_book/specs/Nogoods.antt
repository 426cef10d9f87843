-- Nogoods and pieces.
use Rattle.std.specs.Prelude.{◌≡◌, ℕ, Bool, true, false, not, ◌&&◌, ◌||◌, ◌==◌, IsTrue, List}
use Rattle.std.specs.Int.{bit_at}
use Rattle.std.specs.List.{list_all, count_by, enumerate_from}
use Rattle.base_laws.specs.Places.{IsAt}
use Rattle.prod_model.specs.declared.model.Model.{Model}
use Rattle.prod_model.specs.declared.model.Order.{Order}
use Rattle.config_value.specs.declared.configuration.Instance.{Instance}
use Rattle.config_value.specs.declared.literal.Literal.{Literal}
use Rattle.config_value.specs.Satisfies.{satisfies, meets}
use Rattle.config_value.specs.Literals.{has_literal}
use Rattle.literal_book.specs.declared.nogood.Nogood.{Nogood}
use Rattle.literal_book.specs.declared.nogood.Piece.{Piece}

-- bit k of a mask of requests stands for the request at place k
abbrev pub asks_for : ℕ → ℕ → Bool
asks_for mask k = bit_at mask k == 1

-- it meets each request of the order that the mask has; those that the order lacks are passed over
abbrev pub meets_asked : Model → Order → ℕ → List Instance → Bool
meets_asked m o mask c =
    list_all (λ e. not (asks_for mask e.0) || meets m c e.1) (enumerate_from 0 o.requests)

-- all of the literals hold
abbrev pub has_literals : Model → List Instance → List Literal → Bool
has_literals m c ls = list_all (has_literal m c) ls

-- A configuration meets each request of the nogood, and all its literals hold there.
unfoldable pub excludes : Model → Order → Nogood → List Instance → Bool
excludes m o n c = meets_asked m o n.requests c && has_literals m c n.literals

-- no configuration that satisfies the model is excluded
abbrev pub IsSound : Model → Order → Nogood → Type 0
IsSound m o n = (c : List Instance) → IsTrue (satisfies m c) → excludes m o n c ≡ false

-- all literals of the piece hold
abbrev pub in_piece : Model → Piece → List Instance → Bool
in_piece m p c = has_literals m c p.literals

-- each configuration that satisfies the model is in exactly one of the pieces
abbrev pub IsPartition : Model → List Piece → Type 0
IsPartition m ps =
    (c : List Instance) → IsTrue (satisfies m c) → count_by (λ p. in_piece m p c) ps ≡ 1

-- Each request of the mask is kept: `keep` tells of the request at each place.
abbrev pub AreKept : List Bool → ℕ → Type 0
AreKept keep mask = (k : ℕ) → IsTrue (asks_for mask k) → IsAt keep k true

-- Each literal of the nogood is among the given ones, and each of its requests is kept. So it is
-- not where the nogood has a request that the order lacks.
pub record IsWithin (n : Nogood) (ls : List Literal) (keep : List Bool) : Type 0 where
  pub literals : (k : ℕ) (l : Literal) → IsAt n.literals k l → (j : ℕ) × IsAt ls j l
  pub requests : AreKept keep n.requests
