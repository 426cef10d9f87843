-- The pieces that a function gives for the elements of a list, joined: which place of the whole is which place of a piece.
use Rattle.std.proofs.Common.{◌≡◌, ℕ, zero, suc, ◌<◌, ◌≤◌, ◌+◌, List, [], ◌∷◌, ◌++◌, length, take, Some, refl, sym, ap, ◌∙◌, subst, inl, inr, ◌⊎◌, arith}
use Rattle.std.specs.Prelude.{slice_get}
use Rattle.std.specs.List.{flat_map}
use Rattle.std.proofs.lemmas.List.{length-append}
use Rattle.std.proofs.lemmas.Option.{same_Some, none-some, slice_get_within}
use Rattle.base_laws.specs.Places.{IsAt}
use Rattle.base_laws.proofs.Places.{at_front, at_back}

-- it stands in the first list, or behind it in the second
abbrev pub StandsInEither : {A : Type 0} → List A → List A → ℕ → A → Type 0
StandsInEither xs ys n y = IsAt xs n y ⊎ ((k : ℕ) × IsAt ys k y × (n ≡ length xs + k))

pub at_either : {A : Type 0} (xs ys : List A) (n : ℕ) (y : A) → IsAt (xs ++ ys) n y → StandsInEither xs ys n y
at_either [] ys n y there = let e : n ≡ 0 + n = omega arith in inr (n, there, e)
at_either (x ∷ xs) ys zero y there = inl there
at_either (x ∷ xs) ys (suc n) y there = elim (at_either xs ys n y there) [
  | inl first ↦ inl first
  | inr second ↦ inr (second.0, second.1, let is = second.2 in omega arith)
]

module _ {X Y : Type 0} (f : X → List Y) where
  -- the place in the whole of place k of the piece of element i
  abbrev pub joined_place : List X → ℕ → ℕ → ℕ
  joined_place xs i k = length (flat_map f (take i xs)) + k

  -- the place of the whole is that of a place of a piece
  pub record IsInPiece (xs : List X) (n : ℕ) (y : Y) : Type 0 where
    pub number : ℕ
    pub element : X
    pub stands : IsAt xs number element
    pub place : ℕ
    pub there : IsAt (f element) place y
    pub is : n ≡ joined_place xs number place

  joined_next : (z : X) (xs : List X) (i k : ℕ) → joined_place (z ∷ xs) (suc i) k ≡ length (f z) + joined_place xs i k
  joined_next z xs i k = omega (arith, length-append {A = Y} (f z) (flat_map f (take i xs)))

  -- what stands in a piece stands in the whole
  pub piece_at : (xs : List X) (i k : ℕ) (x : X) (y : Y) → IsAt xs i x → IsAt (f x) k y → IsAt (flat_map f xs) (joined_place xs i k) y
  piece_at [] i k x y at there = absurd (none-some x at)
  piece_at (z ∷ xs) zero k x y at there =
      let Has : X → Type 0 = λ w. IsAt (f w) k y in
      let e : 0 + k ≡ k = omega arith in
      rw e (at_front (f z) (flat_map f xs) k y (subst Has (sym (same_Some z x at)) there))
  piece_at (z ∷ xs) (suc i) k x y at there =
      rw (joined_next z xs i k) (at_back (f z) (flat_map f xs) (joined_place xs i k) y (piece_at xs i k x y at there))

  -- what stands in the whole stands in a piece
  pub at_piece : (xs : List X) (n : ℕ) (y : Y) → IsAt (flat_map f xs) n y → IsInPiece xs n y
  at_piece [] n y there = absurd (none-some y there)
  at_piece (z ∷ xs) n y there = elim (at_either (f z) (flat_map f xs) n y there) [
    | inl first ↦ (let e : n ≡ 0 + n = omega arith in record { number = 0; element = z; stands = refl; place = n; there = first; is = e })
    | inr second ↦ (let found = at_piece xs second.0 y second.1 in
        record {
          number = suc found.number;
          element = found.element;
          stands = found.stands;
          place = found.place;
          there = found.there;
          is = second.2 ∙ ap (λ k. length (f z) + k) found.is ∙ sym (joined_next z xs found.number found.place);
        })
  ]

  -- places of an earlier piece come before those of a later one
  pub earlier_piece : (xs : List X) (i j k l : ℕ) (x : X) (y : Y) → i < j → IsAt xs i x → IsAt (f x) k y → joined_place xs i k < joined_place xs j l
  earlier_piece [] i j k l x y lower at there = absurd (none-some x at)
  earlier_piece xs i zero k l x y lower at there = absurd (omega arith)
  earlier_piece (z ∷ xs) zero (suc j) k l x y lower at there =
      let Within : X → Type 0 = λ w. k < length (f w) in
      let within : k < length (f z) = subst Within (sym (same_Some z x at)) (slice_get_within (f x) k y there) in
      omega (arith, joined_next z xs j l)
  earlier_piece (z ∷ xs) (suc i) (suc j) k l x y lower at there =
      omega (arith, joined_next z xs i k, joined_next z xs j l, earlier_piece xs i j k l x y (omega arith) at there)
