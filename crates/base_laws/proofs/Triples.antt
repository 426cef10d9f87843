-- Lists of lists of lists, joined: which place of the whole is which place of which list of which element.
use Rattle.std.proofs.Common.{◌≡◌, ℕ, ◌<◌, ◌+◌, List, length, take, Some, refl, sym, ap, ap₂, ◌∙◌, subst, inl, inr, ◌⊎◌, arith}
use Rattle.std.specs.List.{flat_map}
use Rattle.std.proofs.lemmas.Bool.{cases_lt}
use Rattle.std.proofs.lemmas.Option.{same_Some}
use Rattle.base_laws.specs.Places.{IsAt}
use Rattle.base_laws.proofs.Pieces.{IsInPiece, joined_place, piece_at, at_piece, earlier_piece}

-- by the first number, then by the second, then by the third
pub record Triple : Type 0 where
  pub first : ℕ
  pub second : ℕ
  pub third : ℕ

abbrev pub IsEarlier : Triple → Triple → Type 0
IsEarlier a b = (a.first < b.first) ⊎ ((a.first ≡ b.first) × ((a.second < b.second) ⊎ ((a.second ≡ b.second) × (a.third < b.third))))

-- of two triples one is earlier, or they are the same
pub triples_compare : (a b : Triple) → IsEarlier a b ⊎ ((a ≡ b) ⊎ IsEarlier b a)
triples_compare a b = elim (cases_lt a.first b.first) [
  | inl lower ↦ inl (inl lower)
  | inr upper ↦ elim (cases_lt b.first a.first) [
    | inl lower ↦ inr (inr (inl lower))
    | inr equal ↦ by_second (omega arith)
  ]
]
  where
    by_third : a.first ≡ b.first → a.second ≡ b.second → IsEarlier a b ⊎ ((a ≡ b) ⊎ IsEarlier b a)
    by_third first second = elim (cases_lt a.third b.third) [
      | inl lower ↦ inl (inr (first, inr (second, lower)))
      | inr upper ↦ elim (cases_lt b.third a.third) [
        | inl lower ↦ inr (inr (inr (sym first, inr (sym second, lower))))
        | inr equal ↦
            (let third : a.third ≡ b.third = omega arith in
            let same : a ≡ b = λ i. record { first = first i; second = second i; third = third i } in
            inr (inl same))
      ]
    ]

    by_second : a.first ≡ b.first → IsEarlier a b ⊎ ((a ≡ b) ⊎ IsEarlier b a)
    by_second first = elim (cases_lt a.second b.second) [
      | inl lower ↦ inl (inr (first, inl lower))
      | inr upper ↦ elim (cases_lt b.second a.second) [
        | inl lower ↦ inr (inr (inr (sym first, inl lower)))
        | inr equal ↦ by_third first (omega arith)
      ]
    ]

module _ {X Z W : Type 0} (lists : X → List Z) (elements : X → Z → List W) where
  -- all elements of the lists of x, in order
  abbrev pub all_of : X → List W
  all_of x = flat_map (elements x) (lists x)

  -- the element at this place of the list at this place of the element at this place
  pub record StandsAt (xs : List X) (t : Triple) (w : W) : Type 0 where
    pub owner : X
    pub owns : IsAt xs t.first owner
    pub list : Z
    pub listed : IsAt (lists owner) t.second list
    pub there : IsAt (elements owner list) t.third w

  -- its place in the whole
  abbrev pub place_of : List X → X → Triple → ℕ
  place_of xs x t = joined_place all_of xs t.first (joined_place (elements x) (lists x) t.second t.third)

  -- the triple of a place of the whole
  pub record IsPlaceOf (xs : List X) (n : ℕ) (w : W) : Type 0 where
    pub triple : Triple
    pub stands : StandsAt xs triple w
    pub is : n ≡ place_of xs stands.owner triple

  in_piece : (xs : List X) (t : Triple) (w : W) (s : StandsAt xs t w) → IsAt (all_of s.owner) (joined_place (elements s.owner) (lists s.owner) t.second t.third) w
  in_piece xs t w s = piece_at (elements s.owner) (lists s.owner) t.second t.third s.list w s.listed s.there

  -- what stands in a list stands in the whole
  pub triple_at : (xs : List X) (t : Triple) (w : W) (s : StandsAt xs t w) → IsAt (flat_map all_of xs) (place_of xs s.owner t) w
  triple_at xs t w s =
      piece_at all_of xs t.first (joined_place (elements s.owner) (lists s.owner) t.second t.third) s.owner w s.owns (in_piece xs t w s)

  -- what stands in the whole stands in a list
  pub at_triple : (xs : List X) (n : ℕ) (w : W) → IsAt (flat_map all_of xs) n w → IsPlaceOf xs n w
  at_triple xs n w there =
      let outer = at_piece all_of xs n w there in
      let inner = at_piece (elements outer.element) (lists outer.element) outer.place w outer.there in
      record {
        triple = record { first = outer.number; second = inner.number; third = inner.place };
        stands = record { owner = outer.element; owns = outer.stands; list = inner.element; listed = inner.stands; there = inner.there };
        is = outer.is ∙ ap (joined_place all_of xs outer.number) inner.is;
      }

  -- an earlier triple has an earlier place
  pub earlier_place : (xs : List X) (a b : Triple) (v w : W) (s : StandsAt xs a v) (t : StandsAt xs b w) → IsEarlier a b
      → place_of xs s.owner a < place_of xs t.owner b
  earlier_place xs a b v w s t (inl lower) =
      earlier_piece all_of xs a.first b.first (joined_place (elements s.owner) (lists s.owner) a.second a.third)
      (joined_place (elements t.owner) (lists t.owner) b.second b.third) s.owner v lower s.owns (in_piece xs a v s)
  earlier_place xs a b v w s t (inr (same, rest)) =
      let At : ℕ → Type 0 = λ k. IsAt xs k t.owner in
      let one : s.owner ≡ t.owner = same_Some s.owner t.owner (sym s.owns ∙ subst At (sym same) t.owns) in
      let inner : joined_place (elements s.owner) (lists s.owner) a.second a.third < joined_place (elements s.owner) (lists s.owner) b.second b.third = within rest in
      let moved : place_of xs t.owner b ≡ joined_place all_of xs a.first (joined_place (elements s.owner) (lists s.owner) b.second b.third) =
      ap₂ (λ i x. joined_place all_of xs i (joined_place (elements x) (lists x) b.second b.third)) (sym same) (sym one) in
      omega arith
    where
      within : (a.second < b.second) ⊎ ((a.second ≡ b.second) × (a.third < b.third))
          → joined_place (elements s.owner) (lists s.owner) a.second a.third < joined_place (elements s.owner) (lists s.owner) b.second b.third
      within (inl lower) = earlier_piece (elements s.owner) (lists s.owner) a.second b.second a.third b.third s.list v lower s.listed s.there
      within (inr (one, lower)) =
          let moved : joined_place (elements s.owner) (lists s.owner) b.second b.third ≡ joined_place (elements s.owner) (lists s.owner) a.second b.third =
          ap (λ k. joined_place (elements s.owner) (lists s.owner) k b.third) (sym one) in
          omega arith

  -- the same triple has the same place
  pub same_place : (xs : List X) (a b : Triple) (v w : W) (s : StandsAt xs a v) (t : StandsAt xs b w) → a ≡ b → place_of xs s.owner a ≡ place_of xs t.owner b
  same_place xs a b v w s t same =
      let At : Triple → Type 0 = λ d. IsAt xs d.first t.owner in
      let one : s.owner ≡ t.owner = same_Some s.owner t.owner (sym s.owns ∙ subst At (sym same) t.owns) in
      ap₂ (place_of xs) one same

  -- a triple whose place is earlier is earlier
  pub earlier_triple : (xs : List X) (a b : Triple) (v w : W) (s : StandsAt xs a v) (t : StandsAt xs b w)
      → place_of xs s.owner a < place_of xs t.owner b → IsEarlier a b
  earlier_triple xs a b v w s t lower = elim (triples_compare a b) [
    | inl earlier ↦ earlier
    | inr (inl same) ↦ absurd (omega (arith, same_place xs a b v w s t same))
    | inr (inr later) ↦ absurd (omega (arith, earlier_place xs b a w v t s later))
  ]

  -- triples of the same place are the same
  pub same_triple : (xs : List X) (a b : Triple) (v w : W) (s : StandsAt xs a v) (t : StandsAt xs b w)
      → place_of xs s.owner a ≡ place_of xs t.owner b → a ≡ b
  same_triple xs a b v w s t same = elim (triples_compare a b) [
    | inl earlier ↦ absurd (omega (arith, earlier_place xs a b v w s t earlier))
    | inr (inl one) ↦ one
    | inr (inr later) ↦ absurd (omega (arith, earlier_place xs b a w v t s later))
  ]
