-- The least set of a range, from those of its two halves: the step of QuickXplain.
use Rattle.std.proofs.Common.{◌≡◌, ℕ, suc, ◌+◌, ◌*◌, ◌<◌, ◌≤◌, List, refl, ap, subst, sym, ◌∙◌, ◌⊎◌, inl, inr, arith, length, slice_get, Some}
use Rattle.std.specs.Prelude.{Bool, true, false}
use Rattle.std.proofs.lemmas.Bool.{true≢false}
use Rattle.std.proofs.Math.Nat.{mul-suc, mul-add, add-mul}
use Rattle.std.proofs.lemmas.Option.{slice_get_within, slice_get_past}
use Rattle.config_value.specs.Conflict.{IsAntilexSmaller}
use Rattle.quickxplain.specs.Testers.{IsPart, IsClosedUnderParts, IsPreferredConflictOf}
use Rattle.quickxplain.specs.steps.Ranges.{fill, AgreeOutside, KeepsAll, IsLeastWithin}
use Rattle.quickxplain.proofs.Ranges.{same_places, further_alike, smaller_by_places, fill-outside, fill-inside, length-fill}

-- where a place stands
where_is : (from to k : ℕ) → ((k < from) ⊎ (to ≤ k)) ⊎ ((from ≤ k) × (k < to))
where_is from to k = at (before from k) (before to k)
  where
    before : (n k : ℕ) → (k < n) ⊎ (n ≤ k)
    before n k = grind arith

    at : (k < from) ⊎ (from ≤ k) → (k < to) ⊎ (to ≤ k) → ((k < from) ⊎ (to ≤ k)) ⊎ ((from ≤ k) × (k < to))
    at (inl h) other = inl (inl h)
    at (inr h) (inl l) = inr (h, l)
    at (inr h) (inr l) = inl (inr l)

some_false_true : (r : _) → r ≡ Some false → r ≡ Some true → ⊥
some_false_true r p q = true≢false (let e = sym q ∙ p in cc)

-- a set that is smaller than another, from which it differs only in a range, differs from it there
within_range : (from to : ℕ) (y z : List Bool) → AgreeOutside from to z y → (s : IsAntilexSmaller y z) → (from ≤ s.request) × (s.request < to)
within_range from to y z agree s = elim (where_is from to s.request) [
  | inl out ↦ absurd (some_false_true (slice_get y s.request) s.left_out (sym (agree s.request out) ∙ s.kept))
  | inr in_ ↦ in_
]

agree_back : (from to : ℕ) (x y z : List Bool) → AgreeOutside from to x y → AgreeOutside from to x z → AgreeOutside from to y z
agree_back from to x y z p q k h = sym (p k h) ∙ q k h

-- Where none of the range already isn't consistent, that is the least.
pub none_is_least : (consistent : List Bool → Type 0) (from to : ℕ) (x : List Bool)
    → ¬ consistent (fill from to false x) → IsLeastWithin consistent from to x (fill from to false x)
none_is_least consistent from to x clash = record {
  outside = fill-outside from to false x;
  clash = clash;
  least = λ y agree inconsistent s.
      let in_ = within_range from to y (fill from to false x) (agree_back from to x (fill from to false x) y (fill-outside from to false x) agree) s in
      let short : s.request < length x = subst (λ n. s.request < n) (length-fill from to false x) (slice_get_within (fill from to false x) s.request true s.kept) in
      some_false_true (slice_get (fill from to false x) s.request) (fill-inside from to false x s.request in_.0 in_.1 short) s.kept;
}

-- A single request is needed where the set without it is consistent.
pub one_is_least : (consistent : List Bool → Type 0) (from to : ℕ) (x : List Bool) → to ≡ suc from
    → ¬ consistent x → consistent (fill from to false x) → IsLeastWithin consistent from to x x
one_is_least consistent from to x single clash rest = record {
  outside = λ k h. refl;
  clash = clash;
  least = λ y agree inconsistent s.
      let in_ = within_range from to y x agree s in
      let here : s.request ≡ from = omega (arith, in_.0, in_.1, single) in
      let same : y ≡ fill from to false x = same_places y (fill from to false x) (λ k. elim (where_is from to k) [
        | inl out ↦ sym (agree k out) ∙ fill-outside from to false x k out
        | inr inside ↦
            let short : k < length x = slice_get_within x k true (subst (λ n. slice_get x n ≡ Some true) (omega (arith, here, single, inside.0, inside.1)) s.kept) in
            subst (λ n. slice_get y n ≡ Some false) (omega (arith, here, single, inside.0, inside.1)) s.left_out
            ∙ sym (fill-inside from to false x k inside.0 inside.1 short)
      ]) in
      inconsistent (subst consistent (sym same) rest);
}

-- ---- two halves

-- a set is part of what it becomes by keeping more
pub part_of_filled : (from to : ℕ) (y : List Bool) → IsPart y (fill from to true y)
part_of_filled from to y = record {
  each_request = sym (length-fill from to true y);
  within = λ k kept. elim (where_is from to k) [
    | inl out ↦ sym (fill-outside from to true y k out) ∙ kept
    | inr inside ↦ fill-inside from to true y k inside.0 inside.1 (slice_get_within y k true kept)
  ];
}

-- so it stays inconsistent
still_clashes : (consistent : List Bool → Type 0) → IsClosedUnderParts consistent → (from to : ℕ) (y : List Bool)
    → ¬ consistent y → ¬ consistent (fill from to true y)
still_clashes consistent closed from to y clash holds = clash (closed y (fill from to true y) (part_of_filled from to y) holds)

either : (n k : ℕ) → (k < n) ⊎ (n ≤ k)
either n k = grind arith

module _ (consistent : List Bool → Type 0) (closed : IsClosedUnderParts consistent) (from mid to : ℕ) (x later z : List Bool)
    (low : from ≤ mid) (high : mid ≤ to) (all : KeepsAll from mid x)
    (second : IsLeastWithin consistent mid to x later) (first : IsLeastWithin consistent from mid later z) where
  to_later : (k : ℕ) → (k < from) ⊎ (to ≤ k) → (k < mid) ⊎ (to ≤ k)
  to_later k (inl h) = inl (omega (arith, h, low))
  to_later k (inr h) = inr h

  to_first : (k : ℕ) → (k < from) ⊎ (to ≤ k) → (k < from) ⊎ (mid ≤ k)
  to_first k (inl h) = inl h
  to_first k (inr h) = inr (omega (arith, h, high))

  to_whole : (k : ℕ) → (k < from) ⊎ (mid ≤ k) → (k < mid) ⊎ (to ≤ k) → (k < from) ⊎ (to ≤ k)
  to_whole k (inl h) other = inl h
  to_whole k (inr h) (inl l) = absurd (omega (arith, h, l))
  to_whole k (inr h) (inr l) = inr l

  both_outside : AgreeOutside from to x z
  both_outside k h = second.outside k (to_later k h) ∙ first.outside k (to_first k h)

  -- it would be smaller than the least of the earlier half
  early : (y : List Bool) → AgreeOutside from to x y → ¬ consistent y → (s : IsAntilexSmaller y z) → s.request < mid → ⊥
  early y agree inconsistent s h = first.least y beside inconsistent s
    where
      at : (k : ℕ) → (k < from) ⊎ (mid ≤ k) → from ≤ k → slice_get later k ≡ slice_get y k
      at k (inl below) inside = absurd (omega (arith, below, inside))
      at k (inr above) inside = first.outside k (inr above) ∙ sym (further_alike y z s k (omega (arith, above, h)))

      beside : AgreeOutside from mid later y
      beside k out = elim (where_is from to k) [
        | inl far ↦ sym (second.outside k (to_later k far)) ∙ agree k far
        | inr inside ↦ at k out inside.0
      ]

  -- with all of the earlier half it would be smaller than the least of the later one
  late : (y : List Bool) → AgreeOutside from to x y → ¬ consistent y → (s : IsAntilexSmaller y z) → mid ≤ s.request → ⊥
  late y agree inconsistent s h = second.least (fill from mid true y) beside (still_clashes consistent closed from mid y inconsistent) smaller
    where
      beside : AgreeOutside mid to x (fill from mid true y)
      beside k out = elim (where_is from mid k) [
        | inl far ↦ agree k (to_whole k far out) ∙ fill-outside from mid true y k far
        | inr inside ↦ all k inside.0 inside.1 ∙ sym (fill-inside from mid true y k inside.0 inside.1
            (let room : s.request < length y = slice_get_within y s.request false s.left_out in omega (arith, room, h, inside.1)))
      ]

      smaller : IsAntilexSmaller (fill from mid true y) later
      smaller = smaller_by_places (fill from mid true y) later s.request
          (sym (fill-outside from mid true y s.request (inr h)) ∙ s.left_out)
          (first.outside s.request (inr h) ∙ s.kept)
          (λ j beyond. sym (fill-outside from mid true y j (inr (omega (arith, beyond, h)))) ∙ further_alike y z s j beyond
          ∙ sym (first.outside j (inr (omega (arith, beyond, h)))))

  -- The least of the later half, and then the least of the earlier half beside it, are the least of the whole.
  pub halves_are_least : IsLeastWithin consistent from to x z
  halves_are_least = record {
    outside = both_outside;
    clash = first.clash;
    least = λ y agree inconsistent s. elim (either mid s.request) [
      | inl h ↦ early y agree inconsistent s h
      | inr h ↦ late y agree inconsistent s h
    ];
  }

-- ---- the whole

-- The least within all places is the preferred conflict.
pub least_is_preferred : (consistent : List Bool → Type 0) (n : ℕ) (x z : List Bool) → length x ≡ n → length z ≡ n
    → IsLeastWithin consistent 0 n x z → IsPreferredConflictOf consistent n z
least_is_preferred consistent n x z long same least = record {
  is = record { each_request = same; inconsistent = least.clash };
  none_before = λ y clash. least.least y (λ k h. outside k h y clash.each_request) clash.inconsistent;
}
  where
    outside : (k : ℕ) → (k < 0) ⊎ (n ≤ k) → (y : List Bool) → length y ≡ n → slice_get x k ≡ slice_get y k
    outside k (inl h) y e = absurd (omega (arith, h))
    outside k (inr h) y e = slice_get_past x k (omega (arith, h, long)) ∙ sym (slice_get_past y k (omega (arith, h, e)))

-- ---- how many questions

-- Two halves take at most two questions for each request that is needed, at each level.
pub questions : (later earlier own k1 k2 l : ℕ)
    → later ≤ 1 + 2 * k2 * l → earlier ≤ own + 2 * k1 * l → own ≤ 1 → 1 ≤ k2 + k1
    → later + earlier ≤ 2 * (k2 + k1) * suc l
questions later earlier own k1 k2 l a b c e =
    let sum : 2 * (k2 + k1) * suc l ≡ 2 * k2 * l + 2 * k1 * l + 2 * (k2 + k1) =
    mul-suc (2 * (k2 + k1)) l ∙ ap (λ t. t * l + 2 * (k2 + k1)) (mul-add 2 k2 k1) ∙ ap (λ t. t + 2 * (k2 + k1)) (add-mul (2 * k2) (2 * k1) l) in
    rw sum (omega (arith, a, b, c, e))
