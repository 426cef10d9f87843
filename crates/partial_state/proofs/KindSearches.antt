-- Searches of the types of a mask for one that has ports.
use Rattle.std.proofs.Common.{◌≡◌, ◌≢◌, ℕ, ◌-◌, ◌<◌, ◌≤◌, ◌*◌, ◌%◌, ◌^◌, ◌∙◌, ap, sym, ◌==◌, not, Bool, true, false, refl, inl, inr, List, [], ◌∷◌, length, bit_and, arith, ltb-true}
use Rattle.std.specs.Prelude.{◌⊎◌, IsTrue, if◌then◌else◌}
use Rattle.std.specs.Int.{bit_at, trailing_zeros, w128}
use Rattle.std.specs.List.{list_any, list_all}
use Rattle.std.proofs.lemmas.Bool.{and_parts, or_cases, or_left, or_right, or_from, cases_eq, false≢true, eq-eqb, eqb-true, ne_eqb}
use Rattle.std.proofs.lemmas.Nat.{and_le_l}
use Rattle.std.proofs.lemmas.Nat.Bits.{bit_at-trailing_zeros, bit_at-zero}
use Rattle.base_laws.proofs.Masks128.{bit_at_without}
use Rattle.prod_model.specs.declared.model.Model.{Model}
use Rattle.prod_model.specs.declared.model.PortAt.{PortAt}
use Rattle.prod_model.specs.Forest.{is_leaf}
use Rattle.prod_model.specs.Taxonomy.{ports_at}
use Rattle.domain_store.specs.Words.{has_word}
use Rattle.state_space.specs.Sets.{has_number}
use Rattle.state_space.specs.Generation.{has_no_ports}
use Rattle.state_space.proofs.PortLaws.{all_has}
use Rattle.partial_state.specs.Masks.{kinds_of}
use Rattle.partial_state.proofs.KindLaws.{has_kind}

-- a member that passes
any_has : (test : ℕ → Bool) (xs : List ℕ) (k : ℕ) → IsTrue (has_number xs k) → IsTrue (test k) → list_any test xs ≡ true
any_has test [] k there passes = absurd (false≢true there)
any_has test (x ∷ xs) k there passes = elim (or_cases (x == k) (has_number xs k) there) [
  | inl here ↦ or_left (test x) (list_any test xs) (ap test (eqb-true x k here) ∙ passes)
  | inr later ↦ or_right (test x) (list_any test xs) (any_has test xs k later passes)
]

-- no member that passes
none_has : (test : ℕ → Bool) (xs : List ℕ) → ((k : ℕ) → IsTrue (has_number xs k) → test k ≡ false) → list_any test xs ≡ false
none_has test [] none = refl
none_has test (x ∷ xs) none =
    or_from (test x) (list_any test xs) (none x (or_left (x == x) (has_number xs x) (eq-eqb x x refl)))
    (none_has test xs (λ k there. none k (or_right (x == k) (has_number xs k) there)))

-- The types of a mask that are no longer left have no ports.
pub record IsSearched (m : Model) (mask rest : ℕ) : Type 0 where
  pub fits : rest < 2 ^ 128
  pub within : (t : ℕ) → IsTrue (has_word rest t) → IsTrue (has_word mask t)
  pub portless : (t : ℕ) → IsTrue (has_word mask t) → IsTrue (has_word rest t) ⊎ IsTrue (has_no_ports m t)

-- no type is searched yet
pub none_searched : (m : Model) (mask : ℕ) → mask < 2 ^ 128 → IsSearched m mask mask
none_searched m mask fits = record { fits = fits; within = λ t is. is; portless = λ t is. inl is }

-- the ports of a type are none where the list is empty
portless_from : (m : Model) (t : ℕ) → length (ports_at m t) ≡ 0 → IsTrue (has_no_ports m t)
portless_from m t none = by (ports_at m t) none
  where
    by : (ps : List PortAt) → length ps ≡ 0 → IsTrue (elim ps [ [] ↦ true | (p ∷ qs) ↦ false ])
    by [] none = refl
    by (p ∷ qs) none = absurd (omega (arith, none))

ported_from : (m : Model) (t : ℕ) → (length (ports_at m t) ≡ 0 → ⊥) → has_no_ports m t ≡ false
ported_from m t some = by (ports_at m t) some
  where
    by : (ps : List PortAt) → (length ps ≡ 0 → ⊥) → elim ps [ [] ↦ true | (p ∷ qs) ↦ false ] ≡ false
    by [] some = absurd (some refl)
    by (p ∷ qs) some = refl

module _ (m : Model) (mask rest : ℕ) (fits : mask < 2 ^ 128) (left : rest ≢ 0) (is : IsSearched m mask rest) where
  abbrev pub least : ℕ
  least = trailing_zeros w128 rest

  abbrev pub others : ℕ
  others = bit_and rest (2 ^ 128 - 1 - 1 * 2 ^ least % 2 ^ 128)

  lowest : (least < 128) × (bit_at rest least ≡ 1) × ((i : ℕ) → i < least → bit_at rest i ≡ 0)
  lowest = bit_at-trailing_zeros w128 rest (omega (arith, left)) is.fits

  -- the least type that is left is one of the mask
  least_there : IsTrue (has_number (kinds_of mask) least)
  least_there = has_kind mask least fits ∙ is.within least (eq-eqb (bit_at rest least) 1 lowest.1)

  pub least_known : IsTrue (list_all (is_leaf m) (kinds_of mask)) → least < length m.types
  unfolding is_leaf
  least_known leaves = ltb-true least (length m.types) (and_parts _ _ (all_has (is_leaf m) (kinds_of mask) least leaves least_there)).0

  -- where it has ports, one of the mask has
  pub one_has : (ports : List PortAt) (empty : Bool) → ports ≡ ports_at m least → empty ≡ (length ports == 0) → empty ≡ false → true ≡ list_any (λ t. not (has_no_ports m t)) (kinds_of mask)
  one_has ports empty same told some =
      sym (any_has (λ t. not (has_no_ports m t)) (kinds_of mask) least least_there (ap not (ported_from m least (λ none.
      false≢true (sym some ∙ (told ∙ eq-eqb (length ports) 0 (ap length same ∙ none)))))))

  bit_left : (k : ℕ) → bit_at others k ≡ (if k == least then 0 else bit_at rest k)
  bit_left k = bit_at_without rest least k lowest.0 is.fits

  -- without it fewer are left
  pub fewer_left : others < rest
  fewer_left =
      let most : others ≤ rest = and_le_l rest (2 ^ 128 - 1 - 1 * 2 ^ least % 2 ^ 128) in
      elim (cases_eq others rest) [
        | inl same ↦ absurd (let bit : bit_at others least ≡ 0 = bit_left least ∙ ap (λ b. if b then 0 else bit_at rest least) (eq-eqb least least refl) in
            let kept : bit_at others least ≡ 1 = ap (λ n. bit_at n least) same ∙ lowest.1 in omega (arith, bit, kept))
        | inr other ↦ omega (arith, most, other)
      ]

  -- where it has no ports, it is searched
  pub one_searched : (ports : List PortAt) (empty : Bool) → ports ≡ ports_at m least → empty ≡ (length ports == 0) → empty ≡ true → IsSearched m mask others
  one_searched ports empty same told full = record {
    fits = let less = fewer_left in let top = is.fits in omega (arith, less, top);
    within = λ t there. is.within t (kept t there);
    portless = λ t there. elim (is.portless t there) [
      | inl left ↦ left_or_searched t left (cases_eq t least)
      | inr portless ↦ inr portless
    ];
  }
    where
      none : length (ports_at m least) ≡ 0
      none = ap length (sym same) ∙ eqb-true (length ports) 0 (sym told ∙ full)

      kept : (t : ℕ) → IsTrue (has_word others t) → IsTrue (has_word rest t)
      kept t there = by (t == least) (sym (ap (λ n. n == 1) (bit_left t)) ∙ there)
        where
          by : (b : Bool) → IsTrue ((if b then 0 else bit_at rest t) == 1) → IsTrue (has_word rest t)
          by true there = absurd (false≢true there)
          by false there = there

      left_or_searched : (t : ℕ) → IsTrue (has_word rest t) → (t ≡ least) ⊎ (t ≡ least → ⊥) → IsTrue (has_word others t) ⊎ IsTrue (has_no_ports m t)
      left_or_searched t left (inl same) = inr (ap (has_no_ports m) same ∙ portless_from m least none)
      left_or_searched t left (inr other) =
          inl (ap (λ n. n == 1) (bit_left t ∙ ap (λ b. if b then 0 else bit_at rest t) (ne_eqb t least other)) ∙ left)

-- where none is left none has ports
pub all_searched : (m : Model) (mask rest : ℕ) → mask < 2 ^ 128 → rest ≡ 0 → IsSearched m mask rest → false ≡ list_any (λ t. not (has_no_ports m t)) (kinds_of mask)
all_searched m mask rest fits empty is = sym (none_has (λ t. not (has_no_ports m t)) (kinds_of mask) (λ t there. elim (is.portless t (sym (has_kind mask t fits) ∙ there)) [
  | inl left ↦ absurd (let none : bit_at rest t ≡ 0 = ap (λ n. bit_at n t) empty ∙ bit_at-zero t in
      let one = eqb-true (bit_at rest t) 1 left in omega (arith, none, one))
  | inr portless ↦ ap not portless
]))
