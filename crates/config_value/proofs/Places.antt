-- Lists that ascend, and numbers between two others.
use Rattle.std.proofs.Common.{◌≡◌, ℕ, zero, suc, ◌<◌, ◌+◌, List, [], ◌∷◌, refl, ap, ◌∙◌, sym, subst₂, ap₂, inl, inr, length, Some, None, ltb-true, lt-ltb, leb-true, le-leb, arith, add-zero}
use Rattle.std.proofs.lemmas.Bool.{and_parts, and_from, or_cases, or_left, or_right}
use Rattle.std.proofs.lemmas.Option.{same_Some, none-some}
use Rattle.std.specs.Prelude.{Bool, false, IsTrue}
use Rattle.std.specs.declared.option.Option.{Option}
use Rattle.std.specs.Option.{option_map_or}
use Rattle.std.specs.List.{list_all, list_any, range_with_len}
use lib.Pointwise.{pointwise}
use Rattle.prod_model.specs.Limits.{is_between}
use Rattle.config_value.specs.Shaped.{ascends}
use Rattle.base_laws.specs.Places.{IsAt}
use Rattle.config_value.specs.ShapedSentences.{IsBetween}

-- ascending numbers rise from each place to the next
pub ascends_at : (ns : List ℕ) → IsTrue (ascends ns) → (k i j : ℕ) → IsAt ns k i → IsAt ns (suc k) j → i < j
ascends_at [] h k i j e f = absurd (none-some i e)
ascends_at (n ∷ []) h k i j e f = absurd (none-some j f)
ascends_at (n ∷ m ∷ ns) h zero i j e f = subst₂ (λ a b. a < b) (same_Some n i e) (same_Some m j f) (ltb-true n m (and_parts _ _ h).0)
ascends_at (n ∷ m ∷ ns) h (suc k) i j e f = ascends_at (m ∷ ns) (and_parts _ _ h).1 k i j e f

-- numbers that rise from each place to the next ascend
pub ascends_from : (ns : List ℕ) → ((k i j : ℕ) → IsAt ns k i → IsAt ns (suc k) j → i < j) → IsTrue (ascends ns)
ascends_from [] h = refl
ascends_from (n ∷ []) h = refl
ascends_from (n ∷ m ∷ ns) h = and_from _ _ (lt-ltb n m (h 0 n m refl refl)) (ascends_from (m ∷ ns) (λ k. h (suc k)))

-- a number that passes the test is between the two others
pub is_between_at : (low high n : ℕ) → IsTrue (is_between low high n) → IsBetween low high n
is_between_at low high n h = let both = and_parts _ _ h in (leb-true low n both.0, leb-true n high both.1)

-- a number between two others passes the test
pub is_between_from : (low high n : ℕ) → IsBetween low high n → IsTrue (is_between low high n)
is_between_from low high n h = and_from _ _ (le-leb low n h.0) (le-leb n high h.1)
