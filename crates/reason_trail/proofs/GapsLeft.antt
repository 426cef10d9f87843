-- The literals of the gaps of an attribute that are still to come.
use Rattle.std.proofs.Common.{◌≡◌, ℕ, ◌<◌, ℤ, pos, List, [], ◌∷◌, ◌++◌, map, refl, ap, ap₂, sym, ◌∙◌, subst, Some, None, Option, arith}
use Rattle.std.specs.Prelude.{IsTrue, IsSome, int_le, ◌+ℤ◌, ◌-ℤ◌, ◌≤ℤ◌, nat_abs}
use Rattle.std.specs.Option.{option_map_or, ForSome}
use Rattle.std.proofs.lemmas.Int.{ints}
use Rattle.std.proofs.lemmas.Bool.{false≢true}
use Rattle.domain_store.specs.Gaps.{IsNextGap}
use Rattle.config_value.specs.declared.literal.Literal.{Literal}
use Rattle.config_value.specs.declared.literal.Literal.TheVariants.{AtLeast, AtMost, ValueIsNot}
use Rattle.state_space.specs.Values.{Values, has_value, least, greatest, are_values}
use Rattle.state_space.specs.State.{State, domain_at, low_at, high_at}
use Rattle.state_space.specs.Descriptions.{gaps, values_description}
use Rattle.state_space.proofs.ValuesLaws.{least-le, greatest-in}
use Rattle.reason_trail.specs.Begun.{Begins}
use Rattle.reason_trail.proofs.InTurn.{begins_self, begins_longer, begins_on, left_next, left_none, two_added, two_joined}
use Rattle.reason_trail.proofs.GapsInTurn.{gaps_from, all_gaps, gap_below, gaps_last, gaps_next}

-- past a value fewer are left
pub fewer_left : (from v high : ℤ) → from ≤ℤ v → (v +ℤ pos 1) ≤ℤ high → nat_abs (high -ℤ (v +ℤ pos 1)) < nat_abs (high -ℤ from)
fewer_left from v high late below = grind (arith, ints, late, below)

there : {A : Type 0} (o : Option A) → IsSome o → (x : A) × (o ≡ Some x)
there None some = absurd (false≢true some)
there (Some x) some = (x, refl)

module _ (i a : ℕ) (s : State) where
  -- the literals of the gaps
  abbrev pub gaps_told : List Literal
  gaps_told = option_map_or (λ d. map (λ v. ValueIsNot i a v) (gaps d)) (domain_at s i a) []

  -- and of those from a value on
  pub gaps_left : ℤ → List Literal
  gaps_left from = option_map_or (λ d. map (λ v. ValueIsNot i a v) (gaps_from d from)) (domain_at s i a) []

  -- The literals of the gaps below a value are appended; it is no more than the greatest one.
  pub record IsGoingOver (old into : List Literal) (high from : ℤ) : Type 0 where
    pub ends : high ≡ high_at s i a
    pub within : from ≤ℤ high
    pub left : into ++ gaps_left from ≡ old ++ gaps_told
    pub begins : Begins old into

  module _ (has : IsSome (domain_at s i a)) (formed : ForSome (domain_at s i a) (λ d. IsTrue (are_values d))) where
    values : (d : Values) × (domain_at s i a ≡ Some d)
    values = there (domain_at s i a) has

    told : (from : ℤ) → gaps_left from ≡ map (λ v. ValueIsNot i a v) (gaps_from values.0 from)
    unfolding gaps_left
    told from = ap (λ o. option_map_or (λ d. map (λ v. ValueIsNot i a v) (gaps_from d from)) o []) values.1

    -- the greatest value
    top : high_at s i a ≡ greatest values.0
    top = ap (λ o. option_map_or greatest o (pos 0)) values.1

    pub going_start : (old : List Literal) (low high : ℤ) → low ≡ low_at s i a → high ≡ high_at s i a → IsGoingOver old old high low
    going_start old low high lowest highest = record {
      ends = highest;
      within = ordered (least-le d (greatest d) (formed d values.1) (greatest-in d (formed d values.1)));
      left = ap (λ ls. old ++ ls) (told low ∙ ap (λ v. map (λ u. ValueIsNot i a u) (gaps_from d v)) first ∙ ap (map (λ u. ValueIsNot i a u)) (all_gaps d)
          ∙ sym (ap (λ o. option_map_or (λ d. map (λ v. ValueIsNot i a v) (gaps d)) o []) values.1));
      begins = begins_self old;
    }
      where
        d : Values
        d = values.0

        first : low ≡ least d
        first = lowest ∙ ap (λ o. option_map_or least o (pos 0)) values.1

        last : high ≡ greatest d
        last = highest ∙ top

        ordered : IsTrue (int_le (least d) (greatest d)) → low ≤ℤ high
        ordered below = grind (arith, ints, below, first, last)

    module _ (old into : List Literal) (high from : ℤ) (going : IsGoingOver old into high from) where
      up_to : from ≤ℤ greatest values.0
      up_to = subst (λ v. from ≤ℤ v) (going.ends ∙ top) going.within

      -- the first gap is below the greatest value
      pub going_below : (v : ℤ) → ForSome (domain_at s i a) (λ d. IsNextGap (has_value d) from (Some v)) → (from ≤ℤ v) × ((v +ℤ pos 1) ≤ℤ high)
      going_below v next = (
        (next values.0 values.1).0,
        subst (λ u. (v +ℤ pos 1) ≤ℤ u) (sym (going.ends ∙ top)) (gap_below values.0 (formed values.0 values.1) v (next values.0 values.1).1),
      )

      -- one more is appended
      pub going_next : (v : ℤ) (more : List Literal) → ForSome (domain_at s i a) (λ d. IsNextGap (has_value d) from (Some v)) → more ≡ into ++ ValueIsNot i a v ∷ []
          → IsGoingOver old more high (v +ℤ pos 1)
      going_next v more next pushed = record {
        ends = going.ends;
        within = (going_below v next).1;
        left = left_next (ValueIsNot i a v) into more (gaps_left from) (gaps_left (v +ℤ pos 1)) (old ++ gaps_told) pushed
            (told from ∙ ap (map (λ u. ValueIsNot i a u)) (gaps_next values.0 (formed values.0 values.1) from up_to v (next values.0 values.1))
            ∙ ap (λ ls. ValueIsNot i a v ∷ ls) (sym (told (v +ℤ pos 1)))) going.left;
        begins = begins_on old into more going.begins (begins_longer into (ValueIsNot i a v ∷ []) more pushed);
      }

      -- all are appended
      pub going_end : ForSome (domain_at s i a) (λ d. IsNextGap (has_value d) from None) → into ≡ old ++ gaps_told
      going_end none =
          left_none into (gaps_left from) (old ++ gaps_told)
          (told from ∙ ap (map (λ u. ValueIsNot i a u)) (gaps_last values.0 (formed values.0 values.1) from up_to (none values.0 values.1))) going.left

    -- ---- the ends before them

    ends_told : (low high : ℤ) → low ≡ low_at s i a → high ≡ high_at s i a
        → (AtLeast i a low ∷ AtMost i a high ∷ []) ++ gaps_told ≡ option_map_or (values_description i a) (domain_at s i a) []
    ends_told low high lowest highest =
        ap₂ (λ u v. (AtLeast i a u ∷ AtMost i a v ∷ []) ++ gaps_told) (lowest ∙ ap (λ o. option_map_or least o (pos 0)) values.1) (highest ∙ top)
        ∙ ap (λ o. (AtLeast i a (least values.0) ∷ AtMost i a (greatest values.0) ∷ []) ++ option_map_or (λ d. map (λ v. ValueIsNot i a v) (gaps d)) o []) values.1
        ∙ sym (ap (λ o. option_map_or (values_description i a) o []) values.1)

    pub values_told : (old one two all : List Literal) (low high : ℤ) → low ≡ low_at s i a → high ≡ high_at s i a
        → one ≡ old ++ AtLeast i a low ∷ [] → two ≡ one ++ AtMost i a high ∷ [] → all ≡ two ++ gaps_told
        → all ≡ old ++ option_map_or (values_description i a) (domain_at s i a) []
    values_told old one two all low high lowest highest first second rest =
        two_joined old two all (AtLeast i a low ∷ AtMost i a high ∷ []) gaps_told (two_added old one two (AtLeast i a low) (AtMost i a high) first second) rest
        ∙ ap (λ ls. old ++ ls) (ends_told low high lowest highest)
