-- Tests in the order of their turns: what is found by the first that is broken is the first break.
use Rattle.std.proofs.Common.{◌≡◌, ℕ, ◌+◌, ◌<◌, ◌≤◌, inl, inr, ap, sym, subst, List, Some, None, arith}
use Rattle.std.proofs.lemmas.Bool.{cases_lt}
use Rattle.std.proofs.Math.Nat.{le_antisymm}
use Rattle.std.proofs.lemmas.Bool.Decides.{nat_tests}
use Rattle.prod_model.specs.declared.model.Model.{Model}
use Rattle.config_value.specs.declared.configuration.Instance.{Instance}
use Rattle.answer_check.specs.declared.place.Place.{Place}
use Rattle.answer_check.specs.declared.verdict.Verdict.TheVariants.{Broken}
use Rattle.answer_check.specs.Breaks.{Break, Breaks, IsBreakBefore, IsFirstBreak, too_many, other_root, bad_value, no_instance, off_target, bad_number, shared_part, not_linked_back, misnumbered, bad_count, false_rule}
use Rattle.answer_check.specs.Codes.{turn_of}
use Rattle.answer_check.specs.steps.Finds.{BreaksAt, FindsPlace, HasNoBreakBelow, FindsBreakBelow}

-- ---- turns

-- a test has one turn, and no other has it
same_turn : (a b : ℕ) → turn_of a ≡ turn_of b → a ≡ b
same_turn a b same = grind (arith, nat_tests)

-- ---- the order of breaks

later_turn : (b d : Break) → turn_of d.code < turn_of b.code → ¬ IsBreakBefore b d
later_turn b d low before = grind (arith, nat_tests)

later_instance : (b d : Break) → d.code ≡ b.code → d.instance < b.instance → ¬ IsBreakBefore b d
later_instance b d same low before = grind (arith, nat_tests)

later_item : (b d : Break) → d.code ≡ b.code → d.instance ≡ b.instance → d.item ≤ b.item → ¬ IsBreakBefore b d
later_item b d same here low before = grind (arith, nat_tests)

-- ---- from turn to turn

module _ (m : Model) (c : List Instance) where
  -- the turns begin at 1
  pub no_break_below_first : HasNoBreakBelow m c 1
  no_break_below_first b (too_many is _ _ _) = omega (arith, ap turn_of is)
  no_break_below_first b (other_root is _ _ _) = omega (arith, ap turn_of is)
  no_break_below_first b (bad_value is _ _ _ _ _ _ _) = omega (arith, ap turn_of is)
  no_break_below_first b (no_instance is _ _ _ _ _ _) = omega (arith, ap turn_of is)
  no_break_below_first b (off_target is _ _ _ _ _ _ _ _) = omega (arith, ap turn_of is)
  no_break_below_first b (bad_number is _ _ _ _) = omega (arith, ap turn_of is)
  no_break_below_first b (shared_part is _ _ _) = omega (arith, ap turn_of is)
  no_break_below_first b (not_linked_back is _ _ _ _ _ _ _ _) = omega (arith, ap turn_of is)
  no_break_below_first b (misnumbered is _ _ _ _) = omega (arith, ap turn_of is)
  no_break_below_first b (bad_count is _ _ _ _) = omega (arith, ap turn_of is)
  no_break_below_first b (false_rule is _ _ _ _ _ _) = omega (arith, ap turn_of is)

  -- a break of a code, at its instance and item
  at_code : (code : ℕ) (b : Break) → b.code ≡ code → Breaks m c b → BreaksAt m c code b.instance b.item
  at_code code b same broken = let At : ℕ → Type 0 = λ k. BreaksAt m c k b.instance b.item in subst At same broken

  -- where a test isn't broken, the next one may be the first
  pub no_break_next : (code : ℕ) → HasNoBreakBelow m c (turn_of code) → FindsPlace (BreaksAt m c code) None → HasNoBreakBelow m c (turn_of code + 1)
  no_break_next code below none b broken = elim (cases_lt (turn_of code) (turn_of b.code)) [
    | inl above ↦ omega (arith, above)
    | inr low ↦ absurd (let least = below b broken in none b.instance b.item (at_code code b (same_turn b.code code (le_antisymm low least)) broken))
  ]

  -- where a test is broken and none before, its first place is the first break
  pub first_break : (code : ℕ) (p : Place) → HasNoBreakBelow m c (turn_of code) → FindsPlace (BreaksAt m c code) (Some p)
      → IsFirstBreak m c (record { code = code; instance = p.instance; item = p.item })
  first_break code p below first = record { is = first.here; none_before = none_before }
    where
      none_before : (b : Break) → Breaks m c b → ¬ IsBreakBefore b (record { code = code; instance = p.instance; item = p.item })
      none_before b broken = elim (cases_lt (turn_of code) (turn_of b.code)) [
        | inl above ↦ later_turn b (record { code = code; instance = p.instance; item = p.item }) above
        | inr low ↦
            (let same : b.code ≡ code = same_turn b.code code (le_antisymm low (below b broken)) in
            let here = at_code code b same broken in
            elim (cases_lt b.instance p.instance) [
              | inl lower ↦ absurd (first.none_lower b.instance b.item lower here)
              | inr upper ↦ elim (cases_lt p.instance b.instance) [
                | inl above ↦ later_instance b (record { code = code; instance = p.instance; item = p.item }) (sym same) above
                | inr both ↦
                    (let one : b.instance ≡ p.instance = omega arith in
                    elim (cases_lt b.item p.item) [
                      | inl before ↦ absurd (let At : ℕ → Type 0 = λ i. BreaksAt m c code i b.item in first.none_before b.item before (subst At one here))
                      | inr after ↦ later_item b (record { code = code; instance = p.instance; item = p.item }) (sym same) (sym one) after
                    ])
              ]
            ])
      ]

  pub found_break : (code last : ℕ) (p : Place) → HasNoBreakBelow m c (turn_of code) → FindsPlace (BreaksAt m c code) (Some p)
      → FindsBreakBelow m c last (Some (Broken code p.instance p.item))
  found_break code last p below first = (λ e. absurd cc, first_break code p below first)

  -- ---- no break below each turn, where the tests before it aren't broken

  abbrev pub IsUnbroken : ℕ → Type 0
  IsUnbroken code = FindsPlace (BreaksAt m c code) None

  pub below_2 : IsUnbroken 1 → HasNoBreakBelow m c 2
  below_2 a = no_break_next 1 no_break_below_first a

  pub below_3 : IsUnbroken 1 → IsUnbroken 2 → HasNoBreakBelow m c 3
  below_3 a b = no_break_next 2 (below_2 a) b

  pub below_4 : IsUnbroken 1 → IsUnbroken 2 → IsUnbroken 3 → HasNoBreakBelow m c 4
  below_4 a b c = no_break_next 3 (below_3 a b) c

  pub below_5 : IsUnbroken 1 → IsUnbroken 2 → IsUnbroken 3 → IsUnbroken 4 → HasNoBreakBelow m c 5
  below_5 a b c d = no_break_next 4 (below_4 a b c) d

  pub below_6 : IsUnbroken 1 → IsUnbroken 2 → IsUnbroken 3 → IsUnbroken 4 → IsUnbroken 5 → HasNoBreakBelow m c 6
  below_6 a b c d e = no_break_next 5 (below_5 a b c d) e

  pub below_7 : IsUnbroken 1 → IsUnbroken 2 → IsUnbroken 3 → IsUnbroken 4 → IsUnbroken 5 → IsUnbroken 6 → HasNoBreakBelow m c 7
  below_7 a b c d e f = no_break_next 6 (below_6 a b c d e) f

  pub below_8 : IsUnbroken 1 → IsUnbroken 2 → IsUnbroken 3 → IsUnbroken 4 → IsUnbroken 5 → IsUnbroken 6 → IsUnbroken 7 → HasNoBreakBelow m c 8
  below_8 a b c d e f g = no_break_next 7 (below_7 a b c d e f) g

  pub below_9 : IsUnbroken 1 → IsUnbroken 2 → IsUnbroken 3 → IsUnbroken 4 → IsUnbroken 5 → IsUnbroken 6 → IsUnbroken 7 → IsUnbroken 12 → HasNoBreakBelow m c 9
  below_9 a b c d e f g h = no_break_next 12 (below_8 a b c d e f g) h

  pub below_10 : IsUnbroken 1 → IsUnbroken 2 → IsUnbroken 3 → IsUnbroken 4 → IsUnbroken 5 → IsUnbroken 6 → IsUnbroken 7 → IsUnbroken 12 → IsUnbroken 8 → HasNoBreakBelow m c 10
  below_10 a b c d e f g h i = no_break_next 8 (below_9 a b c d e f g h) i

  pub below_11 : IsUnbroken 1 → IsUnbroken 2 → IsUnbroken 3 → IsUnbroken 4 → IsUnbroken 5 → IsUnbroken 6 → IsUnbroken 7 → IsUnbroken 12 → IsUnbroken 8 → IsUnbroken 9 → HasNoBreakBelow m c 11
  below_11 a b c d e f g h i j = no_break_next 9 (below_10 a b c d e f g h i) j
