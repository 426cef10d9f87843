-- Tests that are broken at one place or not at all.
use Rattle.std.proofs.Common.{◌≡◌, ℕ, ◌<◌, ◌≤◌, ap, subst, Bool, true, false, not, List, length, Option, Some, None, refl, arith}
use Rattle.std.specs.Prelude.{position}
use Rattle.std.specs.List.{count_by}
use Rattle.std.proofs.lemmas.Option.{slice_get_within}
use Rattle.prod_model.specs.declared.model.Model.{Model}
use Rattle.prod_model.specs.declared.model.CountBound.{CountBound}
use Rattle.prod_model.specs.Limits.{is_between}
use Rattle.prod_model.specs.Valid.{IsValid}
use Rattle.config_value.specs.declared.configuration.Instance.{Instance}
use Rattle.config_value.specs.Value.{under, is_under}
use Rattle.std.proofs.lemmas.Bool.{not-true}
use Rattle.answer_check.specs.Breaks.{too_many, other_root, bad_count}
use Rattle.answer_check.specs.steps.Finds.{BreaksAt, FindsItem, FindsPlace}
use Rattle.answer_check.proofs.BreakParts.{too_many_parts, other_root_parts, bad_count_parts}
use Rattle.answer_check.proofs.Items.{Passes, finds_position, finds_same}
use Rattle.answer_check.proofs.FewItems.{few_bounds}

module _ (m : Model) (c : List Instance) where
  abbrev pub is_bad : CountBound → Bool
  is_bad n = not (is_between n.low n.high (count_by (under m n.kind) c))

  pub bad_count_from : (k : ℕ) → Passes is_bad m.bounds k → BreaksAt m c 9 0 k
  bad_count_from k passing = bad_count refl refl passing.element passing.there (not-true _ passing.passes)

  pub passes_bad_count : (k : ℕ) → BreaksAt m c 9 0 k → Passes is_bad m.bounds k
  passes_bad_count k broken =
      let parts = bad_count_parts m c 9 0 k refl broken in record { element = parts.1; there = parts.2; passes = ap not parts.3 }

  finds_bad_count : (o : Option ℕ) → o ≡ position is_bad m.bounds → FindsItem (BreaksAt m c 9 0) o
  finds_bad_count o is = finds_same (Passes is_bad m.bounds) (BreaksAt m c 9 0) o bad_count_from passes_bad_count (finds_position is_bad m.bounds o is)

  first_instance : (i k : ℕ) → BreaksAt m c 9 i k → BreaksAt m c 9 0 k
  first_instance i k broken = let Broken : ℕ → Type 0 = λ j. BreaksAt m c 9 j k in subst Broken (bad_count_parts m c 9 i k refl broken).0 broken

  pub none_bad_count : None ≡ position is_bad m.bounds → FindsPlace (BreaksAt m c 9) None
  none_bad_count is i k broken = finds_bad_count None is k (first_instance i k broken)

  pub some_bad_count : (k : ℕ) → Some k ≡ position is_bad m.bounds → FindsPlace (BreaksAt m c 9) (Some (record { instance = 0; item = k }))
  some_bad_count k is = record {
    here = (finds_bad_count (Some k) is).0;
    none_lower = λ i j low broken. omega arith;
    none_before = (finds_bad_count (Some k) is).1;
  }

  pub few_bad_counts : IsValid m → (k : ℕ) → Some k ≡ position is_bad m.bounds → k < 128
  few_bad_counts valid k is =
      let passing = (finds_position is_bad m.bounds (Some k) is).0 in
      let within : k < length m.bounds = slice_get_within m.bounds k passing.element passing.there in
      omega (arith, few_bounds m valid)
