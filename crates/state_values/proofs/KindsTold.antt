-- What a state entails of the types of a made instance.
use Rattle.std.proofs.Common.{◌≡◌, ℕ, ◌<◌, ◌∙◌, ap, sym, Bool, false, not, ◌&&◌, ◌||◌, refl, Option, Some, inl, inr, List, [], ◌∷◌, length, arith}
use Rattle.std.specs.Prelude.{slice_get}
use Rattle.std.specs.Option.{option_map_or}
use Rattle.std.specs.List.{list_all, list_any}
use Rattle.std.proofs.lemmas.Option.{slice_get_cases}
use Rattle.prod_model.specs.declared.model.Model.{Model}
use Rattle.prod_model.specs.Forest.{is_a}
use Rattle.config_value.specs.declared.literal.Literal.TheVariants.{Kind, NotKind}
use Rattle.state_space.specs.Made.{MadeInstance}
use Rattle.state_space.specs.State.{State, number_made, kinds_at}
use Rattle.state_space.specs.Entails.{entails}
use Rattle.state_values.specs.Sights.{is_surely_under, is_maybe_under}

-- something stands at each place of a list
pub there_is : {A : Type 0} (xs : List A) (k : ℕ) → k < length xs → (x : A) × (slice_get xs k ≡ Some x)
there_is xs k low = elim (slice_get_cases xs k).1 [
  | inl x ↦ (x.0, x.2)
  | inr past ↦ absurd (omega arith)
]

-- of what is there a test says what it says of its kinds
of_kinds : (test : List ℕ → Bool) (o : Option MadeInstance) (x : MadeInstance) → o ≡ Some x
    → option_map_or (λ x. test x.kinds) o false ≡ test (option_map_or (λ x. x.kinds) o [])
of_kinds test o x at = ap (λ o. option_map_or (λ x. test x.kinds) o false) at ∙ sym (ap (λ o. test (option_map_or (λ x. x.kinds) o [])) at)

not_and_not : (a b : Bool) → not (not a && b) ≡ (a || not b)
not_and_not a b = grind arith

-- not all fail where some pass
not_all_not : (test : ℕ → Bool) (ts : List ℕ) → not (list_all (λ t. not (test t)) ts) ≡ list_any test ts
not_all_not test [] = refl
not_all_not test (t ∷ ts) = not_and_not (test t) (list_all (λ u. not (test u)) ts) ∙ ap (λ b. test t || b) (not_all_not test ts)

module _ (m : Model) (s : State) (u j : ℕ) (made : j < number_made s) where
  pub surely_entailed : entails m s (Kind j u) ≡ is_surely_under m s u j
  unfolding entails
  surely_entailed = let x = there_is s.made j made in of_kinds (list_all (λ t. is_a m t u)) (slice_get s.made j) x.0 x.1

  pub maybe_entailed : not (entails m s (NotKind j u)) ≡ is_maybe_under m s u j
  unfolding entails
  maybe_entailed =
      let x = there_is s.made j made in
      ap not (of_kinds (list_all (λ t. not (is_a m t u))) (slice_get s.made j) x.0 x.1) ∙ not_all_not (λ t. is_a m t u) (kinds_at s j)
