-- When three-valued truths are true, and when they are false.
use Rattle.std.proofs.Common.{◌≡◌, ◌∙◌, ap, ap₂, ◌&&◌, ◌||◌, List, [], ◌∷◌, map, refl}
use Rattle.std.specs.Prelude.{if◌then◌else◌}
use Rattle.std.specs.List.{list_all, list_any}
use Rattle.state_values.specs.declared.kleene.Kleene.TheVariants as kleene
use Rattle.state_values.specs.Kleene.{Kleene, True, False, Open, is_true, is_false, negated, both, either, implied, all_of, any_of}
use Rattle.state_values.specs.Told.{told}
use Rattle.state_values.specs.steps.Truths.{is_told_true, is_told_false}

pub is_true_negated : (o : Kleene) → is_true (negated o) ≡ is_false o
is_true_negated (True by) = refl
is_true_negated (False by) = refl
is_true_negated Open = refl

pub is_false_negated : (o : Kleene) → is_false (negated o) ≡ is_true o
is_false_negated (True by) = refl
is_false_negated (False by) = refl
is_false_negated Open = refl

pub is_true_both : (o p : Kleene) → is_true (both o p) ≡ (is_true o && is_true p)
is_true_both (False by) p = refl
is_true_both (True by) (False more) = refl
is_true_both (True by) (True more) = refl
is_true_both (True by) Open = refl
is_true_both Open (False more) = refl
is_true_both Open (True more) = refl
is_true_both Open Open = refl

pub is_false_both : (o p : Kleene) → is_false (both o p) ≡ (is_false o || is_false p)
is_false_both (False by) p = refl
is_false_both (True by) (False more) = refl
is_false_both (True by) (True more) = refl
is_false_both (True by) Open = refl
is_false_both Open (False more) = refl
is_false_both Open (True more) = refl
is_false_both Open Open = refl

pub is_true_either : (o p : Kleene) → is_true (either o p) ≡ (is_true o || is_true p)
is_true_either o p =
    is_true_negated (both (negated o) (negated p)) ∙ is_false_both (negated o) (negated p) ∙ ap₂ (λ a b. a || b) (is_false_negated o) (is_false_negated p)

pub is_false_either : (o p : Kleene) → is_false (either o p) ≡ (is_false o && is_false p)
is_false_either o p =
    is_false_negated (both (negated o) (negated p)) ∙ is_true_both (negated o) (negated p) ∙ ap₂ (λ a b. a && b) (is_true_negated o) (is_true_negated p)

pub is_true_implied : (o p : Kleene) → is_true (implied o p) ≡ (is_false o || is_true p)
is_true_implied o p = is_true_either (negated o) p ∙ ap (λ a. a || is_true p) (is_true_negated o)

pub is_false_implied : (o p : Kleene) → is_false (implied o p) ≡ (is_true o && is_false p)
is_false_implied o p = is_false_either (negated o) p ∙ ap (λ a. a && is_false p) (is_false_negated o)

module _ {X : Type 0} (f : X → Kleene) where
  pub true_of_all : (xs : List X) → is_true (all_of (map f xs)) ≡ list_all (λ x. is_true (f x)) xs
  true_of_all [] = refl
  true_of_all (x ∷ xs) = is_true_both (f x) (all_of (map f xs)) ∙ ap (λ b. is_true (f x) && b) (true_of_all xs)

  pub false_of_all : (xs : List X) → is_false (all_of (map f xs)) ≡ list_any (λ x. is_false (f x)) xs
  false_of_all [] = refl
  false_of_all (x ∷ xs) = is_false_both (f x) (all_of (map f xs)) ∙ ap (λ b. is_false (f x) || b) (false_of_all xs)

  none_true : (xs : List X) → is_true (all_of (map negated (map f xs))) ≡ list_all (λ x. is_false (f x)) xs
  none_true [] = refl
  none_true (x ∷ xs) = is_true_both (negated (f x)) (all_of (map negated (map f xs))) ∙ ap₂ (λ a b. a && b) (is_true_negated (f x)) (none_true xs)

  some_true : (xs : List X) → is_false (all_of (map negated (map f xs))) ≡ list_any (λ x. is_true (f x)) xs
  some_true [] = refl
  some_true (x ∷ xs) = is_false_both (negated (f x)) (all_of (map negated (map f xs))) ∙ ap₂ (λ a b. a || b) (is_false_negated (f x)) (some_true xs)

  pub true_of_any : (xs : List X) → is_true (any_of (map f xs)) ≡ list_any (λ x. is_true (f x)) xs
  true_of_any xs = is_true_negated (all_of (map negated (map f xs))) ∙ some_true xs

  pub false_of_any : (xs : List X) → is_false (any_of (map f xs)) ≡ list_all (λ x. is_false (f x)) xs
  false_of_any xs = is_false_negated (all_of (map negated (map f xs))) ∙ none_true xs

-- ---- without the literals

pub is_told_true_told : (o : Kleene) → is_told_true (told o) ≡ is_true o
is_told_true_told (True by) = refl
is_told_true_told (False by) = refl
is_told_true_told Open = refl

pub is_told_false_told : (o : Kleene) → is_told_false (told o) ≡ is_false o
is_told_false_told (True by) = refl
is_told_false_told (False by) = refl
is_told_false_told Open = refl

pub told_tests : (o : Kleene) → told o ≡ (if is_true o then kleene.True else (if is_false o then kleene.False else kleene.Open))
told_tests (True by) = refl
told_tests (False by) = refl
told_tests Open = refl
