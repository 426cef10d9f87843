-- Three-valued truths fit.
use Rattle.std.proofs.Common.{◌≡◌, ℕ, suc, Bool, true, false, not, ◌&&◌, ◌||◌, List, [], ◌∷◌, ◌++◌, map, refl, sym, ap, ◌∙◌, subst, arith}
use Rattle.std.proofs.lemmas.Simd.{map-map}
use Rattle.std.specs.List.{list_all, list_any}
use Rattle.std.proofs.lemmas.List.Elements.{Contains-append_left, Contains-append_right}
use Rattle.base_laws.specs.Places.{IsAt}
use Rattle.config_value.specs.declared.literal.Literal.{Literal}
use Rattle.state_values.specs.Kleene.{Kleene, True, False, Open, negated, both, either, all_of, any_of}
use Rattle.state_values.specs.Fits.{HoldAll, FitsTruth}

pub and_false : (b d : Bool) → d ≡ false → (b && d) ≡ false
and_false true d is = is
and_false false d is = refl

or_by_not : (b d : Bool) → (b || d) ≡ not (not b && not d)
or_by_not true d = refl
or_by_not false true = refl
or_by_not false false = refl

pub any_by_all : {X : Type 0} (g : X → Bool) (xs : List X) → list_any g xs ≡ not (list_all (λ x. not (g x)) xs)
any_by_all g [] = refl
any_by_all g (x ∷ xs) = ap (λ b. g x || b) (any_by_all g xs) ∙ by (g x) (list_all (λ x. not (g x)) xs)
  where
    by : (b d : Bool) → (b || not d) ≡ not (not b && d)
    by true d = refl
    by false d = refl

module _ (H : Literal → Type 0) where
  pub front : (ls more : List Literal) → HoldAll H (ls ++ more) → HoldAll H ls
  front ls more all l among = all l (Contains-append_left ls more l among)

  pub back : (ls more : List Literal) → HoldAll H (ls ++ more) → HoldAll H more
  back ls more all l among = all l (Contains-append_right ls more l among)

  pub none : HoldAll H []
  none l among = absurd (omega (arith, among.1))

  pub fits_negated : (o : Kleene) (b : Bool) → FitsTruth H o b → FitsTruth H (negated o) (not b)
  fits_negated (True by) b fits = λ all. ap not (fits all)
  fits_negated (False by) b fits = λ all. ap not (fits all)
  fits_negated Open b fits = tt

  pub fits_both : (o p : Kleene) (b d : Bool) → FitsTruth H o b → FitsTruth H p d → FitsTruth H (both o p) (b && d)
  fits_both (False by) p b d first second = λ all. ap (λ x. x && d) (first all)
  fits_both (True by) (False more) b d first second = λ all. and_false b d (second all)
  fits_both (True by) (True more) b d first second = λ all. ap (λ x. x && d) (first (front by more all)) ∙ second (back by more all)
  fits_both (True by) Open b d first second = tt
  fits_both Open (False more) b d first second = λ all. and_false b d (second all)
  fits_both Open (True more) b d first second = tt
  fits_both Open Open b d first second = tt

  pub fits_either : (o p : Kleene) (b d : Bool) → FitsTruth H o b → FitsTruth H p d → FitsTruth H (either o p) (b || d)
  fits_either o p b d first second = subst (FitsTruth H (either o p)) (sym (or_by_not b d))
      (fits_negated (both (negated o) (negated p)) (not b && not d) (fits_both (negated o) (negated p) (not b) (not d) (fits_negated o b first) (fits_negated p d second)))

  pub fits_all_of : {X : Type 0} (f : X → Kleene) (g : X → Bool) (xs : List X) → ((k : ℕ) (x : X) → IsAt xs k x → FitsTruth H (f x) (g x))
      → FitsTruth H (all_of (map f xs)) (list_all g xs)
  fits_all_of f g [] each = λ all. refl
  fits_all_of f g (x ∷ xs) each = fits_both (f x) (all_of (map f xs)) (g x) (list_all g xs) (each 0 x refl) (fits_all_of f g xs (λ k. each (suc k)))

  pub fits_any_of : {X : Type 0} (f : X → Kleene) (g : X → Bool) (xs : List X) → ((k : ℕ) (x : X) → IsAt xs k x → FitsTruth H (f x) (g x))
      → FitsTruth H (any_of (map f xs)) (list_any g xs)
  fits_any_of f g xs each =
      subst (FitsTruth H (any_of (map f xs))) (sym (any_by_all g xs))
      (subst (λ os. FitsTruth H (negated (all_of os)) (not (list_all (λ x. not (g x)) xs))) (sym (map-map negated f xs))
      (fits_negated (all_of (map (λ x. negated (f x)) xs)) (list_all (λ x. not (g x)) xs)
      (fits_all_of (λ x. negated (f x)) (λ x. not (g x)) xs (λ k x at. fits_negated (f x) (g x) (each k x at)))))
