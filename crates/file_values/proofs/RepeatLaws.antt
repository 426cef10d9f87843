-- The first text that stands twice, as the texts are gone through.
use Rattle.std.proofs.Common.{◌≡◌, ◌∙◌, ℕ, zero, suc, ◌+◌, ◌<◌, ◌≤◌, List, [], ◌∷◌, ◌++◌, take, length, refl, sym, ap, subst, arith, Some, None, inl, inr, true, false}
use Rattle.std.proofs.lemmas.Option.{slice_get_within, none-some, same_Some}
use Rattle.std.proofs.lemmas.Bool.{true≢false, cases_order}
use Rattle.std.specs.Prelude.{Bool, not, IsTrue}
use Rattle.std.specs.List.{list_any}
use Rattle.prod_model.specs.Names.{same_text}
use Rattle.prod_model.proofs.NameLaws.{same_text_symm}
use Rattle.base_laws.specs.Places.{IsAt}
use Rattle.base_laws.proofs.Tests.{list_any_at, list_any_from}
use Rattle.file_values.specs.steps.Repeats.{RepeatsAt, IsFirstRepeat}

take_next : {X : Type 0} (xs : List X) (n : ℕ) (x : X) → IsAt xs n x → take (n + 1) xs ≡ take n xs ++ x ∷ []
take_next [] n x there = absurd (none-some x there)
take_next (y ∷ xs) zero x there = ap (λ z. z ∷ []) (same_Some y x there)
take_next (y ∷ xs) (suc n) x there =
    let e : suc n + 1 ≡ suc (n + 1) = omega arith in ap (λ k. take k (y ∷ xs)) e ∙ ap (λ zs. y ∷ zs) (take_next xs n x there)

at_take : {X : Type 0} (xs : List X) (n i : ℕ) (x : X) → IsAt (take n xs) i x → (i < n) × IsAt xs i x
at_take [] zero i x there = absurd (none-some x there)
at_take [] (suc n) i x there = absurd (none-some x there)
at_take (y ∷ xs) zero i x there = absurd (none-some x there)
at_take (y ∷ xs) (suc n) zero x there = (omega arith, there)
at_take (y ∷ xs) (suc n) (suc i) x there = let rest = at_take xs n i x there in (let less = rest.0 in omega (arith, less), rest.1)

take_at : {X : Type 0} (xs : List X) (n i : ℕ) (x : X) → i < n → IsAt xs i x → IsAt (take n xs) i x
take_at [] n i x less there = absurd (none-some x there)
take_at (y ∷ xs) zero i x less there = absurd (omega (arith, less))
take_at (y ∷ xs) (suc n) zero x less there = there
take_at (y ∷ xs) (suc n) (suc i) x less there = take_at xs n i x (omega (arith, less)) there

-- the first n texts were taken in, and none of them is the same as an earlier one
pub record IsTaken (texts : List (List ℕ)) (n : ℕ) (names : List (List ℕ)) : Type 0 where
  pub taken : names ≡ take n texts
  pub none : (j : ℕ) → j < n → ¬ RepeatsAt texts j

pub taken_start : (texts : List (List ℕ)) → IsTaken texts 0 []
taken_start texts = record { taken = refl; none = λ j less. absurd (omega (arith, less)) }

-- whether the next one is the same as an earlier one
repeats : (texts : List (List ℕ)) (n : ℕ) (t : List ℕ) → IsAt texts n t → list_any (same_text t) (take n texts) ≡ true → RepeatsAt texts n
repeats texts n t there some =
    let found = list_any_at (same_text t) (take n texts) some in
    let before = at_take texts n found.0 found.1 found.2 in
    record {
      i = found.0;
      earlier = found.1;
      later = t;
      first = before.1;
      again = there;
      order = before.0;
      same = same_text_symm found.1 t ∙ found.3;
    }

is_new : (texts : List (List ℕ)) (n : ℕ) (t : List ℕ) → IsAt texts n t → list_any (same_text t) (take n texts) ≡ false → ¬ RepeatsAt texts n
is_new texts n t there none r =
    let same : r.later ≡ t = same_Some r.later t (sym r.again ∙ there) in
    let earlier : IsTrue (same_text t r.earlier) = sym (ap (λ s. same_text s r.earlier) same) ∙ same_text_symm r.later r.earlier ∙ r.same in
    true≢false (sym (list_any_from (same_text t) (take n texts) r.i r.earlier (take_at texts n r.i r.earlier r.order r.first) earlier) ∙ none)

module _ (texts : List (List ℕ)) (n : ℕ) (names : List (List ℕ)) (s : IsTaken texts n names) (t : List ℕ) (there : IsAt texts n t) where
  pub taken_next : (new : List (List ℕ)) → not (list_any (same_text t) names) ≡ true → new ≡ names ++ t ∷ [] → IsTaken texts (n + 1) new
  taken_next new fresh is = record {
    taken = is ∙ ap (λ ns. ns ++ t ∷ []) s.taken ∙ sym (take_next texts n t there);
    none = none;
  }
    where
      none : (j : ℕ) → j < n + 1 → ¬ RepeatsAt texts j
      none j less r = elim (cases_order j n) [
        | inl is ↦ (let Repeats : ℕ → Type 0 = λ k. RepeatsAt texts k in
            let old : list_any (same_text t) names ≡ false = flip (list_any (same_text t) names) fresh in
            is_new texts n t there (sym (ap (list_any (same_text t)) s.taken) ∙ old) (subst Repeats is r))
        | inr (inl below) ↦ s.none j below r
        | inr (inr beyond) ↦ absurd (omega (arith, less, beyond))
      ]
        where
          flip : (b : Bool) → not b ≡ true → b ≡ false
          flip true h = absurd (true≢false (sym h))
          flip false h = refl

  pub taken_twice : not (list_any (same_text t) names) ≡ false → IsFirstRepeat texts (Some n)
  taken_twice known = (repeats texts n t there (sym (ap (list_any (same_text t)) s.taken) ∙ flip (list_any (same_text t) names) known), s.none)
    where
      flip : (b : Bool) → not b ≡ false → b ≡ true
      flip true h = refl
      flip false h = absurd (true≢false h)

pub taken_all : (texts : List (List ℕ)) (n : ℕ) (names : List (List ℕ)) → IsTaken texts n names → length texts ≤ n → IsFirstRepeat texts None
taken_all texts n names s end j r = s.none j (let within = slice_get_within texts j r.later r.again in omega (arith, within, end)) r
