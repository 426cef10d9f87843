-- Tests of the elements of lists, place by place.
use Rattle.std.proofs.Common.{◌≡◌, ℕ, zero, suc, ◌||◌, List, [], ◌∷◌, refl, map, ap, ◌∙◌, sym, ap₂, inl, inr, length, Some, None}
use Rattle.std.proofs.lemmas.Bool.{and_parts, and_from, or_cases, or_left, or_right}
use Rattle.std.proofs.lemmas.Option.{same_Some, none-some}
use Rattle.std.proofs.lemmas.List.{length-map}
use Rattle.std.specs.Prelude.{Bool, true, false, ◌&&◌, IsTrue}
use Rattle.std.specs.declared.option.Option.{Option}
use Rattle.std.specs.Option.{option_map_or}
use Rattle.std.specs.List.{list_all, list_any, position, position_or_len}
use lib.Pointwise.{pointwise}
use Rattle.base_laws.specs.Places.{IsAt}

module _ {A : Type 0} (test : A → Bool) where
  -- what passes for a whole list passes at each place
  pub list_all_at : (xs : List A) → IsTrue (list_all test xs) → (k : ℕ) (x : A) → IsAt xs k x → IsTrue (test x)
  list_all_at [] h k x e = absurd (none-some x e)
  list_all_at (y ∷ xs) h zero x e = ap test (sym (same_Some y x e)) ∙ (and_parts _ _ h).0
  list_all_at (y ∷ xs) h (suc k) x e = list_all_at xs (and_parts _ _ h).1 k x e

  -- what passes at each place passes for the whole list
  pub list_all_from : (xs : List A) → ((k : ℕ) (x : A) → IsAt xs k x → IsTrue (test x)) → IsTrue (list_all test xs)
  list_all_from [] h = refl
  list_all_from (y ∷ xs) h = and_from _ _ (h 0 y refl) (list_all_from xs (λ k. h (suc k)))

  -- where some element passes there is a place of one
  pub list_any_at : (xs : List A) → IsTrue (list_any test xs) → (k : ℕ) × (x : A) × IsAt xs k x × IsTrue (test x)
  list_any_at [] h = absurd cc
  list_any_at (y ∷ xs) h = elim (or_cases _ _ h) [
    | inl first ↦ (0, y, refl, first)
    | inr more ↦ let found = list_any_at xs more in (suc found.0, found.1, found.2, found.3)
  ]

  -- where an element at some place passes, some element passes
  pub list_any_from : (xs : List A) (k : ℕ) (x : A) → IsAt xs k x → IsTrue (test x) → IsTrue (list_any test xs)
  list_any_from [] k x e h = absurd (none-some x e)
  list_any_from (y ∷ xs) zero x e h = or_left _ _ (ap test (same_Some y x e) ∙ h)
  list_any_from (y ∷ xs) (suc k) x e h = or_right _ _ (list_any_from xs k x e h)

  -- a test of what stands at a place says that something stands there
  pub option_map_or_at : (o : Option A) → IsTrue (option_map_or test o false) → (x : A) × (o ≡ Some x) × IsTrue (test x)
  option_map_or_at None h = absurd cc
  option_map_or_at (Some x) h = (x, refl, h)

  -- a test that what stands at a place passes is passed
  pub option_map_or_from : (o : Option A) (x : A) → o ≡ Some x → IsTrue (test x) → IsTrue (option_map_or test o false)
  option_map_or_from o x e h = ap (λ p. option_map_or test p false) e ∙ h

module _ {A : Type 0} where
  -- a list that passes a test passes each test that follows from it
  pub list_all_by : (p q : A → Bool) → ((a : A) → IsTrue (p a) → IsTrue (q a)) → (xs : List A) → IsTrue (list_all p xs) → IsTrue (list_all q xs)
  list_all_by p q imply [] h = refl
  list_all_by p q imply (a ∷ xs) h =
      let both = and_parts (p a) (list_all p xs) h in
      and_from (q a) (list_all q xs) (imply a both.0) (list_all_by p q imply xs both.1)

  -- a list that passes two tests passes both at once
  pub list_all_both : (p q : A → Bool) (xs : List A) → IsTrue (list_all p xs) → IsTrue (list_all q xs) → IsTrue (list_all (λ a. p a && q a) xs)
  list_all_both p q [] g h = refl
  list_all_both p q (a ∷ xs) g h =
      let first = and_parts (p a) (list_all p xs) g in
      let second = and_parts (q a) (list_all q xs) h in
      and_from (p a && q a) (list_all (λ b. p b && q b) xs) (and_from (p a) (q a) first.0 second.0)
      (list_all_both p q xs first.1 second.1)

  -- every list passes the test that all pass
  pub list_all_true : (xs : List A) → IsTrue (list_all (λ a. true) xs)
  list_all_true [] = refl
  list_all_true (a ∷ xs) = list_all_true xs

module _ {A B : Type 0} (test : A → B → Bool) where
  -- what passes for two lists passes at each place of both
  pub pointwise_at : (xs : List A) (ys : List B) → IsTrue (pointwise test xs ys)
      → (k : ℕ) (x : A) (y : B) → IsAt xs k x → IsAt ys k y → IsTrue (test x y)
  pointwise_at [] ys h k x y e f = absurd (none-some x e)
  pointwise_at (a ∷ xs) [] h k x y e f = absurd (none-some y f)
  pointwise_at (a ∷ xs) (b ∷ ys) h zero x y e f = ap₂ test (sym (same_Some a x e)) (sym (same_Some b y f)) ∙ (and_parts _ _ h).0
  pointwise_at (a ∷ xs) (b ∷ ys) h (suc k) x y e f = pointwise_at xs ys (and_parts _ _ h).1 k x y e f

  -- what passes at each place of two lists that are as long passes for the lists
  pub pointwise_from : (xs : List A) (ys : List B) → length xs ≡ length ys
      → ((k : ℕ) (x : A) (y : B) → IsAt xs k x → IsAt ys k y → IsTrue (test x y)) → IsTrue (pointwise test xs ys)
  pointwise_from [] [] n h = refl
  pointwise_from [] (b ∷ ys) n h = absurd cc
  pointwise_from (a ∷ xs) [] n h = absurd cc
  pointwise_from (a ∷ xs) (b ∷ ys) n h =
      let long : length xs ≡ length ys = cc in
      and_from _ _ (h 0 a b refl refl) (pointwise_from xs ys long (λ k. h (suc k)))

-- a test of what f gives
pub list_any_map : {X Y : Type 0} (p : Y → Bool) (f : X → Y) (xs : List X)
    → list_any p (map f xs) ≡ list_any (λ x. p (f x)) xs
list_any_map p f [] = refl
list_any_map p f (x ∷ xs) = ap (λ b. p (f x) || b) (list_any_map p f xs)

position_or_len_map : {X Y : Type 0} (f : X → Y) (p : Y → Bool) (q : X → Bool) → ((x : X) → p (f x) ≡ q x)
    → (xs : List X) → position_or_len p (map f xs) ≡ position_or_len q xs
position_or_len_map f p q same [] = refl
position_or_len_map f p q same (x ∷ xs) = rw (same x, position_or_len_map f p q same xs) refl

-- the first place that passes, of what f gives
pub position_map : {X Y : Type 0} (f : X → Y) (p : Y → Bool) (q : X → Bool) → ((x : X) → p (f x) ≡ q x)
    → (xs : List X) → position p (map f xs) ≡ position q xs
position_map f p q same xs = rw (position_or_len_map f p q same xs, length-map xs f) refl
