-- The first misformed place of a value is the first in the order of the document.
use Rattle.std.proofs.Common.{◌≡◌, ℕ, ◌+◌, ◌≤◌, Bool, true, false, List, [], ◌∷◌, ◌++◌, map, refl, sym, subst, Some, None, Contains, inl, inr, arith}
use Rattle.std.specs.Prelude.{not, Option, slice_get, length}
use Rattle.std.specs.Option.{option_map_or}
use Rattle.std.proofs.lemmas.Option.{none-some, same_Some}
use Rattle.std.proofs.lemmas.List.Elements.{Contains-append_cases}
use Rattle.serde_json.specs.Data.{Data, null, boolean, number, string, array, object, Items, no_items, item}
use Rattle.base_laws.proofs.Elements.{contained_at, at_contained, none_contained}
use Rattle.base_laws.proofs.Places.{map_at}
use Rattle.prod_model.specs.First.{IsFirst}
use Rattle.file_values.specs.declared.part.Part.{Part}
use Rattle.file_values.specs.declared.part.Part.TheVariants.{At as at}
use Rattle.file_values.specs.declared.operator.Argument.{Argument}
use Rattle.file_values.specs.declared.operator.Argument.TheVariants.{Text, Factor, Inner}
use Rattle.file_values.specs.Places.{IsPlaceBefore}
use Rattle.file_values.specs.Kinds.{is_text, is_whole}
use Rattle.file_values.specs.Forms.{whole_if, misformed_argument, misformed_arguments, arguments_of, misformed, each_misformed}
use Rattle.file_values.proofs.PlaceOrder.{not_before-whole, not_before-same, not_before-greater, greater-number}
use Rattle.file_meaning.specs.Laws.{FirstMisformedIsFirst}

-- none of the places is before the first of them
abbrev LeastFirst : List (List Part) → Type 0
LeastFirst [] = Unit {0}
LeastFirst (q ∷ ps) = (p : List Part) → Contains (q ∷ ps) p → ¬ IsPlaceBefore p q

-- each of the places begins with a number that is not less
abbrev BeginFrom : ℕ → List (List Part) → Type 0
BeginFrom n ps = (p : List Part) → Contains ps p → (k : ℕ) × (rest : List Part) × (n ≤ k) × (p ≡ at k ∷ rest)

whole_least : LeastFirst ([] ∷ [])
whole_least p among = not_before-whole p

if_least : (wrong : Bool) → LeastFirst (whole_if wrong)
if_least true = whole_least
if_least false = tt

mapped_begin : (n : ℕ) (ps : List (List Part)) → BeginFrom n (map (λ p. at n ∷ p) ps)
mapped_begin n ps p among =
    let read = map_at (λ q. at n ∷ q) ps among.0 p (at_contained (map (λ q. at n ∷ q) ps) p among) in (n, read.0, omega arith, sym read.2)

joined_begin : (n : ℕ) (xs ys : List (List Part)) → BeginFrom n xs → BeginFrom (n + 1) ys → BeginFrom n (xs ++ ys)
joined_begin n xs ys first second p among = elim (Contains-append_cases xs ys p among) [
  | inl a ↦ first p a
  | inr b ↦ (let s = second p b in (s.0, s.1, omega (arith, s.2), s.3))
]

-- places behind a step, and places behind later ones
joined_least : (n : ℕ) (xs ys : List (List Part)) → LeastFirst xs → LeastFirst ys → BeginFrom (n + 1) ys → LeastFirst (map (λ p. at n ∷ p) xs ++ ys)
joined_least n [] ys first second later = second
joined_least n (x ∷ xs) ys first second later = λ p among. elim (Contains-append_cases (map (λ q. at n ∷ q) (x ∷ xs)) ys p among) [
  | inl a ↦ (let read = map_at (λ q. at n ∷ q) (x ∷ xs) a.0 p (at_contained (map (λ q. at n ∷ q) (x ∷ xs)) p a) in
      subst (λ r. ¬ IsPlaceBefore r (at n ∷ x)) read.2 (not_before-same (at n) read.0 x (first read.0 (contained_at (x ∷ xs) a.0 read.0 read.1))))
  | inr b ↦ (let s = later p b in
      subst (λ r. ¬ IsPlaceBefore r (at n ∷ x)) (sym s.3) (not_before-greater (at s.0) (at n) s.1 x (greater-number s.0 n (omega (arith, s.2)))))
]

argument_least : (a : Argument) (d : Data) (inner : List (List Part)) → LeastFirst inner → LeastFirst (misformed_argument a d inner)
argument_least Text d inner least = if_least (not (is_text d))
argument_least Factor d inner least = if_least (not (is_whole d))
argument_least Inner d inner least = least

arguments_begin : (n : ℕ) (as' : List Argument) (ds : Items) → BeginFrom n (misformed_arguments n as' (each_misformed ds))
arguments_begin n [] no_items p among = absurd (none_contained p among)
arguments_begin n [] (item d ds) p among = absurd (none_contained p among)
arguments_begin n (a ∷ as') no_items p among = absurd (none_contained p among)
arguments_begin n (a ∷ as') (item d ds) p among =
    joined_begin n (map (λ q. at n ∷ q) (misformed_argument a d (misformed d))) (misformed_arguments (n + 1) as' (each_misformed ds))
    (mapped_begin n (misformed_argument a d (misformed d))) (arguments_begin (n + 1) as' ds) p among

array_least : (o : Option (List Argument)) (ds : Items) → ((as' : List Argument) → LeastFirst (misformed_arguments 1 as' (each_misformed ds)))
    → LeastFirst (option_map_or (λ as'. misformed_arguments 1 as' (each_misformed ds)) o ([] ∷ []))
array_least None ds each = whole_least
array_least (Some as') ds each = each as'

mutual
  misformed_least : (d : Data) → LeastFirst (misformed d)
  misformed_least null = whole_least
  misformed_least (boolean b) = whole_least
  misformed_least (number n) = if_least (not (is_whole (number n)))
  misformed_least (string s) = whole_least
  misformed_least (array no_items) = whole_least
  misformed_least (array (item o ds)) = array_least (arguments_of o (length (each_misformed ds))) ds (λ as'. arguments_least 1 as' ds)
  misformed_least (object ms) = whole_least

  arguments_least : (n : ℕ) (as' : List Argument) (ds : Items) → LeastFirst (misformed_arguments n as' (each_misformed ds))
  arguments_least n [] no_items = tt
  arguments_least n [] (item d ds) = tt
  arguments_least n (a ∷ as') no_items = tt
  arguments_least n (a ∷ as') (item d ds) =
      joined_least n (misformed_argument a d (misformed d)) (misformed_arguments (n + 1) as' (each_misformed ds))
      (argument_least a d (misformed d) (misformed_least d)) (arguments_least (n + 1) as' ds) (arguments_begin (n + 1) as' ds)

first_of : (ps : List (List Part)) (p : List Part) → LeastFirst ps → slice_get ps 0 ≡ Some p → IsFirst (Contains ps) IsPlaceBefore p
first_of [] p least is = absurd (none-some p is)
first_of (q ∷ ps) p least is =
    subst (IsFirst (Contains (q ∷ ps)) IsPlaceBefore) (same_Some q p is) record { is = contained_at (q ∷ ps) 0 q refl; none_before = least }

pub first_misformed_is_first : FirstMisformedIsFirst
first_misformed_is_first d p is = first_of (misformed d) p (misformed_least d) is
