-- What stands at a number of the texts that have to differ.
use Rattle.std.proofs.Common.{◌≡◌, ◌∙◌, ℕ, zero, suc, ◌+◌, ◌<◌, List, [], ◌∷◌, ◌++◌, map, length, refl, sym, ap, arith, Option, Some}
use Rattle.std.proofs.lemmas.List.{length-map, length-append}
use Rattle.std.proofs.lemmas.List.FromFn.{length-enumerate_from}
use Rattle.std.specs.Prelude.{slice_get}
use Rattle.std.specs.Option.{option_map}
use Rattle.std.specs.List.{enumerate_from}
use Rattle.serde_json.specs.Data.{Data}
use Rattle.serde_json.specs.View.{view}
use Rattle.base_laws.specs.Places.{IsAt}
use Rattle.file_values.specs.declared.part.Part.TheVariants.{At as at}
use Rattle.file_values.specs.declared.kind.Key.{Key}
use Rattle.file_values.specs.declared.group.Group.{Group}
use Rattle.file_values.specs.declared.group.Listed.{Listed}
use Rattle.file_values.specs.Twice.{Placed}
use Rattle.file_values.specs.steps.Groups.{step_by, text_by, listed_in, listed, grouped}

-- what f makes of what stands at a place of a numbered list
numbered_get : {A B : Type 0} (f : ℕ × A → B) (a : ℕ) (xs : List A) (k : ℕ) → slice_get (map f (enumerate_from a xs)) k ≡ option_map (λ x. f (a + k, x)) (slice_get xs k)
numbered_get f a [] k = refl
numbered_get f a (x ∷ xs) zero = let e : a ≡ a + 0 = omega arith in ap (λ n. Some (f (n, x))) e
numbered_get f a (x ∷ xs) (suc k) =
    let e : a + 1 + k ≡ a + suc k = omega arith in
    numbered_get f (a + 1) xs k ∙ ap (λ n. option_map (λ y. f (n, y)) (slice_get xs k)) e

-- the text and the place of what stands at a place of a list
pub text_there : (list text : Option Key) (ds : List Data) (i : ℕ) (d : Data) → IsAt ds i d → option_map (λ p. p.text) (slice_get (listed_in list text ds) i) ≡ Some (text_by text d)
text_there list text ds i d there =
    let f : ℕ × Data → Placed = λ p. record { text = text_by text p.1; place = step_by list ++ at p.0 ∷ step_by text } in
    ap (option_map (λ p. p.text)) (numbered_get f 0 ds i) ∙ ap (λ o. option_map (λ p. p.text) (option_map (λ x. f (0 + i, x)) o)) there

pub place_there : (list text : Option Key) (ds : List Data) (i : ℕ) (d : Data) → IsAt ds i d → option_map (λ p. p.place) (slice_get (listed_in list text ds) i) ≡ Some (step_by list ++ at i ∷ step_by text)
place_there list text ds i d there =
    let f : ℕ × Data → Placed = λ p. record { text = text_by text p.1; place = step_by list ++ at p.0 ∷ step_by text } in
    let e : 0 + i ≡ i = omega arith in
    ap (option_map (λ p. p.place)) (numbered_get f 0 ds i) ∙ ap (λ o. option_map (λ p. p.place) (option_map (λ x. f (0 + i, x)) o)) there
    ∙ ap (λ n. Some (step_by list ++ at n ∷ step_by text)) e

front_get : {A : Type 0} (xs ys : List A) (k : ℕ) → k < length xs → slice_get (xs ++ ys) k ≡ slice_get xs k
front_get [] ys k within = absurd (omega (arith, within))
front_get (x ∷ xs) ys zero within = refl
front_get (x ∷ xs) ys (suc k) within = front_get xs ys k (omega (arith, within))

back_get : {A : Type 0} (xs ys : List A) (k : ℕ) → slice_get (xs ++ ys) (length xs + k) ≡ slice_get ys k
back_get [] ys k = let e : 0 + k ≡ k = omega arith in ap (slice_get ys) e
back_get (x ∷ xs) ys k = let e : suc (length xs) + k ≡ suc (length xs + k) = omega arith in ap (slice_get (x ∷ (xs ++ ys))) e ∙ back_get xs ys k

pub length_listed : (l : Listed) → length (listed l) ≡ length l.items.now
length_listed l =
    length-map (enumerate_from 0 (map view l.items.now)) _ ∙ length-enumerate_from 0 (map view l.items.now) ∙ length-map l.items.now view

pub length_grouped : (g : Group) → length (grouped g) ≡ length g.first.items.now + length g.second.items.now
length_grouped g =
    length-append (listed g.first) (listed g.second)
    ∙ ap (λ n. n + length (listed g.second)) (length_listed g.first) ∙ ap (λ n. length g.first.items.now + n) (length_listed g.second)

-- a number of the first list, and one of the second
pub in_first : (g : Group) (n : ℕ) → n < length g.first.items.now → slice_get (listed g.first) n ≡ slice_get (grouped g) n
in_first g n within =
    let same = length_listed g.first in sym (front_get (listed g.first) (listed g.second) n (omega (arith, within, same)))

pub in_second : (g : Group) (n i : ℕ) → n ≡ length g.first.items.now + i → slice_get (listed g.second) i ≡ slice_get (grouped g) n
in_second g n i is =
    let same = length_listed g.first in
    let e : length (listed g.first) + i ≡ n = omega (arith, is, same) in
    sym (back_get (listed g.first) (listed g.second) i) ∙ ap (slice_get (grouped g)) e
