-- What the search for a misformed part needs.
use Rattle.std.proofs.Common.{◌≡◌, ℕ, zero, suc, ◌≤◌, ◌+◌, List, [], ◌∷◌, ◌++◌, map, take, refl, ◌∙◌, ap, arith, Some}
use Rattle.std.specs.Prelude.{replicate, slice_get}
use Rattle.std.specs.Option.{option_map_or}
use Rattle.serde_json.specs.Data.{Data, null, boolean, number, string, array, object, Items, no_items, item}
use Rattle.serde_json.specs.View.{view, items_of, items_view}
use Rattle.serde_json.specs.declared.value.Value.{Value}
use Rattle.file_values.specs.declared.part.Part.{Part}
use Rattle.file_values.specs.declared.part.Part.TheVariants.{At as at}
use Rattle.file_values.specs.declared.operator.Argument.{Argument}
use Rattle.file_values.specs.Forms.{misformed, each_misformed, judged, misformed_argument, misformed_arguments}

pub take_replicate : {X : Type 0} (n m : ℕ) (x : X) → n ≤ m → take n (replicate m x) ≡ replicate n x
take_replicate zero m x less = refl
take_replicate (suc n) zero x less = absurd (omega (arith, less))
take_replicate (suc n) (suc m) x less = ap (λ xs. x ∷ xs) (take_replicate n m x (omega (arith, less)))

pub each_misformed_items : (ds : List Data) → each_misformed (items_of ds) ≡ map judged ds
each_misformed_items [] = refl
each_misformed_items (d ∷ ds) = ap (λ more. judged d ∷ more) (each_misformed_items ds)

-- the first of two lists, one behind a step
pub first_of_two : (x : Part) (ps qs : List (List Part)) → slice_get (map (λ p. x ∷ p) ps ++ qs) 0 ≡ option_map_or (λ p. Some (x ∷ p)) (slice_get ps 0) (slice_get qs 0)
first_of_two x [] qs = refl
first_of_two x (p ∷ ps) qs = refl

-- the first wrong place of arguments: in the first of them, else in the rest
pub next_argument : (n : ℕ) (ks : List Argument) (k : Argument) (more : List Argument) (vs : List Value) (v : Value) (rest : List Value)
    → ks ≡ k ∷ more → vs ≡ v ∷ rest
    → slice_get (misformed_arguments n ks (map judged (map view vs))) 0
    ≡ option_map_or (λ p. Some (at n ∷ p)) (slice_get (misformed_argument k (view v) (misformed (view v))) 0) (slice_get (misformed_arguments (n + 1) more (map judged (map view rest))) 0)
next_argument n ks k more vs v rest is_ks is_vs =
    ap (λ l. slice_get (misformed_arguments n l (map judged (map view vs))) 0) is_ks
    ∙ ap (λ l. slice_get (misformed_arguments n (k ∷ more) (map judged (map view l))) 0) is_vs
    ∙ first_of_two (at n) (misformed_argument k (view v) (misformed (view v))) (misformed_arguments (n + 1) more (map judged (map view rest)))

-- ---- how many values there are in a value

abbrev mutual
  pub size : Data → ℕ
  size null = 0
  size (boolean b) = 0
  size (number n) = 0
  size (string s) = 0
  size (array ds) = 1 + items_size ds
  size (object ms) = 0

  pub items_size : Items → ℕ
  items_size no_items = 0
  items_size (item d ds) = 1 + size d + items_size ds

abbrev pub weight : List Value → ℕ
weight vs = items_size (items_view vs)

pub size-array : (d : Value) (vs : List Value) → view d ≡ array (items_view vs) → size (view d) ≡ 1 + weight vs
size-array d vs is = ap size is

pub weight-cons : (vs : List Value) (v : Value) (rest : List Value) → vs ≡ v ∷ rest → weight vs ≡ 1 + size (view v) + weight rest
weight-cons vs v rest is = ap weight is
