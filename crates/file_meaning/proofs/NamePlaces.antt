-- The place of a name among those of values.
use Rattle.std.proofs.Common.{◌≡◌, ℕ, ◌≤◌, Bool, List, [], ◌∷◌, length, refl, ◌∙◌, arith, Some, None}
use Rattle.std.specs.Prelude.{not}
use Rattle.std.specs.List.{position, position_or_len, prefix_len}
use Rattle.std.proofs.lemmas.Bool.Decides.{nat_tests}
use Rattle.serde_json.specs.declared.value.Value.{Value}
use Rattle.prod_model.specs.Names.{same_text}
use Rattle.file_meaning.specs.steps.Names.{is_named, names_in}

within : {X : Type 0} (q : X → Bool) (xs : List X) → prefix_len q xs ≤ length xs
within q [] = omega arith
within q (x ∷ xs) = let rest = within q xs in grind (arith)

pub found : {X : Type 0} (p : X → Bool) (xs : List X) (k : ℕ) → position p xs ≡ Some k → k ≡ position_or_len p xs
found p xs k is = let at_most = within (λ x. not (p x)) xs in grind (arith, nat_tests)

pub past : {X : Type 0} (p : X → Bool) (xs : List X) → position p xs ≡ None → length xs ≡ position_or_len p xs
past p xs none = let at_most = within (λ x. not (p x)) xs in grind (arith, nat_tests)

mapped : (name : List ℕ) (vs : List Value) → position_or_len (is_named name) vs ≡ position_or_len (λ n. same_text n name) (names_in vs)
mapped name [] = refl
mapped name (v ∷ vs) = let rest = mapped name vs in grind (arith)

-- the first place that has the name
pub named_found : (name : List ℕ) (vs : List Value) (k : ℕ) → position (is_named name) vs ≡ Some k → k ≡ position_or_len (λ n. same_text n name) (names_in vs)
named_found name vs k is = found (is_named name) vs k is ∙ mapped name vs

-- and the place past the last where none has
pub named_past : (name : List ℕ) (vs : List Value) → position (is_named name) vs ≡ None → length vs ≡ position_or_len (λ n. same_text n name) (names_in vs)
named_past name vs none = past (is_named name) vs none ∙ mapped name vs
