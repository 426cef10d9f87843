-- The line of a type, step by step.
use Rattle.std.proofs.Common.{◌≡◌, ℕ, zero, suc, ◌<◌, ◌-◌, List, [], ◌∷◌, ◌++◌, reverse, Some, None, append_assoc, refl, arith}
use Rattle.std.specs.Prelude.{slice_get}
use Rattle.std.specs.Option.{option_map_or}
use Rattle.std.proofs.lemmas.List.{reverse-append}
use Rattle.prod_model.specs.declared.model.TypeDecl.{TypeDecl}
use Rattle.prod_model.specs.Forest.{line_within}

-- what is no type has no line
pub line_of_none : (most : ℕ) (types : List TypeDecl) (t : ℕ) → slice_get types t ≡ None → line_within most types t ≡ []
line_of_none zero types t none = refl
line_of_none (suc most) types t none = rw none

-- the line of a type goes on with that of its parent
pub line_of_type : (most : ℕ) (types : List TypeDecl) (t : ℕ) (kind : TypeDecl) → 0 < most → slice_get types t ≡ Some kind
    → line_within most types t ≡ t ∷ option_map_or (line_within (most - 1) types) kind.parent []
line_of_type zero types t kind some is = absurd (omega arith)
line_of_type (suc most) types t kind some is = let e : suc most - 1 ≡ most = omega arith in rw (is, e)

-- the line from the first ancestor down ends with the type
pub line_down_of : (most : ℕ) (types : List TypeDecl) (t : ℕ) (kind : TypeDecl) (down : List ℕ) → 0 < most → slice_get types t ≡ Some kind
    → (down ++ reverse (option_map_or (line_within (most - 1) types) kind.parent [])) ++ t ∷ [] ≡ down ++ reverse (line_within most types t)
line_down_of most types t kind down some is =
    rw (line_of_type most types t kind some is, reverse-append (t ∷ []) (option_map_or (line_within (most - 1) types) kind.parent []), append_assoc) refl
