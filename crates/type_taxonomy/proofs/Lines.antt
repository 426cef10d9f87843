-- Lines of types, a member at a time.
use Rattle.std.proofs.Common.{◌≡◌, ℕ, ◌+◌, ◌-◌, ◌<◌, suc, List, [], ◌∷◌, ◌++◌, sym, ap, ◌∙◌, append_assoc, Option, Some, slice_get, arith}
use Rattle.std.specs.Option.{option_map_or}
use Rattle.prod_model.specs.declared.model.TypeDecl.{TypeDecl}
use Rattle.prod_model.specs.Forest.{line_within}

-- a line of one member more
pub line_within_some : (most : ℕ) (types : List TypeDecl) (t : ℕ) (d : TypeDecl) → slice_get types t ≡ Some d
    → line_within (suc most) types t ≡ t ∷ option_map_or (line_within most types) d.parent []
line_within_some most types t d is = ap (λ o. option_map_or (λ e. t ∷ option_map_or (line_within most types) e.parent []) o []) is

-- the members so far and those to come, after one more
pub line_more : (types : List TypeDecl) (whole before after : List ℕ) (next : Option ℕ) (n i u : ℕ) (d : TypeDecl) → i < n
    → before ++ option_map_or (line_within (n - i) types) next [] ≡ whole → next ≡ Some u → slice_get types u ≡ Some d → after ≡ before ++ u ∷ []
    → after ++ option_map_or (line_within (n - (i + 1)) types) d.parent [] ≡ whole
line_more types whole before after next n i u d within so_far is_next is_type pushed =
    let less : n - i ≡ suc (n - (i + 1)) = omega arith in
    let rest : option_map_or (line_within (n - i) types) next [] ≡ u ∷ option_map_or (line_within (n - (i + 1)) types) d.parent [] =
    rw (is_next, less) (line_within_some (n - (i + 1)) types u d is_type) in
    ap (λ l. l ++ option_map_or (line_within (n - (i + 1)) types) d.parent []) pushed ∙ append_assoc before (u ∷ []) _ ∙ ap (λ l. before ++ l) (sym rest) ∙ so_far
