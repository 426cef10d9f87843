-- In a forest the ancestors of a type are its parent's line.
use Rattle.std.proofs.Common.{◌≡◌, ℕ, suc, List, [], ◌∷◌, length, drop, ap, Some, None}
use Rattle.std.specs.Prelude.{slice_get}
use Rattle.std.specs.Option.{option_map_or}
use Rattle.prod_model.specs.declared.model.TypeDecl.{TypeDecl}
use Rattle.prod_model.specs.Forest.{line_within, line, ancestors}
use Rattle.prod_model.proofs.ForestLines.{HasNoCycle, HasParent, line_of_parent, line_parent}

module _ (types : List TypeDecl) where
  -- the ancestors of a type are its parent's line, if it has one
  pub ancestors_of_parent : HasNoCycle types → (t : ℕ) (d : TypeDecl) → slice_get types t ≡ Some d
      → ancestors types t ≡ option_map_or (line types) d.parent []
  ancestors_of_parent forest t d is = ap (drop 1) (line_of_parent types forest t d is)

  -- a line is longer by one than the parent's
  pub length_line_parent : HasNoCycle types → (t p : ℕ) → HasParent types t p
      → length (line types t) ≡ suc (length (line types p))
  length_line_parent forest t p above = ap length (line_parent types forest t p above)

  -- no line starts where there is no type
  pub line_none : (t : ℕ) → slice_get types t ≡ None → line types t ≡ []
  line_none t none =
      ap (λ o. option_map_or (λ d. t ∷ option_map_or (line_within (length types) types) d.parent []) o []) none
