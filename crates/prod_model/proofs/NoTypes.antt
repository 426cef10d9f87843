-- A number that is no type is under none, and has no attributes and ports.
use Rattle.std.proofs.Common.{◌≡◌, ℕ, zero, suc, ◌<◌, ◌≤◌, ◌⊎◌, inl, inr, ◌∙◌, ap, false, ◌||◌, ◌==◌, List, [], ◌∷◌, length, Option, Some, None, refl, arith}
use Rattle.std.specs.Prelude.{slice_get}
use Rattle.std.specs.Option.{option_map_or}
use Rattle.std.specs.List.{list_any}
use Rattle.std.proofs.lemmas.Bool.{ne_eqb}
use Rattle.std.proofs.lemmas.Option.{slice_get_past, slice_get_within}
use Rattle.prod_model.specs.declared.model.Model.{Model}
use Rattle.prod_model.specs.declared.model.TypeDecl.{TypeDecl}
use Rattle.prod_model.specs.Forest.{is_a, line_within}
pub use Rattle.prod_model.proofs.TaxonomyLaws.{no_attributes, no_ports}

module _ (types : List TypeDecl) (u : ℕ) where
  from_parent : (most : ℕ) → ((t : ℕ) → list_any (λ v. v == u) (line_within most types t) ≡ false)
      → (parent : Option ℕ) → list_any (λ v. v == u) (option_map_or (line_within most types) parent []) ≡ false
  from_parent most above None = refl
  from_parent most above (Some p) = above p

  from_type : (most t : ℕ) → length types ≤ u → ((p : ℕ) → list_any (λ v. v == u) (line_within most types p) ≡ false)
      → (o : Option TypeDecl) → slice_get types t ≡ o
      → list_any (λ v. v == u) (option_map_or (λ d. t ∷ option_map_or (line_within most types) d.parent []) o []) ≡ false
  from_type most t outside above None is = refl
  from_type most t outside above (Some d) is =
      let within : t < length types = slice_get_within types t d is in
      let other : (t == u) ≡ false = ne_eqb t u (λ e. omega arith) in
      ap (λ b. b || list_any (λ v. v == u) (option_map_or (line_within most types) d.parent [])) other ∙ from_parent most above d.parent

  -- what is no type is on no line
  not_on_line : (most t : ℕ) → length types ≤ u → list_any (λ v. v == u) (line_within most types t) ≡ false
  not_on_line zero t outside = refl
  not_on_line (suc most) t outside = from_type most t outside (λ p. not_on_line most p outside) (slice_get types t) refl

pub is_a_outside : (m : Model) (t u : ℕ) → (length m.types ≤ t) ⊎ (length m.types ≤ u) → is_a m t u ≡ false
unfolding is_a
is_a_outside m t u (inl outside) = rw (slice_get_past m.types t outside) refl
is_a_outside m t u (inr outside) = not_on_line m.types u (suc (length m.types)) t outside
