-- Rows of first declarations, made and looked up.
use Rattle.std.proofs.Common.{◌≡◌, ℕ, zero, suc, ◌+◌, ◌<◌, List, [], ◌∷◌, ◌++◌, length, get_or, Some, refl, sym, ap, ◌∙◌, subst, arith}
use Rattle.std.specs.Prelude.{slice_get}
use Rattle.std.proofs.lemmas.Option.{same_Some, none-some, slice_get_read}
use Rattle.std.proofs.lemmas.List.{length-map}
use Rattle.prod_model.specs.declared.model.Model.{Model}
use Rattle.prod_model.specs.Taxonomy.{attributes_of, ports_of, attributes_at}
use Rattle.canonical_form.specs.declared.names.Firsts.{Firsts}
use Rattle.canonical_form.specs.steps.FirstRows.{AreFirstsAt, AreFirstsFrom, AreFirsts}

module _ (m : Model) where
  -- with the row of one type more
  pub firsts_more : (t : ℕ) (rows : List Firsts) (firsts : Firsts) → AreFirstsFrom m t rows → AreFirstsAt m (t + length rows) firsts → AreFirstsFrom m t (rows ++ firsts ∷ [])
  firsts_more t [] firsts so_far next = let e : t + 0 ≡ t = omega arith in (subst (λ k. AreFirstsAt m k firsts) e next, tt)
  firsts_more t (row ∷ rows) firsts so_far next =
      let e : t + suc (length rows) ≡ t + 1 + length rows = omega arith in
      (so_far.0, firsts_more (t + 1) rows firsts so_far.1 (subst (λ k. AreFirstsAt m k firsts) e next))

  row_from : (t : ℕ) (rows : List Firsts) (k : ℕ) (firsts : Firsts) → AreFirstsFrom m t rows → slice_get rows k ≡ Some firsts → AreFirstsAt m (t + k) firsts
  row_from t [] k firsts rows_are at = absurd (none-some firsts at)
  row_from t (row ∷ rows) zero firsts rows_are at =
      let e : t ≡ t + 0 = omega arith in
      subst (λ k. AreFirstsAt m k firsts) e (subst (λ f. AreFirstsAt m t f) (same_Some row firsts at) rows_are.0)
  row_from t (row ∷ rows) (suc k) firsts rows_are at =
      let e : t + 1 + k ≡ t + suc k = omega arith in
      subst (λ j. AreFirstsAt m j firsts) e (row_from (t + 1) rows k firsts rows_are.1 at)

  -- the row that is read at a type's number is that of the type
  pub row_at : (rows : List Firsts) (t : ℕ) (firsts : Firsts) → AreFirsts m rows → t < length m.types → firsts ≡ get_or rows t firsts → AreFirstsAt m t firsts
  row_at rows t firsts are within read =
      let e : 0 + t ≡ t = omega arith in
      subst (λ k. AreFirstsAt m k firsts) e (row_from 0 rows t firsts are.each (slice_get_read rows (length rows) t firsts refl (omega (arith, are.long, within)) read))

-- there are as many as the type has attributes, and ports
module _ (m : Model) (t : ℕ) (firsts : Firsts) (row : AreFirstsAt m t firsts) where
  pub many_attributes : length firsts.attributes.items ≡ length (attributes_at m t)
  many_attributes =
      sym (length-map firsts.attributes.items (λ d. d.now.name)) ∙ ap length row.names
      ∙ length-map (attributes_of m.types t) (λ e. e.name) ∙ sym (length-map (attributes_of m.types t) (λ e. e.what))

  pub many_ports : length firsts.ports.items ≡ length (ports_of m.types t)
  many_ports = sym (length-map firsts.ports.items (λ d. d.now.name)) ∙ ap length row.ports ∙ length-map (ports_of m.types t) (λ e. e.name)
