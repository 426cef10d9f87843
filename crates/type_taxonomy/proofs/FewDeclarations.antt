-- How many declarations one type of a model has.
use Rattle.std.proofs.Common.{◌≡◌, ℕ, ◌<◌, sym, ap, ◌∙◌, slice_get, sum_by, arith}
use Rattle.std.proofs.lemmas.List.Sums.{sum_by_more_le}
use Rattle.std.proofs.lemmas.Option.{slice_get_within, get_or_from_slice_get}
use Rattle.base_laws.specs.Places.{IsAt}
use Rattle.prod_model.specs.declared.model.Model.{Model}
use Rattle.prod_model.specs.declared.model.TypeDecl.{TypeDecl}

-- The declarations of one type are within all of them, also where the model goes by another name.
pub one_of_few : (f : TypeDecl → ℕ) (m m' : Model) (t : ℕ) (d : TypeDecl) (most : ℕ) → m' ≡ m → sum_by f m.types < most → IsAt m'.types t d → f d < most
one_of_few f m m' t d most same all has =
    let here : IsAt m.types t d = ap (λ n. slice_get n.types t) (sym same) ∙ has in
    omega (arith, sum_by_more_le f m.types t d (slice_get_within m.types t d here), ap f (get_or_from_slice_get m.types t d d here))
