-- What can be spelled can be written.
use Rattle.std.proofs.Common.{◌≡◌, ℕ, zero, suc, ◌+◌, ◌≤◌, ◌<◌, true, ◌&&◌, ◌==◌, List, [], ◌∷◌, length, Some, ap, ◌∙◌, arith}
use Rattle.std.specs.Prelude.{slice_get}
use Rattle.std.specs.List.{list_all, enumerate_from}
use Rattle.std.proofs.lemmas.Bool.Decides.{nat_tests}
use lib.Pointwise.{pointwise}
use Rattle.prod_model.specs.declared.model.Model.{Model}
use Rattle.prod_model.specs.Limits.{most_instances}
use Rattle.prod_model.specs.Forest.{is_leaf}
use Rattle.prod_model.specs.Taxonomy.{attributes_at, ports_at}
use Rattle.config_value.specs.declared.configuration.Instance.{Instance}
use Rattle.config_value.specs.Shaped.{has_leaf_types}
use Rattle.config_value.specs.Spelled.{is_spelled_value, is_spelled_links, is_spelled}
use Rattle.canonical_form.specs.steps.Written.{IsWritten}
use Rattle.base_laws.proofs.Tests.{list_all_at}

-- there are at most so many instances as the limit allows
pub few_instances : (m : Model) (c : List Instance) → is_spelled m c ≡ true → length c ≤ most_instances
unfolding is_spelled
few_instances m c spelled = grind (arith, nat_tests)

leaf_types : (m : Model) (c : List Instance) → is_spelled m c ≡ true → has_leaf_types m c ≡ true
unfolding is_spelled
leaf_types m c spelled = grind (arith)

spelled_parts : (m : Model) (c : List Instance) → is_spelled m c ≡ true
    → list_all (λ x. pointwise (is_spelled_value m) (attributes_at m x.kind) x.values && list_all is_spelled_links x.links) c ≡ true
unfolding is_spelled
spelled_parts m c spelled = grind (arith)

-- an instance is of a type, and has as many lists of links as that has ports
shape_at : (m : Model) (c : List Instance) (i : ℕ) (x : Instance) → has_leaf_types m c ≡ true → slice_get c i ≡ Some x
    → (x.kind < length m.types) × (length x.links ≡ length (ports_at m x.kind))
unfolding has_leaf_types is_leaf
shape_at m c i x leaves at =
    let here = list_all_at (λ y. is_leaf m y.kind && (length y.values == length (attributes_at m y.kind)) && (length y.links == length (ports_at m y.kind))) c leaves i x at in
    (grind (arith, nat_tests), grind (arith, nat_tests))

pub written_at : (m : Model) (c : List Instance) (i : ℕ) (x : Instance) → is_spelled m c ≡ true → slice_get c i ≡ Some x → IsWritten m x
written_at m c i x spelled at =
    let shape = shape_at m c i x (leaf_types m c spelled) at in
    let parts = list_all_at (λ y. pointwise (is_spelled_value m) (attributes_at m y.kind) y.values && list_all is_spelled_links y.links) c (spelled_parts m c spelled) i x at in
    record { typed = shape.0; valued = grind (arith); linked = shape.1 }

-- an instance stands beside its number
slice_get_enumerate_from : {X : Type 0} (n : ℕ) (xs : List X) (i : ℕ) (x : X) → slice_get xs i ≡ Some x → slice_get (enumerate_from n xs) i ≡ Some (n + i, x)
slice_get_enumerate_from n [] i x at = absurd (cc)
slice_get_enumerate_from n (y ∷ ys) zero x at = let e : n + 0 ≡ n = omega arith in cc
slice_get_enumerate_from n (y ∷ ys) (suc i) x at = let e : n + 1 + i ≡ n + suc i = omega arith in slice_get_enumerate_from (n + 1) ys i x at ∙ ap (λ k. Some (k, x)) e

pub numbered_at : {X : Type 0} (xs : List X) (i : ℕ) (x : X) → slice_get xs i ≡ Some x → slice_get (enumerate_from 0 xs) i ≡ Some (i, x)
numbered_at xs i x at = let e : 0 + i ≡ i = omega arith in slice_get_enumerate_from 0 xs i x at ∙ ap (λ k. Some (k, x)) e
