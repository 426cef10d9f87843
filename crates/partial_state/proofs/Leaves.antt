-- The leaf types that pass a test, as a mask.
use Rattle.std.proofs.Common.{◌≡◌, ℕ, ◌<◌, ◌^◌, ◌∙◌, ap, sym, ◌&&◌, ◌==◌, Bool, true, false, refl, List, length}
use Rattle.std.specs.Prelude.{if◌then◌else◌}
use Rattle.std.specs.List.{filter}
use Rattle.std.proofs.lemmas.Bool.{and_parts, and_from}
use Rattle.prod_model.specs.declared.model.Model.{Model}
use Rattle.prod_model.specs.Forest.{is_a, is_leaf, type_numbers}
use Rattle.prod_model.specs.TypeMasks.{IsMask}
use Rattle.state_space.specs.Sets.{has_number}
use Rattle.state_space.specs.State.{leaves_that, leaves_under}
use Rattle.state_space.proofs.PortLaws.{has_number-filter, ascends-filter}
use Rattle.state_space.proofs.WholeLaws.{same_members, leaf_that}
use Rattle.state_space.proofs.NewState.{ascends-range}
use Rattle.partial_state.specs.Masks.{kinds_of}
use Rattle.partial_state.proofs.KindLaws.{has_kind, kinds_formed}

as_test : (b : Bool) → ((if b then 1 else 0) == 1) ≡ b
as_test true = refl
as_test false = refl

-- the types of a mask of leaves are the leaves that pass
pub kinds_of_leaves_that : (m : Model) (test : ℕ → Bool) (mask : ℕ) → mask < 2 ^ 128 → IsMask mask (λ k. is_leaf m k && test k) → kinds_of mask ≡ leaves_that m test
kinds_of_leaves_that m test mask fits is =
    same_members (kinds_of mask) (leaves_that m test) (and_parts _ _ (kinds_formed mask)).0
    (ascends-filter test (filter (is_leaf m) types) (ascends-filter (is_leaf m) types (ascends-range 0 (length m.types))))
    (λ k there. let both = and_parts (is_leaf m k) (test k) (sym (masked k) ∙ there) in leaf_that m test k both.0 both.1)
    (λ k there.
    let outer = and_parts (has_number (filter (is_leaf m) types) k) (test k) (sym (has_number-filter test (filter (is_leaf m) types) k) ∙ there) in
    let inner = and_parts (has_number types k) (is_leaf m k) (sym (has_number-filter (is_leaf m) types k) ∙ outer.0) in
    masked k ∙ and_from (is_leaf m k) (test k) inner.1 outer.1)
  where
    types : List ℕ
    types = type_numbers m.types

    masked : (k : ℕ) → has_number (kinds_of mask) k ≡ (is_leaf m k && test k)
    masked k = has_kind mask k fits ∙ (ap (λ b. b == 1) (is k) ∙ as_test (is_leaf m k && test k))

-- the types of the mask of the leaves under a type are those leaves
pub kinds_of_leaves : (m : Model) (mask target : ℕ) → mask < 2 ^ 128 → IsMask mask (λ k. is_leaf m k && is_a m k target) → kinds_of mask ≡ leaves_under m target
kinds_of_leaves m mask target = kinds_of_leaves_that m (λ u. is_a m u target) mask
