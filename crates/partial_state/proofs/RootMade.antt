-- The parts of the first state.
use Rattle.std.proofs.Common.{◌≡◌, ◌≢◌, ℕ, ◌<◌, ◌^◌, ◌∙◌, ap, ap₂, sym, ◌&&◌, ◌==◌, Bool, true, false, cond, refl, List, [], ◌∷◌, length, ltb-true}
use Rattle.std.specs.Prelude.{IsTrue}
use Rattle.std.specs.List.{list_all, range_with_len}
use Rattle.std.proofs.lemmas.Bool.{and_parts, and_from, false≢true}
use Rattle.prod_model.specs.declared.model.Model.{Model}
use Rattle.prod_model.specs.Forest.{is_a, is_leaf, is_type}
use Rattle.prod_model.specs.TypeMasks.{IsMask}
use Rattle.prod_model.specs.Valid.{IsValid, has_known_types}
use Rattle.prod_model.proofs.LeafLaws.{leaf_under}
use Rattle.prod_model.proofs.ValidModels.{few_types}
use Rattle.domain_store.specs.Words.{has_word}
use Rattle.domain_store.proofs.Bits.{has_none}
use Rattle.state_space.specs.Made.{MadeInstance}
use Rattle.state_space.specs.State.{State, leaves_under, attribute_types_of, port_types_of}
use Rattle.state_space.specs.Root.{new_instance, root}
use Rattle.state_space.proofs.PortLaws.{all_from_has}
use Rattle.partial_state.specs.Masks.{kinds_of}
use Rattle.partial_state.proofs.KindLaws.{has_kind}
use Rattle.partial_state.proofs.KindLists.{kinds_leaves}

-- the root type is a type
pub root_type : (m : Model) → IsValid m → m.root < length m.types
unfolding has_known_types
root_type m valid =
    let known = valid.declared.known_types in
    ltb-true m.root (length m.types) (and_parts (is_type m m.root) _ (and_parts (is_type m m.root && list_all (λ b. is_type m b.kind) m.bounds) (list_all (λ r. is_type m r.kind) m.rules) known).0).0

module _ (m : Model) (valid : IsValid m) (mask t : ℕ) (bits : IsMask mask (λ k. is_leaf m k && is_a m k t)) where
  -- a leaf under the type has its bit
  pub leaf_bit : (k : ℕ) → has_word mask k ≡ (is_leaf m k && is_a m k t)
  leaf_bit k = ap (λ n. n == 1) (bits k) ∙ one (is_leaf m k && is_a m k t)
    where
      one : (b : Bool) → (cond b 1 0 == 1) ≡ b
      one true = refl
      one false = refl

  -- there is one
  pub leaf_some : t < length m.types → mask ≢ 0
  leaf_some within none =
      let leaf = leaf_under m valid.declared.taxonomy.forest t within in
      false≢true (sym (has_none leaf.0) ∙ ap (λ n. has_word n leaf.0) (sym none) ∙ leaf_bit leaf.0 ∙ and_from _ _ leaf.1 leaf.2)

  -- all are leaves
  pub all_leaves : mask < 2 ^ 128 → IsTrue (list_all (is_leaf m) (kinds_of mask))
  all_leaves fits = all_from_has (is_leaf m) (kinds_of mask) (λ k there.
      (and_parts (is_leaf m k) (is_a m k t) (sym (leaf_bit k) ∙ sym (has_kind mask k fits) ∙ there)).0)

  -- and they are those under the type
  pub kinds_under : kinds_of mask ≡ leaves_under m t
  kinds_under = kinds_leaves m mask (λ u. is_a m u t) (few_types m valid) leaf_bit

-- the first state from its parts
pub root_made : (m : Model) (kinds : List ℕ) (attributes ports : List (List ℕ)) (row : MadeInstance) (made : List MadeInstance)
    → attributes ≡ attribute_types_of m → ports ≡ port_types_of m → kinds ≡ leaves_under m m.root → row ≡ new_instance m kinds (range_with_len 0 1) → made ≡ row ∷ []
    → record { attribute_types = attributes; port_types = ports; made = made } ≡ root m
unfolding root
root_made m kinds attributes ports row made same_attributes same_ports same_kinds is alone =
    let parts : List (List ℕ) → List (List ℕ) → List MadeInstance → State = λ a p l. record { attribute_types = a; port_types = p; made = l } in
    ap₂ (λ a p. parts a p made) same_attributes same_ports
    ∙ ap (parts (attribute_types_of m) (port_types_of m)) (alone ∙ ap (λ x. x ∷ []) (is ∙ ap (λ k. new_instance m k (0 ∷ [])) same_kinds))
