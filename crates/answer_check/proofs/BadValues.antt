-- The values that are not in their domains, by instance and attribute.
use Rattle.std.proofs.Common.{◌≡◌, ℕ, ℤ, zero, suc, ◌<◌, ◌∙◌, ap, sym, subst, true, ◌==◌, List, [], ◌∷◌, length, get_or, pos, Some, eq-eqb, refl, arith}
use Rattle.std.specs.Prelude.{slice_get, IsFalse, IsTrue, IsSome}
use Rattle.std.specs.List.{find}
use Rattle.std.proofs.lemmas.Bool.{and_parts}
use Rattle.std.proofs.lemmas.Option.{same_Some, none-some, slice_get_within, slice_get_read, slice_get-get_or}
use Rattle.prod_model.specs.declared.model.Model.{Model}
use Rattle.prod_model.specs.declared.model.AttrAt.{AttrAt}
use Rattle.prod_model.specs.Taxonomy.{attributes_at}
use Rattle.config_value.specs.declared.configuration.Instance.{Instance}
use Rattle.config_value.specs.Shaped.{has_value, has_leaf_types}
use Rattle.config_value.specs.ShapedSentences.{IsBuilt}
use Rattle.config_value.specs.Spelled.{is_spelled}
use Rattle.base_laws.proofs.Tests.{list_all_at}
use Rattle.config_value.proofs.ShapedParts.{is_built, is_built_at}
use Rattle.answer_check.specs.Breaks.{too_many, other_root, bad_value, no_instance, off_target, bad_number, shared_part, not_linked_back, misnumbered, bad_count, false_rule}
use Rattle.answer_check.specs.steps.Finds.{BreaksAt}

-- an instance of a spelled configuration has a leaf type, and lists as long as the type asks
pub built : (m : Model) (c : List Instance) (i : ℕ) (x : Instance) → IsTrue (is_spelled m c) → slice_get c i ≡ Some x → IsBuilt m x
unfolding is_spelled has_leaf_types
built m c i x spelled at = is_built_at m x (list_all_at (is_built m) c (and_parts _ _ (and_parts _ _ spelled).0).1 i x at)

-- what a type has is found under its id
pub found_known : (id : ℕ) (attributes : List AttrAt) (k : ℕ) (a : AttrAt) → slice_get attributes k ≡ Some a → a.id ≡ id → IsSome (find (λ b. b.id == id) attributes)
found_known id [] k a at same = absurd (none-some a at)
found_known id (b ∷ attributes) zero a at same = let here : b ≡ a = same_Some b a at in let e : (b.id == id) ≡ true = eq-eqb b.id id (ap (λ x. x.id) here ∙ same) in grind (arith)
found_known id (b ∷ attributes) (suc k) a at same = let rest = found_known id attributes k a at same in grind (arith)

-- the parts of a value out of its domain
pub record HasBadValue (m : Model) (c : List Instance) (i k : ℕ) : Type 0 where
  pub x : Instance
  pub a : AttrAt
  pub v : ℤ
  pub stands : slice_get c i ≡ Some x
  pub attribute : slice_get (attributes_at m x.kind) k ≡ Some a
  pub value : slice_get x.values k ≡ Some v
  pub bad : IsFalse (has_value m a v)

pub bad_parts : (m : Model) (c : List Instance) (code i k : ℕ) → code ≡ 3 → BreaksAt m c code i k → HasBadValue m c i k
bad_parts m c code i k three (bad_value is x a v stands attribute value bad) =
    record { x = x; a = a; v = v; stands = stands; attribute = attribute; value = value; bad = bad }
bad_parts m c code i k three (too_many is _ _ _) = absurd (omega arith)
bad_parts m c code i k three (other_root is _ _ _) = absurd (omega arith)
bad_parts m c code i k three (no_instance is _ _ _ _ _ _) = absurd (omega arith)
bad_parts m c code i k three (off_target is _ _ _ _ _ _ _ _) = absurd (omega arith)
bad_parts m c code i k three (bad_number is _ _ _ _) = absurd (omega arith)
bad_parts m c code i k three (shared_part is _ _ _) = absurd (omega arith)
bad_parts m c code i k three (not_linked_back is _ _ _ _ _ _ _ _) = absurd (omega arith)
bad_parts m c code i k three (misnumbered is _ _ _ _) = absurd (omega arith)
bad_parts m c code i k three (bad_count is _ _ _ _) = absurd (omega arith)
bad_parts m c code i k three (false_rule is _ _ _ _ _ _) = absurd (omega arith)

-- a value in its domain breaks nothing
pub good_value : (m : Model) (c : List Instance) (i k : ℕ) (x : Instance) (a : AttrAt) (v : ℤ) → slice_get c i ≡ Some x → slice_get (attributes_at m x.kind) k ≡ Some a
    → slice_get x.values k ≡ Some v → has_value m a v ≡ true → BreaksAt m c 3 i k → ⊥
good_value m c i k x a v stands attribute value good broken =
    let parts = bad_parts m c 3 i k refl broken in
    let same : parts.x ≡ x = same_Some parts.x x (sym parts.stands ∙ stands) in
    let HasAttribute : Instance → Type 0 = λ y. slice_get (attributes_at m y.kind) k ≡ Some parts.a in
    let HasOne : Instance → Type 0 = λ y. slice_get y.values k ≡ Some parts.v in
    let attribute' : parts.a ≡ a = same_Some parts.a a (sym (subst HasAttribute same parts.attribute) ∙ attribute) in
    let value' : parts.v ≡ v = same_Some parts.v v (sym (subst HasOne same parts.value) ∙ value) in
    let bad = parts.bad in
    let here : has_value m parts.a parts.v ≡ has_value m a v = λ i. has_value m (attribute' i) (value' i) in
    absurd cc

pub bad_within : (m : Model) (c : List Instance) (i k : ℕ) → BreaksAt m c 3 i k → i < length c
bad_within m c i k broken = let parts = bad_parts m c 3 i k refl broken in slice_get_within c i parts.x parts.stands

pub bad_item_within : (m : Model) (c : List Instance) (i k : ℕ) (x : Instance) → slice_get c i ≡ Some x → BreaksAt m c 3 i k → k < length (attributes_at m x.kind)
bad_item_within m c i k x stands broken =
    let parts = bad_parts m c 3 i k refl broken in
    let same : parts.x ≡ x = same_Some parts.x x (sym parts.stands ∙ stands) in
    let HasAttribute : Instance → Type 0 = λ y. slice_get (attributes_at m y.kind) k ≡ Some parts.a in
    slice_get_within (attributes_at m x.kind) k parts.a (subst HasAttribute same parts.attribute)

-- an attribute that was read, and the value beside it
module _ (m : Model) (c : List Instance) (i : ℕ) (x : Instance) (spelled : IsTrue (is_spelled m c)) (stands : slice_get c i ≡ Some x)
    (attributes : List AttrAt) (values : List ℤ) (all : attributes ≡ attributes_at m x.kind) (own : values ≡ x.values) (k : ℕ) where
  pub value_is_within : k < length attributes → k < length values
  value_is_within within = let long = built m c i x spelled stands in omega (arith, long.each_attribute, ap length all, ap length own)

  pub attribute_read : (a : AttrAt) → k < length attributes → a ≡ get_or attributes k a → slice_get (attributes_at m x.kind) k ≡ Some a
  attribute_read a within is = ap (λ xs. slice_get xs k) (sym all) ∙ slice_get_read attributes (length attributes) k a refl within is

  pub value_read : k < length attributes → slice_get x.values k ≡ Some (get_or values k (pos 0))
  value_read within = ap (λ xs. slice_get xs k) (sym own) ∙ slice_get-get_or values k (pos 0) (value_is_within within)
