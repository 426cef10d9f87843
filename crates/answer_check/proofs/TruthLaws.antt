-- Truths of sets of instances, and of those that are linked from them.
use Rattle.std.proofs.Common.{◌≡◌, ℕ, suc, ◌<◌, ◌∙◌, ap, ap₂, sym, Bool, true, false, not, ◌&&◌, ◌||◌, List, [], ◌∷◌, length, Some, refl, zero-add, eqb-true, eq-eqb}
use Rattle.std.specs.Prelude.{◌==◌, slice_get, IsTrue}
use Rattle.std.specs.List.{list_any, list_all}
use Rattle.std.proofs.lemmas.Bool.{and_parts, and_from}
use Rattle.std.proofs.lemmas.Option.{slice_get_within}
use Rattle.instance_set.specs.declared.set.InstanceSet.{InstanceSet}
use Rattle.instance_set.specs.InstanceSets.{is_member}
use Rattle.prod_model.specs.declared.model.Model.{Model}
use Rattle.prod_model.specs.declared.expr.Expr.{Expr}
use Rattle.config_value.specs.declared.configuration.Instance.{Instance}
use Rattle.config_value.specs.Shaped.{instance_numbers}
use Rattle.config_value.specs.Value.{is_true_at, links_at_instance}
use Rattle.base_laws.proofs.Ranges.{slice_get_range_with_len}
use Rattle.base_laws.proofs.Tests.{list_any_at, list_any_from}
use Rattle.answer_check.specs.steps.Evaluable.{HasBoundsAtEach}
use Rattle.answer_check.specs.steps.InstanceSets.{HasBoundsAmong, AreTrueAmong}

-- ---- tests

-- what is the same where a is true
and_same : (a x y : Bool) → (a ≡ true → x ≡ y) → (a && x) ≡ (a && y)
and_same true x y same = same refl
and_same false x y same = refl

-- those of a that are not those of a and x
pub but_not : (a x : Bool) → (a && not (a && x)) ≡ (a && not x)
but_not true x = refl
but_not false x = refl

pub but_not_not : (a x : Bool) → (a && not (a && not x)) ≡ (a && x)
but_not_not true true = refl
but_not_not true false = refl
but_not_not false x = refl

-- those of a without x, or with both x and y
pub if_then : (a x y : Bool) → ((a && not (a && x)) || ((a && x) && y)) ≡ (a && (not x || y))
if_then true true y = refl
if_then true false y = refl
if_then false x y = refl

-- one more test that fails
pub none_more : (a x y : Bool) → ((a && not x) && not y) ≡ (a && not (x || y))
none_more true true y = refl
none_more true false y = refl
none_more false x y = refl

module _ {X : Type 0} (p q : X → Bool) where
  -- tests that agree at each element
  list_all_same : (xs : List X) → ((k : ℕ) (x : X) → slice_get xs k ≡ Some x → p x ≡ q x) → list_all p xs ≡ list_all q xs
  list_all_same [] same = refl
  list_all_same (x ∷ xs) same = ap₂ (λ a b. a && b) (same 0 x refl) (list_all_same xs (λ k. same (suc k)))

-- none passes where each fails
list_all_not : {X : Type 0} (p : X → Bool) (xs : List X) → list_all (λ x. not (p x)) xs ≡ not (list_any p xs)
list_all_not p [] = refl
list_all_not p (x ∷ xs) = ap (λ b. not (p x) && b) (list_all_not p xs) ∙ not_or (p x) (list_any p xs)
  where
    not_or : (a b : Bool) → (not a && not b) ≡ not (a || b)
    not_or true b = refl
    not_or false b = refl

-- ---- sets

-- an expression has bounds at instances of the configuration alone
pub bounded_within : (m : Model) (c : List Instance) (among : InstanceSet) (e : Expr) → HasBoundsAmong m c among e → (i : ℕ) → IsTrue (is_member among i) → i < length c
bounded_within m c among e bounded i here = let at = bounded i here in slice_get_within c i at.instance at.stands

module _ (m : Model) (c : List Instance) (p : ℕ) (among linked : InstanceSet)
    (from : (j : ℕ) → is_member linked j ≡ list_any (λ i. is_member among i && list_any (λ k. k == j) (links_at_instance m c p i)) (instance_numbers c)) where
  -- what has bounds at each link of the members of a set has them at each instance that is linked from the set
  pub linked_bounded : (e : Expr) → ((i : ℕ) → IsTrue (is_member among i) → HasBoundsAtEach m c (links_at_instance m c p i) e) → HasBoundsAmong m c linked e
  linked_bounded e each j here =
      let found = list_any_at (λ i. is_member among i && list_any (λ k. k == j) (links_at_instance m c p i)) (instance_numbers c) (sym (from j) ∙ here) in
      let both = and_parts _ _ found.3 in
      let link = list_any_at (λ k. k == j) (links_at_instance m c p found.1) both.1 in
      each found.1 both.0 link.0 j (link.2 ∙ ap Some (eqb-true _ _ link.3))

  module _ (within : (i : ℕ) → IsTrue (is_member among i) → i < length c) where
    -- each link of a member leads to an instance that is linked
    link_member : (i : ℕ) → IsTrue (is_member among i) → (k j : ℕ) → slice_get (links_at_instance m c p i) k ≡ Some j → is_member linked j ≡ true
    link_member i here k j at =
        let there = slice_get_range_with_len 0 (length c) i (within i here) ∙ ap Some (zero-add i) in
        let link = list_any_from (λ k. k == j) (links_at_instance m c p i) k j at (eq-eqb j j refl) in
        from j ∙ list_any_from (λ i. is_member among i && list_any (λ k. k == j) (links_at_instance m c p i)) (instance_numbers c) i i there (and_from _ _ here link)

    module _ (e : Expr) (found : InstanceSet) (are : AreTrueAmong m c linked e found) where
      -- at a link of a member the expression is true where that link has been found
      found_member : (i : ℕ) → IsTrue (is_member among i) → (k j : ℕ) → slice_get (links_at_instance m c p i) k ≡ Some j → is_member found j ≡ is_true_at m c j e
      found_member i here k j at = are j ∙ ap (λ b. b && is_true_at m c j e) (link_member i here k j at)

      -- of a set, those all whose links have been found are those at all whose links the expression is true
      pub all_linked : (i : ℕ) → (is_member among i && list_all (is_member found) (links_at_instance m c p i))
          ≡ (is_member among i && list_all (λ j. is_true_at m c j e) (links_at_instance m c p i))
      all_linked i =
          and_same _ _ _ (λ here. list_all_same (is_member found) (λ j. is_true_at m c j e) (links_at_instance m c p i) (found_member i here))

      -- and those not all whose links are others are those at some of whose links it is true
      pub any_linked : (others : InstanceSet) → ((j : ℕ) → is_member others j ≡ (is_member linked j && not (is_member found j)))
          → (i : ℕ) → (is_member among i && list_all (is_member others) (links_at_instance m c p i))
          ≡ (is_member among i && not (list_any (λ j. is_true_at m c j e) (links_at_instance m c p i)))
      any_linked others is i =
          and_same _ _ _ (λ here.
          list_all_same (is_member others) (λ j. not (is_true_at m c j e)) (links_at_instance m c p i)
          (λ k j at. is j ∙ ap₂ (λ a b. a && not b) (link_member i here k j at) (found_member i here k j at))
          ∙ list_all_not (λ j. is_true_at m c j e) (links_at_instance m c p i))
