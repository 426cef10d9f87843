-- The links of a port at the instances of a set.
use Rattle.std.proofs.Common.{◌≡◌, ℕ, zero, suc, ◌+◌, ◌-◌, ◌<◌, ◌≤◌, ◌∙◌, ap, ap₂, sym, Bool, true, false, ◌&&◌, ◌||◌, ◌==◌, nat_lt, List, [], ◌∷◌, length, Option, Some, None, refl, inl, inr, zero-add, arith}
use Rattle.std.specs.Prelude.{IsTrue, slice_get, slice_index_or}
use Rattle.std.specs.Option.{option_map_or}
use Rattle.std.specs.List.{list_all, list_any, position, range_with_len}
use Rattle.std.proofs.Math.Bool.{or-false}
use Rattle.std.proofs.lemmas.Bool.{and_parts, and_from, and_left, and_right, cases_lt, false_from_ne_true}
use Rattle.std.proofs.lemmas.Bool.Decides.{nat_tests}
use Rattle.std.proofs.lemmas.Option.{slice_get_past}
use Rattle.instance_set.specs.declared.set.InstanceSet.{InstanceSet}
use Rattle.instance_set.specs.InstanceSets.{is_member, IsLeastFrom}
use Rattle.prod_model.specs.Limits.{most_instances}
use Rattle.prod_model.specs.declared.model.Model.{Model}
use Rattle.prod_model.specs.Taxonomy.{attributes_at, ports_at}
use Rattle.config_value.specs.declared.configuration.Instance.{Instance}
use Rattle.config_value.specs.Spelled.{is_spelled, is_spelled_value, is_spelled_links}
use Rattle.config_value.specs.Shaped.{ascends, instance_numbers}
use Rattle.config_value.specs.Value.{links_of, links_at_instance}
use Rattle.base_laws.proofs.Tests.{list_all_at}
use lib.Pointwise.{pointwise}

-- ---- links are low

-- all links are below a number
abbrev are_below : ℕ → List ℕ → Bool
are_below n links = list_all (λ j. nat_lt j n) links

-- the greatest number of instances has room in a set
are_low : (links : List ℕ) → are_below most_instances links ≡ true → are_below 256 links ≡ true
are_low [] all = refl
are_low (j ∷ links) all =
    let parts = and_parts (nat_lt j most_instances) (are_below most_instances links) all in
    let here : nat_lt j 256 ≡ true = (let low = parts.0 in grind (arith, nat_tests)) in
    and_from _ _ here (are_low links parts.1)

index_low : (ports : List (List ℕ)) (k : ℕ) → list_all is_spelled_links ports ≡ true → are_below 256 (slice_index_or ports k []) ≡ true
index_low [] k all = refl
index_low (links ∷ ports) zero all = are_low links (and_parts (ascends links) (are_below most_instances links) (and_parts (is_spelled_links links) (list_all is_spelled_links ports) all).0).1
index_low (links ∷ ports) (suc k) all = index_low ports k (and_parts (is_spelled_links links) (list_all is_spelled_links ports) all).1

place_low : (ports : List (List ℕ)) (o : Option ℕ) → list_all is_spelled_links ports ≡ true → are_below 256 (option_map_or (λ k. slice_index_or ports k []) o []) ≡ true
place_low ports None all = refl
place_low ports (Some k) all = index_low ports k all

module _ (m : Model) (c : List Instance) (spelled : IsTrue (is_spelled m c)) (port : ℕ) where
  pub links_low : (i : ℕ) → are_below 256 (links_at_instance m c port i) ≡ true
  unfolding is_spelled
  links_low i = by (slice_get c i) refl
    where
      by : (o : Option Instance) → slice_get c i ≡ o → are_below 256 (option_map_or (λ x. links_of m x port) o []) ≡ true
      by None none = refl
      by (Some x) stands =
          let both = list_all_at (λ y. pointwise (is_spelled_value m) (attributes_at m y.kind) y.values && list_all is_spelled_links y.links) c (and_parts _ _ spelled).1 i x stands in
          place_low x.links (position (λ p. p.id == port) (ports_at m x.kind)) (and_parts (pointwise (is_spelled_value m) (attributes_at m x.kind) x.values) (list_all is_spelled_links x.links) both).1

-- ---- the instances that pass in a range

any_range_next : (p : ℕ → Bool) (a n : ℕ) → list_any p (range_with_len a (n + 1)) ≡ (list_any p (range_with_len a n) || p (a + n))
any_range_next p a zero = let e : a + 0 ≡ a = omega arith in rw e (grind arith)
any_range_next p a (suc n) =
    let e : (a + 1) + n ≡ a + suc n = omega arith in
    let rest : list_any p (range_with_len (a + 1) (n + 1)) ≡ (list_any p (range_with_len (a + 1) n) || p (a + suc n)) =
    any_range_next p (a + 1) n ∙ ap (λ k. list_any p (range_with_len (a + 1) n) || p k) e in
    grind (arith, rest)

-- one more number that passes or not
any_next : (p : ℕ → Bool) (n : ℕ) → list_any p (range_with_len 0 (n + 1)) ≡ (list_any p (range_with_len 0 n) || p n)
any_next p n = any_range_next p 0 n ∙ ap (λ k. list_any p (range_with_len 0 n) || p k) (zero-add n)

any_skip : (p : ℕ → Bool) (a n : ℕ) → ((k : ℕ) → a ≤ k → k < a + n → p k ≡ false) → list_any p (range_with_len 0 (a + n)) ≡ list_any p (range_with_len 0 a)
any_skip p a zero none = ap (λ m. list_any p (range_with_len 0 m)) (omega arith)
any_skip p a (suc n) none =
    ap (λ m. list_any p (range_with_len 0 m)) (omega arith)
    ∙ any_next p (a + n)
    ∙ ap₂ (λ x y. x || y) (any_skip p a n (λ k later lower. none k later (omega arith))) (none (a + n) (omega arith) (omega arith))
    ∙ or-false _

-- more numbers, of which none passes
any_until : (p : ℕ → Bool) (a b : ℕ) → a ≤ b → ((k : ℕ) → a ≤ k → k < b → p k ≡ false) → list_any p (range_with_len 0 b) ≡ list_any p (range_with_len 0 a)
any_until p a b low none =
    ap (λ m. list_any p (range_with_len 0 m)) (omega arith)
    ∙ any_skip p a (b - a) (λ k later lower. none k later (omega arith))

-- ---- a loop over the members of a set

-- a port links the instance from this member
abbrev pub is_linked_by : Model → List Instance → ℕ → InstanceSet → ℕ → ℕ → Bool
is_linked_by m c port among j i = is_member among i && list_any (λ k. k == j) (links_at_instance m c port i)

-- those linked from the members below a number
abbrev pub HasLinkedBelow : Model → List Instance → ℕ → InstanceSet → ℕ → InstanceSet → Type 0
HasLinkedBelow m c port among from linked = (j : ℕ) → is_member linked j ≡ list_any (is_linked_by m c port among j) (range_with_len 0 from)

module _ (m : Model) (c : List Instance) (port : ℕ) (among linked : InstanceSet) (from : ℕ) (so_far : HasLinkedBelow m c port among from linked) where
  -- one more member, whose links are added
  pub linked_next : (i : ℕ) (next : InstanceSet) → IsLeastFrom among from (Some i)
      → ((j : ℕ) → is_member next j ≡ (is_member linked j || list_any (λ k. k == j) (links_at_instance m c port i))) → HasLinkedBelow m c port among (i + 1) next
  linked_next i next least more j =
      let p = is_linked_by m c port among j in
      more j
      ∙ ap₂ (λ a b. a || b)
      (so_far j ∙ sym (any_until p from i least.0 (λ k later lower. and_left _ _ (false_from_ne_true _ (least.2 k later lower)))))
      (ap (λ b. b && list_any (λ k. k == j) (links_at_instance m c port i)) (sym least.1))
      ∙ sym (any_next p i)

  -- no instance past the last one links any
  past : (j k : ℕ) → length c ≤ k → is_linked_by m c port among j k ≡ false
  past j k outside = and_right _ _ (ap (λ o. list_any (λ n. n == j) (option_map_or (λ x. links_of m x port) o [])) (slice_get_past c k outside))

  pub linked_all : IsLeastFrom among from None → (j : ℕ) → is_member linked j ≡ list_any (is_linked_by m c port among j) (instance_numbers c)
  linked_all none j =
      let p = is_linked_by m c port among j in
      so_far j ∙ elim (cases_lt from (length c)) [
        | inl within ↦ sym (any_until p from (length c) (omega arith) (λ k later lower. and_left _ _ (false_from_ne_true _ (none k later))))
        | inr outside ↦ any_until p (length c) from outside (λ k later lower. past j k later)
      ]
