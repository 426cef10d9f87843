-- The first place that has P, while items are gone over one by one, each at the instances below the lowest one found.
use Rattle.std.proofs.Common.{◌≡◌, ℕ, ◌+◌, ◌<◌, ◌≤◌, ◌∙◌, sym, subst, refl, Bool, true, false, not, ◌&&◌, nat_lt, List, length, Option, Some, None, inl, inr, ltb-true, arith}
use Rattle.std.specs.Prelude.{MatchOption, IsTrue, slice_get}
use Rattle.std.proofs.lemmas.Bool.{cases_lt, and_parts, false≢true, lt-ltb}
use Rattle.instance_set.specs.declared.set.InstanceSet.{InstanceSet}
use Rattle.instance_set.specs.InstanceSets.{is_member, IsLeastFrom}
use Rattle.prod_model.specs.declared.model.Model.{Model}
use Rattle.prod_model.specs.declared.model.Rule.{Rule}
use Rattle.config_value.specs.declared.configuration.Instance.{Instance}
use Rattle.config_value.specs.Value.{is_under, is_true_at}
use Rattle.answer_check.specs.declared.place.Place.{Place}
use Rattle.answer_check.specs.steps.Finds.{BreaksAt, FindsItem, FindsPlace}
use Rattle.answer_check.proofs.FaultlessLaws.{rule_broken, rule_broken_parts}
use Rattle.answer_check.proofs.Items.{finds_same}

module _ (P : ℕ → ℕ → Type 0) (n : ℕ) where
  -- what is known of the first place among so many items, where all places are at the first n instances
  pub record IsFirstSoFar (items : ℕ) (first : Option Place) (below : ℕ) : Type 0 where
    pub within : below ≤ n
    pub none_lower : (i k : ℕ) → i < below → k < items → P i k → ⊥
    pub found : MatchOption first (below ≡ n) (λ p. (p.instance ≡ below) × P p.instance p.item × ((k : ℕ) → k < p.item → P p.instance k → ⊥))

  -- the first instance below these that has P with an item
  abbrev pub FindsBelow : ℕ → ℕ → Option ℕ → Type 0
  FindsBelow below k = FindsItem (λ i. (i < below) × P i k)

  pub first_found : (items : ℕ) (first : Option Place) (below i : ℕ) → IsFirstSoFar items first below → FindsBelow below items (Some i)
      → IsFirstSoFar (items + 1) (Some (record { instance = i; item = items })) i
  first_found items first below i so_far here = record {
    within = (let low = here.0.0 in let most = so_far.within in omega arith);
    none_lower = λ j k lower item has. elim (cases_lt k items) [
      | inl earlier ↦ so_far.none_lower j k (let low = here.0.0 in omega arith) earlier has
      | inr last ↦ (let Has : ℕ → Type 0 = λ l. P j l in let same : k ≡ items = omega arith in
          here.1 j lower ((let low = here.0.0 in omega arith), subst Has same has))
    ];
    found = (refl, here.0.1, λ k earlier has. so_far.none_lower i k here.0.0 earlier has);
  }

  pub first_kept : (items : ℕ) (first : Option Place) (below : ℕ) → IsFirstSoFar items first below → FindsBelow below items None → IsFirstSoFar (items + 1) first below
  first_kept items first below so_far none = record {
    within = so_far.within;
    none_lower = λ j k lower item has. elim (cases_lt k items) [
      | inl earlier ↦ so_far.none_lower j k lower earlier has
      | inr last ↦ (let Has : ℕ → Type 0 = λ l. P j l in let same : k ≡ items = omega arith in none j (lower, subst Has same has))
    ];
    found = so_far.found;
  }

  pub first_end : (items : ℕ) (first : Option Place) (below : ℕ) → IsFirstSoFar items first below → ((i k : ℕ) → P i k → (i < n) × (k < items)) → FindsPlace P first
  first_end items None below so_far all = λ i k has. so_far.none_lower i k (let e = so_far.found in let at = (all i k has).0 in omega arith) (all i k has).1 has
  first_end items (Some p) below so_far all = record {
    here = so_far.found.1;
    none_lower = λ i k lower has. so_far.none_lower i k (let e = so_far.found.0 in omega arith) (all i k has).1 has;
    none_before = so_far.found.2;
  }

-- ---- rules

-- the least member of a set
least_found : (s : InstanceSet) (o : Option ℕ) → IsLeastFrom s 0 o → FindsItem (λ i. IsTrue (is_member s i)) o
least_found s None none = λ i. none i (omega arith)
least_found s (Some j) least = (least.1, λ i. least.2 i (omega arith))

-- the first instance below these at which a rule is false, by the set of those
pub rule_finds : (m : Model) (c : List Instance) (k : ℕ) (r : Rule) (below : ℕ) (s : InstanceSet) (o : Option ℕ) → slice_get m.rules k ≡ Some r
    → ((i : ℕ) → is_member s i ≡ ((nat_lt i below && is_under m c r.kind i) && not (is_true_at m c i r.holds)))
    → IsLeastFrom s 0 o → FindsBelow (BreaksAt m c 10) (length c) below k o
rule_finds m c k r below s o rule is least =
    finds_same (λ i. IsTrue (is_member s i)) (λ i. (i < below) × BreaksAt m c 10 i k) o
    (λ i member.
    let all : ((nat_lt i below && is_under m c r.kind i) && not (is_true_at m c i r.holds)) ≡ true = sym (is i) ∙ member in
    let both = and_parts (nat_lt i below && is_under m c r.kind i) (not (is_true_at m c i r.holds)) all in
    let each = and_parts (nat_lt i below) (is_under m c r.kind i) both.0 in
    (ltb-true i below each.0, rule_broken m c i k r rule each.1 (not_false (is_true_at m c i r.holds) both.1)))
    (λ i broken.
    let parts = rule_broken_parts m c i k r rule broken.1 in
    is i ∙ all_three (nat_lt i below) (is_under m c r.kind i) (is_true_at m c i r.holds) (lt-ltb i below broken.0) parts.0 parts.1)
    (least_found s o least)
  where
    not_false : (b : Bool) → not b ≡ true → b ≡ false
    not_false true fails = absurd (false≢true fails)
    not_false false holds = refl

    all_three : (a b d : Bool) → a ≡ true → b ≡ true → d ≡ false → ((a && b) && not d) ≡ true
    all_three a b d is_a is_b is_d = grind arith
