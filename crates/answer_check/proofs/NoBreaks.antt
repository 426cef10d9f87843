-- A spelled configuration without breaks satisfies the model, and one that satisfies it has none.
use Rattle.std.proofs.Common.{◌≡◌, ℕ, ◌+◌, ◌-◌, ◌<◌, ◌≤◌, inl, inr, ◌∙◌, ap, sym, Bool, true, false, not, ◌&&◌, ◌||◌, ◌==◌, nat_le, List, length, Some, Contains, refl, le-leb, leb-true, zero-add, arith}
use Rattle.std.specs.Prelude.{slice_get, IsTrue}
use Rattle.std.specs.List.{list_all, count_by, enumerate_from, range_with_len}
use Rattle.std.proofs.lemmas.Bool.{and_parts, and_from, cases_lt, true≢false}
use Rattle.std.proofs.lemmas.Option.{same_Some, none-some, slice_get_past, slice_get_cases}
use lib.Pointwise.{pointwise}
use Rattle.prod_model.specs.declared.model.Model.{Model}
use Rattle.prod_model.specs.declared.model.PortAt.{PortAt}
use Rattle.prod_model.specs.Limits.{is_between, most_instances}
use Rattle.prod_model.specs.Taxonomy.{attributes_at, ports_at}
use Rattle.config_value.specs.declared.configuration.Instance.{Instance}
use Rattle.config_value.specs.Value.{under, is_under, is_true_at}
use Rattle.config_value.specs.Shaped.{is_shaped, has_root, has_size, has_value, has_values, has_links_of, has_links, has_single_parts, links_back, has_links_back, has_counts, has_leaf_types, ascends, part_links, instance_numbers}
use Rattle.config_value.specs.Numbered.{is_in_turn, is_numbered}
use Rattle.config_value.specs.Satisfies.{follows_rules, satisfies}
use Rattle.config_value.specs.Spelled.{is_spelled, is_spelled_value, is_spelled_links}
use Rattle.base_laws.proofs.Ranges.{slice_get_range_with_len, range_with_len_lt, range_with_len_from, at_enumerate, enumerate_at}
use Rattle.base_laws.proofs.Elements.{contained_at, at_contained}
use Rattle.base_laws.proofs.Tests.{list_all_at, list_all_from, pointwise_at, pointwise_from, option_map_or_at, option_map_or_from}
use Rattle.config_value.proofs.Places.{is_between_at, is_between_from}
use Rattle.config_value.proofs.LinksBack.{has_links_back_at, has_links_back_from, each_links_back, links_back_each}
use Rattle.config_value.proofs.ShapedParts.{PassesEach, passes_each, is_shaped_from}
use Rattle.answer_check.specs.declared.verdict.Verdict.{Verdict}
use Rattle.answer_check.specs.declared.verdict.Verdict.TheVariants.{Satisfied, Broken}
use Rattle.answer_check.specs.Breaks.{Break, Breaks, HasPort, Tells, most_part_links, too_many, other_root, bad_value, no_instance, off_target, bad_number, shared_part, not_linked_back, misnumbered, bad_count, false_rule}
use Rattle.answer_check.specs.Codes.{turn_of}
use Rattle.answer_check.specs.steps.Finds.{HasNoBreakBelow}
use Rattle.answer_check.proofs.BadValues.{built}

-- ---- tests that fail

-- a test that fails nowhere passes
passes_unless : (b : Bool) → (b ≡ false → ⊥) → b ≡ true
passes_unless true fails = refl
passes_unless false fails = absurd (fails refl)

clash : (b : Bool) → b ≡ true → b ≡ false → ⊥
clash b holds fails = true≢false (sym holds ∙ fails)

unless_parts : (a b : Bool) → (not a || b) ≡ false → (a ≡ true) × (b ≡ false)
unless_parts a b is = (grind arith, grind arith)

unless_second : (a b : Bool) → (not a || b) ≡ true → a ≡ true → b ≡ true
unless_second a b is all = grind arith

-- what an instance's spelled links are like
spelled_links : (m : Model) (c : List Instance) (i k : ℕ) (x : Instance) (links : List ℕ) → IsTrue (is_spelled m c) → slice_get c i ≡ Some x → slice_get x.links k ≡ Some links → ascends links ≡ true
unfolding is_spelled
spelled_links m c i k x links spelled at there =
    let both = list_all_at (λ y. pointwise (is_spelled_value m) (attributes_at m y.kind) y.values && list_all is_spelled_links y.links) c (and_parts _ _ spelled).1 i x at in
    (and_parts _ _ (list_all_at is_spelled_links x.links (and_parts (pointwise (is_spelled_value m) (attributes_at m x.kind) x.values) (list_all is_spelled_links x.links) both).1 k links there)).0

-- ---- without breaks

module _ (m : Model) (c : List Instance) (spelled : IsTrue (is_spelled m c)) where
  module _ (none : HasNoBreakBelow m c 11) where
    never : (b : Break) → turn_of b.code < 11 → Breaks m c b → ⊥
    never b low broken = let least = none b broken in absurd (omega arith)

    kept_root : IsTrue (has_root m c)
    unfolding has_root
    kept_root = passes_unless (is_under m c m.root 0) (λ other. never (record { code = 2; instance = 0; item = 0 }) (omega arith) (other_root refl refl refl other))

    kept_size : IsTrue (has_size m c)
    unfolding has_size is_spelled
    kept_size =
        let some : 1 ≤ length c = (is_between_at 1 most_instances (length c) (and_parts _ _ (and_parts _ _ spelled).0).0).0 in
        elim (cases_lt m.instances (length c)) [
          | inl many ↦ absurd (never (record { code = 1; instance = m.instances; item = 0 }) (omega arith) (too_many refl refl refl many))
          | inr few ↦ is_between_from 1 m.instances (length c) (some, few)
        ]

    kept_values : IsTrue (has_values m c)
    unfolding has_values
    kept_values = list_all_from (λ x. pointwise (has_value m) (attributes_at m x.kind) x.values) c (λ i x stands.
        pointwise_from (has_value m) (attributes_at m x.kind) x.values (sym (built m c i x spelled stands).each_attribute) (λ k a v attribute value.
        passes_unless (has_value m a v) (λ bad. never (record { code = 3; instance = i; item = k }) (omega arith) (bad_value refl x a v stands attribute value bad))))

    kept_target : (i k h j : ℕ) (x : Instance) (p : PortAt) (links : List ℕ) → slice_get c i ≡ Some x → slice_get (ports_at m x.kind) k ≡ Some p → slice_get x.links k ≡ Some links
        → slice_get links h ≡ Some j → is_under m c p.target j ≡ true
    kept_target i k h j x p links stands port there link =
        let among : Contains links j = contained_at links h j link in
        elim (slice_get_cases c j).1 [
          | inl w ↦
              option_map_or_from (under m p.target) (slice_get c j) w.0 w.2 (passes_unless (under m p.target w.0) (λ off.
              never (record { code = 5; instance = i; item = k }) (omega arith)
              (off_target refl p links j w.0 (record { x = x; stands = stands; port = port; links_there = there }) among w.2 off)))
          | inr w ↦
              absurd (never (record { code = 4; instance = i; item = k }) (omega arith)
              (no_instance refl p links j (record { x = x; stands = stands; port = port; links_there = there }) among w.0))
        ]

    kept_links : IsTrue (has_links m c)
    unfolding has_links
    kept_links = list_all_from (λ x. pointwise (has_links_of m c) (ports_at m x.kind) x.links) c (λ i x stands.
        pointwise_from (has_links_of m c) (ports_at m x.kind) x.links (sym (built m c i x spelled stands).each_port) (λ k p links port there.
        and_from _ _ (and_from _ _ (spelled_links m c i k x links spelled stands there)
        (list_all_from (is_under m c p.target) links (λ h j link. kept_target i k h j x p links stands port there link)))
        (passes_unless (is_between p.low p.high (length links)) (λ wrong.
        never (record { code = 6; instance = i; item = k }) (omega arith) (bad_number refl p links (record { x = x; stands = stands; port = port; links_there = there }) wrong)))))

    kept_parts : IsTrue (has_single_parts m c)
    unfolding has_single_parts
    kept_parts = list_all_from (λ j. nat_le (count_by (λ k. k == j) (part_links m c)) (most_part_links j)) (instance_numbers c) (λ k j at.
        let within : j < length c = omega (arith, range_with_len_lt 0 (length c) k j at) in
        elim (cases_lt (most_part_links j) (count_by (λ k. k == j) (part_links m c))) [
          | inl many ↦ absurd (never (record { code = 7; instance = j; item = 0 }) (omega arith) (shared_part refl refl within many))
          | inr few ↦ le-leb _ _ few
        ])

    kept_back : IsTrue (has_links_back m c)
    kept_back = has_links_back_from m c (λ i x stands. built m c i x spelled stands) (λ i k x p links stands port there.
        each_links_back m c i p links (λ id h j inverse link.
        passes_unless (links_back m c id i j) (λ off. never (record { code = 12; instance = i; item = k }) (omega arith)
        (not_linked_back refl p links id j (record { x = x; stands = stands; port = port; links_there = there }) inverse (contained_at links h j link) off))))

    kept_counts : IsTrue (has_counts m c)
    unfolding has_counts
    kept_counts = list_all_from (λ b. is_between b.low b.high (count_by (under m b.kind) c)) m.bounds (λ k n at.
        passes_unless (is_between n.low n.high (count_by (under m n.kind) c)) (λ bad. never (record { code = 9; instance = 0; item = k }) (omega arith) (bad_count refl refl n at bad)))

    leaf_types : IsTrue (has_leaf_types m c)
    unfolding is_spelled
    leaf_types = (and_parts _ _ (and_parts _ _ spelled).0).1

    -- a spelled configuration that breaks none of the tests before the rules is shaped
    pub shaped_unbroken : IsTrue (is_shaped m c)
    shaped_unbroken = is_shaped_from m c (record {
      leaf_types = leaf_types;
      root = kept_root;
      size = kept_size;
      values = kept_values;
      links = kept_links;
      single_parts = kept_parts;
      links_back = kept_back;
      counts = kept_counts;
    })

    kept_numbers : IsTrue (is_numbered c)
    unfolding is_numbered
    kept_numbers = list_all_from (is_in_turn c) (range_with_len 1 (length c - 1)) (λ k j at.
        let high = range_with_len_from 1 (length c - 1) k j at in
        let low = range_with_len_lt 1 (length c - 1) k j at in
        passes_unless (is_in_turn c j) (λ out. never (record { code = 8; instance = j; item = 0 }) (omega arith) (misnumbered refl refl high (omega arith) out)))

  kept_rules : HasNoBreakBelow m c 12 → IsTrue (follows_rules m c)
  unfolding follows_rules
  kept_rules none = list_all_from (λ r. list_all (λ e. not (under m r.kind e.1) || is_true_at m c e.0 r.holds) (enumerate_from 0 c)) m.rules (λ k r rule.
      list_all_from (λ e. not (under m r.kind e.1) || is_true_at m c e.0 r.holds) (enumerate_from 0 c) (λ i e at.
      let first : e.0 ≡ i = (enumerate_at 0 c i e at).0 ∙ omega arith in
      let stands : slice_get c e.0 ≡ Some e.1 = ap (slice_get c) first ∙ (enumerate_at 0 c i e at).1 in
      passes_unless (not (under m r.kind e.1) || is_true_at m c e.0 r.holds) (λ wrong.
      let parts = unless_parts (under m r.kind e.1) (is_true_at m c e.0 r.holds) wrong in
      let b : Break = record { code = 10; instance = e.0; item = k } in
      let least : 12 ≤ 11 = none b (false_rule refl e.1 r stands rule parts.0 parts.1) in
      absurd (omega arith))))

  -- a spelled configuration that breaks no test satisfies the model
  pub satisfies_unbroken : HasNoBreakBelow m c 12 → IsTrue (satisfies m c)
  unfolding satisfies
  satisfies_unbroken none =
      let below : HasNoBreakBelow m c 11 = λ b broken. omega (arith, none b broken) in
      and_from _ _ (and_from _ _ (shaped_unbroken below) (kept_numbers below)) (kept_rules none)

-- ---- with a break

module _ (m : Model) (c : List Instance) (b : Break) where
  shaped_break : IsTrue (is_shaped m c) → IsTrue (is_numbered c) → IsTrue (follows_rules m c) → Breaks m c b → ⊥
  unfolding has_root has_size has_values has_links has_single_parts has_counts is_numbered follows_rules
  shaped_break shaped numbered rules broken = by_test (passes_each m c shaped) broken
    where
      links_at : PassesEach m c → (p : PortAt) (links : List ℕ) → HasPort m c b p links → has_links_of m c p links ≡ true
      links_at tests p links port =
          pointwise_at (has_links_of m c) (ports_at m port.x.kind) port.x.links
          (list_all_at (λ x. pointwise (has_links_of m c) (ports_at m x.kind) x.links) c tests.links b.instance port.x port.stands)
          b.item p links port.port port.links_there

      by_test : PassesEach m c → Breaks m c b → ⊥
      by_test tests (too_many is instance item many) =
          absurd (let size = is_between_at 1 m.instances (length c) tests.size in omega (arith, size.1))
      by_test tests (other_root is instance item other) = clash (is_under m c m.root 0) tests.root other
      by_test tests (bad_value is x a v stands attribute value bad) =
          clash (has_value m a v) (pointwise_at (has_value m) (attributes_at m x.kind) x.values
          (list_all_at (λ y. pointwise (has_value m) (attributes_at m y.kind) y.values) c tests.values b.instance x stands) b.item a v attribute value) bad
      by_test tests (no_instance is p links j port among outside) =
          let test = and_parts (ascends links && list_all (is_under m c p.target) links) (is_between p.low p.high (length links)) (links_at tests p links port) in
          let target = list_all_at (is_under m c p.target) links (and_parts (ascends links) (list_all (is_under m c p.target) links) test.0).1 among.0 j (at_contained links j among) in
          let found = option_map_or_at (under m p.target) (slice_get c j) target in
          none-some found.0 (sym (slice_get_past c j outside) ∙ found.1)
      by_test tests (off_target is p links j y port among there off) =
          let test = and_parts (ascends links && list_all (is_under m c p.target) links) (is_between p.low p.high (length links)) (links_at tests p links port) in
          let target = list_all_at (is_under m c p.target) links (and_parts (ascends links) (list_all (is_under m c p.target) links) test.0).1 among.0 j (at_contained links j among) in
          let found = option_map_or_at (under m p.target) (slice_get c j) target in
          let same : found.0 ≡ y = same_Some found.0 y (sym found.1 ∙ there) in
          clash (under m p.target y) (ap (under m p.target) (sym same) ∙ found.2) off
      by_test tests (bad_number is p links port wrong) =
          clash (is_between p.low p.high (length links)) (and_parts (ascends links && list_all (is_under m c p.target) links) (is_between p.low p.high (length links)) (links_at tests p links port)).1 wrong
      by_test tests (shared_part is item within shared) =
          let at = slice_get_range_with_len 0 (length c) b.instance within ∙ ap Some (zero-add b.instance) in
          let few = leb-true _ _ (list_all_at (λ j. nat_le (count_by (λ k. k == j) (part_links m c)) (most_part_links j)) (instance_numbers c) tests.single_parts b.instance b.instance at) in
          absurd (omega arith)
      by_test tests (not_linked_back is p links id j port inverse among off) =
          let test = has_links_back_at m c tests.links_back b.instance b.item port.x p links port.stands port.port port.links_there in
          clash (links_back m c id b.instance j) (links_back_each m c b.instance p links test id among.0 j inverse (at_contained links j among)) off
      by_test tests (misnumbered is item past within out) =
          let place : 1 + (b.instance - 1) ≡ b.instance = omega arith in
          let at = slice_get_range_with_len 1 (length c - 1) (b.instance - 1) (omega arith) ∙ ap Some place in
          clash (is_in_turn c b.instance) (list_all_at (is_in_turn c) (range_with_len 1 (length c - 1)) numbered (b.instance - 1) b.instance at) out
      by_test tests (bad_count is instance n bound bad) =
          clash (is_between n.low n.high (count_by (under m n.kind) c)) (list_all_at (λ a. is_between a.low a.high (count_by (under m a.kind) c)) m.bounds tests.counts b.item n bound) bad
      by_test tests (false_rule is x r stands rule kind wrong) =
          let each = list_all_at (λ s. list_all (λ e. not (under m s.kind e.1) || is_true_at m c e.0 s.holds) (enumerate_from 0 c)) m.rules rules b.item r rule in
          let place : 0 + b.instance ≡ b.instance = omega arith in
          let here = list_all_at (λ (e : ℕ × Instance). not (under m r.kind e.1) || is_true_at m c e.0 r.holds) (enumerate_from 0 c) each b.instance (b.instance, x)
          (at_enumerate 0 c b.instance x stands ∙ ap (λ i. Some (i, x)) place) in
          clash (is_true_at m c b.instance r.holds) (unless_second (under m r.kind x) (is_true_at m c b.instance r.holds) here kind) wrong

-- what satisfies the model breaks no test
pub satisfied_unbroken : (m : Model) (c : List Instance) (b : Break) → IsTrue (satisfies m c) → Breaks m c b → ⊥
unfolding satisfies
satisfied_unbroken m c b all broken =
    let both = and_parts _ _ all in
    let first = and_parts _ _ both.0 in
    shaped_break m c b first.0 first.1 both.1 broken

-- where a break is told, the model isn't satisfied
pub told_unsatisfied : (m : Model) (c : List Instance) (v : Verdict) → (v ≡ Satisfied → ⊥) → Tells m c v → IsTrue (satisfies m c) → ⊥
told_unsatisfied m c Satisfied told first all = told refl
told_unsatisfied m c (Broken code instance item) told first all = satisfied_unbroken m c (record { code = code; instance = instance; item = item }) all first.is
