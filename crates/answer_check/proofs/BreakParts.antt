-- What each broken test says, by its number.
use Rattle.std.proofs.Common.{◌≡◌, ℕ, ◌<◌, ◌≤◌, ◌==◌, List, length, arith}
use Rattle.std.specs.Prelude.{IsTrue, IsFalse}
use Rattle.std.specs.List.{count_by}
use Rattle.prod_model.specs.declared.model.Model.{Model}
use Rattle.prod_model.specs.declared.model.CountBound.{CountBound}
use Rattle.prod_model.specs.declared.model.Rule.{Rule}
use Rattle.prod_model.specs.Limits.{is_between}
use Rattle.config_value.specs.declared.configuration.Instance.{Instance}
use Rattle.config_value.specs.Value.{under, is_under, is_true_at}
use Rattle.config_value.specs.Shaped.{part_links}
use Rattle.config_value.specs.Numbered.{is_in_turn}
use Rattle.base_laws.specs.Places.{IsAt}
use Rattle.answer_check.specs.Breaks.{most_part_links, too_many, other_root, bad_value, no_instance, off_target, bad_number, shared_part, not_linked_back, misnumbered, bad_count, false_rule}
use Rattle.answer_check.specs.steps.Finds.{BreaksAt}

module _ (m : Model) (c : List Instance) (code i k : ℕ) where
  pub too_many_parts : code ≡ 1 → BreaksAt m c code i k → (i ≡ m.instances) × (k ≡ 0) × (m.instances < length c)
  too_many_parts here (too_many is instance item many) = (instance, item, many)
  too_many_parts here (other_root is _ _ _) = absurd (omega arith)
  too_many_parts here (bad_value is _ _ _ _ _ _ _) = absurd (omega arith)
  too_many_parts here (no_instance is _ _ _ _ _ _) = absurd (omega arith)
  too_many_parts here (off_target is _ _ _ _ _ _ _ _) = absurd (omega arith)
  too_many_parts here (bad_number is _ _ _ _) = absurd (omega arith)
  too_many_parts here (shared_part is _ _ _) = absurd (omega arith)
  too_many_parts here (not_linked_back is _ _ _ _ _ _ _ _) = absurd (omega arith)
  too_many_parts here (misnumbered is _ _ _ _) = absurd (omega arith)
  too_many_parts here (bad_count is _ _ _ _) = absurd (omega arith)
  too_many_parts here (false_rule is _ _ _ _ _ _) = absurd (omega arith)

  pub other_root_parts : code ≡ 2 → BreaksAt m c code i k → (i ≡ 0) × (k ≡ 0) × IsFalse (is_under m c m.root 0)
  other_root_parts here (other_root is instance item other) = (instance, item, other)
  other_root_parts here (too_many is _ _ _) = absurd (omega arith)
  other_root_parts here (bad_value is _ _ _ _ _ _ _) = absurd (omega arith)
  other_root_parts here (no_instance is _ _ _ _ _ _) = absurd (omega arith)
  other_root_parts here (off_target is _ _ _ _ _ _ _ _) = absurd (omega arith)
  other_root_parts here (bad_number is _ _ _ _) = absurd (omega arith)
  other_root_parts here (shared_part is _ _ _) = absurd (omega arith)
  other_root_parts here (not_linked_back is _ _ _ _ _ _ _ _) = absurd (omega arith)
  other_root_parts here (misnumbered is _ _ _ _) = absurd (omega arith)
  other_root_parts here (bad_count is _ _ _ _) = absurd (omega arith)
  other_root_parts here (false_rule is _ _ _ _ _ _) = absurd (omega arith)

  pub shared_part_parts : code ≡ 7 → BreaksAt m c code i k → (k ≡ 0) × (i < length c) × (most_part_links i < count_by (λ j. j == i) (part_links m c))
  shared_part_parts here (shared_part is item within shared) = (item, within, shared)
  shared_part_parts here (not_linked_back is _ _ _ _ _ _ _ _) = absurd (omega arith)
  shared_part_parts here (too_many is _ _ _) = absurd (omega arith)
  shared_part_parts here (other_root is _ _ _) = absurd (omega arith)
  shared_part_parts here (bad_value is _ _ _ _ _ _ _) = absurd (omega arith)
  shared_part_parts here (no_instance is _ _ _ _ _ _) = absurd (omega arith)
  shared_part_parts here (off_target is _ _ _ _ _ _ _ _) = absurd (omega arith)
  shared_part_parts here (bad_number is _ _ _ _) = absurd (omega arith)
  shared_part_parts here (misnumbered is _ _ _ _) = absurd (omega arith)
  shared_part_parts here (bad_count is _ _ _ _) = absurd (omega arith)
  shared_part_parts here (false_rule is _ _ _ _ _ _) = absurd (omega arith)

  pub misnumbered_parts : code ≡ 8 → BreaksAt m c code i k → (k ≡ 0) × (1 ≤ i) × (i < length c) × IsFalse (is_in_turn c i)
  misnumbered_parts here (misnumbered is item past within out) = (item, past, within, out)
  misnumbered_parts here (too_many is _ _ _) = absurd (omega arith)
  misnumbered_parts here (other_root is _ _ _) = absurd (omega arith)
  misnumbered_parts here (bad_value is _ _ _ _ _ _ _) = absurd (omega arith)
  misnumbered_parts here (no_instance is _ _ _ _ _ _) = absurd (omega arith)
  misnumbered_parts here (off_target is _ _ _ _ _ _ _ _) = absurd (omega arith)
  misnumbered_parts here (bad_number is _ _ _ _) = absurd (omega arith)
  misnumbered_parts here (shared_part is _ _ _) = absurd (omega arith)
  misnumbered_parts here (not_linked_back is _ _ _ _ _ _ _ _) = absurd (omega arith)
  misnumbered_parts here (bad_count is _ _ _ _) = absurd (omega arith)
  misnumbered_parts here (false_rule is _ _ _ _ _ _) = absurd (omega arith)

  pub bad_count_parts : code ≡ 9 → BreaksAt m c code i k → (i ≡ 0) × (n : CountBound) × IsAt m.bounds k n × IsFalse (is_between n.low n.high (count_by (under m n.kind) c))
  bad_count_parts here (bad_count is instance n bound bad) = (instance, n, bound, bad)
  bad_count_parts here (too_many is _ _ _) = absurd (omega arith)
  bad_count_parts here (other_root is _ _ _) = absurd (omega arith)
  bad_count_parts here (bad_value is _ _ _ _ _ _ _) = absurd (omega arith)
  bad_count_parts here (no_instance is _ _ _ _ _ _) = absurd (omega arith)
  bad_count_parts here (off_target is _ _ _ _ _ _ _ _) = absurd (omega arith)
  bad_count_parts here (bad_number is _ _ _ _) = absurd (omega arith)
  bad_count_parts here (shared_part is _ _ _) = absurd (omega arith)
  bad_count_parts here (not_linked_back is _ _ _ _ _ _ _ _) = absurd (omega arith)
  bad_count_parts here (misnumbered is _ _ _ _) = absurd (omega arith)
  bad_count_parts here (false_rule is _ _ _ _ _ _) = absurd (omega arith)

  pub false_rule_parts : code ≡ 10 → BreaksAt m c code i k → (x : Instance) × (r : Rule) × IsAt c i x × IsAt m.rules k r × IsTrue (under m r.kind x) × IsFalse (is_true_at m c i r.holds)
  false_rule_parts here (false_rule is x r stands rule kind wrong) = (x, r, stands, rule, kind, wrong)
  false_rule_parts here (too_many is _ _ _) = absurd (omega arith)
  false_rule_parts here (other_root is _ _ _) = absurd (omega arith)
  false_rule_parts here (bad_value is _ _ _ _ _ _ _) = absurd (omega arith)
  false_rule_parts here (no_instance is _ _ _ _ _ _) = absurd (omega arith)
  false_rule_parts here (off_target is _ _ _ _ _ _ _ _) = absurd (omega arith)
  false_rule_parts here (bad_number is _ _ _ _) = absurd (omega arith)
  false_rule_parts here (shared_part is _ _ _) = absurd (omega arith)
  false_rule_parts here (not_linked_back is _ _ _ _ _ _ _ _) = absurd (omega arith)
  false_rule_parts here (misnumbered is _ _ _ _) = absurd (omega arith)
  false_rule_parts here (bad_count is _ _ _ _) = absurd (omega arith)
