-- The sets of those seen find the instances that too many part links lead to.
use Rattle.std.proofs.Common.{◌≡◌, ℕ, ◌<◌, ◌∙◌, sym, true, false, List, length, Some, refl, ltb-true, lt-ltb, arith}
use Rattle.prod_model.specs.declared.model.Model.{Model}
use Rattle.config_value.specs.declared.configuration.Instance.{Instance}
use Rattle.config_value.specs.Shaped.{part_links}
use Rattle.answer_check.specs.declared.parts.Seen.{Seen}
use Rattle.answer_check.specs.Breaks.{shared_part}
use Rattle.answer_check.specs.steps.Finds.{BreaksAt, FindsItem}
use Rattle.answer_check.specs.steps.Seen.{HasSeen, is_overfull}
use Rattle.answer_check.proofs.BreakParts.{shared_part_parts}
use Rattle.answer_check.proofs.SeenParts.{overfull}

module _ (m : Model) (c : List Instance) (s : Seen) (seen : HasSeen s (part_links m c)) (j : ℕ) (low : j < 256) where
  pub shared_found : j < length c → is_overfull s j ≡ true → FindsItem (BreaksAt m c 7 j) (Some 0)
  shared_found within full = (shared_part refl refl within (ltb-true _ _ (sym (overfull s (part_links m c) j seen low) ∙ full)), λ k below broken. omega arith)

  pub shared_none : is_overfull s j ≡ false → (k : ℕ) → BreaksAt m c 7 j k → ⊥
  shared_none room k broken =
      let parts = shared_part_parts m c 7 j k refl broken in
      let full = overfull s (part_links m c) j seen low ∙ lt-ltb _ _ parts.2 in
      absurd cc

pub shared_within : (m : Model) (c : List Instance) (i k : ℕ) → BreaksAt m c 7 i k → i < length c
shared_within m c i k broken = (shared_part_parts m c 7 i k refl broken).1
