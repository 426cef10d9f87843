-- What makes the instances of a configuration numbered in order, by their first mentions.
use Rattle.std.specs.Prelude.{◌≡◌, ◌≢◌, ◌↔◌, ℕ, suc, ◌<◌, ◌≤◌, IsTrue, List, length}
use Rattle.config_value.specs.declared.configuration.Instance.{Instance}
use Rattle.config_value.specs.Numbered.{is_numbered}
use Rattle.config_value.specs.Links.{LinkPlace, IsLinkBefore, IsFirstMention}

-- instance j is first mentioned by a lower one, and, but for instance 1, after the first mention of
-- the instance numbered one less
pub record IsInOrder (c : List Instance) (j : ℕ) : Type 0 where
  pub mention : LinkPlace
  pub first : IsFirstMention c j mention
  pub lower : mention.from < j
  pub after : (i : ℕ) → suc i ≡ j → i ≢ 0
      → (before : LinkPlace) × IsFirstMention c i before × IsLinkBefore before mention

-- Instances are numbered in order exactly where each from 1 on is in order.
abbrev pub NumberedSentences : Type 0
NumberedSentences =
    (c : List Instance) → IsTrue (is_numbered c) ↔ ((j : ℕ) → 1 ≤ j → j < length c → IsInOrder c j)
