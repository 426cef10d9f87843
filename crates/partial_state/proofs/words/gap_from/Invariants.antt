use Rattle.std.proofs.Common.{ℕ, ◌<◌, ◌≤◌}
use Rattle.std.specs.Prelude.{IsTrue}
use Rattle.domain_store.specs.Words.{has_word}
use Rattle.partial_state.proofs.words.gap_from.Given as goal

-- the words from the first on, so far, are there
abbrev pub invariant-loop-word : goal.invariant-loop-word
invariant-loop-word l = (k : ℕ) → l.initial.word ≤ k → k < l.word → IsTrue (has_word l.words k)
