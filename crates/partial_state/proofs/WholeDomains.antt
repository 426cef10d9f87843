-- The whole domain of a declaration.
use Rattle.std.proofs.Common.{ℕ, ◌≤◌, ◌≤ℤ◌, ℤ, ◌&&◌, List, length, arith}
use Rattle.std.specs.Prelude.{IsTrue, int_le}
use Rattle.std.proofs.lemmas.Int.{ints}
use Rattle.std.proofs.lemmas.Bool.{and_parts}
use Rattle.prod_model.specs.declared.model.Domain.TheVariants.{Range, Words}
use Rattle.prod_model.specs.Limits.{is_within, is_between, farthest_end, most_words}
use Rattle.prod_model.specs.Valid.{has_ends}
use Rattle.config_value.proofs.Places.{is_between_at}
use Rattle.partial_state.specs.steps.NewRows.{is_formed}

-- the ends are in order
pub ends_ordered : (low high : ℤ) → IsTrue (is_formed (Range low high)) → low ≤ℤ high
ends_ordered low high formed =
    let ends = and_parts (is_within farthest_end low && is_within farthest_end high) (int_le low high) (and_parts _ _ formed).0 in
    let ordered = ends.1 in grind (arith, ints, ordered)

-- there are 1 to 64 words
pub words_between : (words : List (List ℕ)) → IsTrue (is_formed (Words words)) → (1 ≤ length words) × (length words ≤ 64)
words_between words formed = is_between_at 1 most_words (length words) (and_parts (has_ends (Words words)) (is_between 1 most_words (length words)) formed).1
