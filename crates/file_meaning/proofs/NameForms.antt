-- Names and words have 1 to 32 bytes.
use Rattle.std.proofs.Common.{◌≡◌, ℕ, ◌≤◌, true, List, [], ◌∷◌, length, arith}
use Rattle.std.proofs.lemmas.Bool.{false≢true, and_parts, leb-true}
use Rattle.prod_model.specs.Names.{is_name, is_word}

pub name_some : (name : List ℕ) → is_name name ≡ true → 1 ≤ length name
unfolding is_name
name_some [] is = absurd (false≢true is)
name_some (b ∷ bs) is = omega arith

pub name_short : (name : List ℕ) → is_name name ≡ true → length name ≤ 32
unfolding is_name
name_short name is = leb-true _ _ (and_parts _ _ (and_parts _ _ is).0).0

pub word_some : (word : List ℕ) → is_word word ≡ true → 1 ≤ length word
unfolding is_word
word_some word is = leb-true _ _ (and_parts _ _ (and_parts _ _ is).0).0

pub word_short : (word : List ℕ) → is_word word ≡ true → length word ≤ 32
unfolding is_word
word_short word is = leb-true _ _ (and_parts _ _ (and_parts _ _ is).0).1
