-- Names and words: their form, and when two are the same.
use Rattle.std.specs.Prelude.{ℕ, Bool, true, false, not, ◌&&◌, ◌||◌, ◌==◌, nat_le, nat_eq, List, [], ◌∷◌, length}
use Rattle.std.specs.List.{list_any, list_all}
use lib.Pointwise.{pointwise}

-- an ASCII letter
abbrev pub is_letter : ℕ → Bool
is_letter b = (nat_le 65 b && nat_le b 90) || (nat_le 97 b && nat_le b 122)

-- a decimal digit
abbrev pub is_digit : ℕ → Bool
is_digit b = nat_le 48 b && nat_le b 57

-- a letter, a digit, `_` or `-`
abbrev pub is_name_byte : ℕ → Bool
is_name_byte b = is_letter b || is_digit b || (b == 95) || (b == 45)

-- a letter, a digit, `_`, `-` or `.`
abbrev pub is_word_byte : ℕ → Bool
is_word_byte b = is_name_byte b || (b == 46)

-- the first byte is a letter
abbrev pub begins_with_letter : List ℕ → Bool
begins_with_letter [] = false
begins_with_letter (b ∷ bs) = is_letter b

-- a name: 1 to 32 bytes, a letter first, and then letters, digits, `_` or `-`
unfoldable pub is_name : List ℕ → Bool
is_name bytes = nat_le (length bytes) 32 && begins_with_letter bytes && list_all is_name_byte bytes

-- a word: 1 to 32 letters, digits, `_`, `-` or `.`
unfoldable pub is_word : List ℕ → Bool
is_word bytes = nat_le 1 (length bytes) && nat_le (length bytes) 32 && list_all is_word_byte bytes

-- the same bytes in the same order
abbrev pub same_text : List ℕ → List ℕ → Bool
same_text = pointwise nat_eq

-- none of the texts stands twice
abbrev pub is_distinct : List (List ℕ) → Bool
is_distinct [] = true
is_distinct (n ∷ ns) = not (list_any (same_text n) ns) && is_distinct ns

-- none of the numbers stands twice
abbrev pub is_distinct_number : List ℕ → Bool
is_distinct_number [] = true
is_distinct_number (n ∷ ns) = not (list_any (λ k. n == k) ns) && is_distinct_number ns
