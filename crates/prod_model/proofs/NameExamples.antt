-- Which bytes are names and which are words, computed.
use Rattle.std.specs.Prelude.{◌≡◌, true, false, [], ◌∷◌, codes, map, replicate, refl}
use Rattle.prod_model.specs.Names.{is_name, is_word, same_text, is_distinct, is_distinct_number}

-- A letter first, then letters, digits, `_` and `-`, 32 of them at most.
names : map is_name (codes "a" ∷ codes "Z9_-z" ∷ codes "A-" ∷ replicate 32 97 ∷ []) ≡ true ∷ true ∷ true ∷ true ∷ []
unfolding is_name
names = refl

-- No name: nothing, one that begins with a digit, with `_` or with `-`, one with a `.` or a space, one of 33 bytes, and a letter that isn't ASCII.
no_names : map is_name ([] ∷ codes "9a" ∷ codes "_a" ∷ codes "-a" ∷ codes "a.b" ∷ codes "a b" ∷ replicate 33 97 ∷ (97 ∷ 195 ∷ 169 ∷ []) ∷ (195 ∷ 169 ∷ []) ∷ [])
    ≡ replicate 9 false
unfolding is_name
no_names = refl

-- The bytes right beside the letters and the digits are none.
beside_letters : map (λ b. is_name (b ∷ [])) (64 ∷ 65 ∷ 90 ∷ 91 ∷ 96 ∷ 97 ∷ 122 ∷ 123 ∷ []) ≡ false ∷ true ∷ true ∷ false ∷ false ∷ true ∷ true ∷ false ∷ []
unfolding is_name
beside_letters = refl

beside_digits : map (λ b. is_name (97 ∷ b ∷ [])) (44 ∷ 45 ∷ 46 ∷ 47 ∷ 48 ∷ 57 ∷ 58 ∷ 94 ∷ 95 ∷ []) ≡ false ∷ true ∷ false ∷ false ∷ true ∷ true ∷ false ∷ false ∷ true ∷ []
unfolding is_name
beside_digits = refl

-- A word may begin with any of its bytes, and `.` is one of them.
words : map is_word (codes "a" ∷ codes "9" ∷ codes "." ∷ codes "-" ∷ codes "_" ∷ codes "v1.2-b_C" ∷ replicate 32 46 ∷ []) ≡ replicate 7 true
unfolding is_word
words = refl

-- No word: nothing, one with a space or a `/`, one of 33 bytes, and a letter that isn't ASCII.
no_words : map is_word ([] ∷ codes "a b" ∷ codes "a/b" ∷ replicate 33 97 ∷ (195 ∷ 169 ∷ []) ∷ []) ≡ replicate 5 false
unfolding is_word
no_words = refl

beside_word_bytes : map (λ b. is_word (b ∷ [])) (44 ∷ 45 ∷ 46 ∷ 47 ∷ 48 ∷ 57 ∷ 58 ∷ 64 ∷ 65 ∷ 90 ∷ 91 ∷ 94 ∷ 95 ∷ 96 ∷ 97 ∷ 122 ∷ 123 ∷ [])
    ≡ false ∷ true ∷ true ∷ false ∷ true ∷ true ∷ false ∷ false ∷ true ∷ true ∷ false ∷ false ∷ true ∷ false ∷ true ∷ true ∷ false ∷ []
unfolding is_word
beside_word_bytes = refl

-- Case counts, and so do order and length.
same_texts : map (same_text (codes "ab")) (codes "ab" ∷ codes "Ab" ∷ codes "ba" ∷ codes "a" ∷ codes "abc" ∷ [] ∷ []) ≡ true ∷ false ∷ false ∷ false ∷ false ∷ false ∷ []
same_texts = refl

-- Texts are distinct where none stands twice, also far apart.
distinct : map is_distinct ([] ∷ (codes "a" ∷ []) ∷ (codes "a" ∷ codes "A" ∷ codes "ab" ∷ []) ∷ (codes "a" ∷ codes "b" ∷ codes "a" ∷ []) ∷ (codes "b" ∷ codes "a" ∷ codes "a" ∷ []) ∷ [])
    ≡ true ∷ true ∷ true ∷ false ∷ false ∷ []
distinct = refl

distinct_numbers : map is_distinct_number ([] ∷ (1 ∷ []) ∷ (1 ∷ 2 ∷ 0 ∷ []) ∷ (1 ∷ 2 ∷ 1 ∷ []) ∷ (2 ∷ 1 ∷ 1 ∷ []) ∷ []) ≡ true ∷ true ∷ true ∷ false ∷ false ∷ []
distinct_numbers = refl
