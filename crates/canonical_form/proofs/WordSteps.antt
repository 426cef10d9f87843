-- Looking up the word that bytes begin with.
use Rattle.std.proofs.Common.{◌≡◌, ℕ, ℤ, pos, negsuc, zero, suc, ◌<◌, false, List, [], ◌∷◌, ◌++◌, length, Some, None, refl, sym, ap, subst, ◌∙◌, arith}
use Rattle.std.specs.Prelude.{IsTrue, slice_get, slice_index_or}
use Rattle.std.specs.List.{list_all, position}
use Rattle.std.specs.Cmp.Lexicographic.{same_text as text_same}
use Rattle.std.proofs.lemmas.Bool.{false≢true}
use Rattle.std.proofs.lemmas.Bool.Decides.{nat_tests}
use Rattle.prod_model.specs.Names.{is_word, same_text}
use Rattle.config_value.specs.Spelled.{is_word_place}
use Rattle.canonical_form.specs.steps.Pieces.{word_piece}
use Rattle.canonical_form.specs.AnswerParts.{behind_word}
use Rattle.canonical_form.specs.steps.Reading.{Takes, IsToken}
use Rattle.canonical_form.proofs.LookUps.{position_hit, position_miss}
use Rattle.prod_model.proofs.NameLaws.{same_text_refl}
use Rattle.canonical_form.proofs.ModelTexts.{word_bytes_at}
use Rattle.canonical_form.proofs.ReadingSteps.{token_is}

at_word : (ws : List (List ℕ)) (n : ℕ) → n < length ws → slice_get ws n ≡ Some (slice_index_or ws n [])
at_word [] n within = absurd (omega arith)
at_word (w ∷ ws) zero within = refl
at_word (w ∷ ws) (suc n) within = at_word ws n (omega arith)

word_at : (ws : List (List ℕ)) (n : ℕ) (w : List ℕ) → slice_get ws n ≡ Some w → slice_index_or ws n [] ≡ w
word_at [] n w at = absurd (cc)
word_at (v ∷ ws) zero w at = cc
word_at (v ∷ ws) (suc n) w at = word_at ws n w at

pub no_word : (words : List (List ℕ)) (bytes text rest behind : List ℕ) (v : ℤ) → IsTrue (list_all is_word words) → IsToken behind_word bytes text rest
    → position (λ w. same_text w text) words ≡ None → IsTrue (is_word_place (length words) v) → Takes (word_piece words v) behind_word bytes behind → ⊥
no_word words bytes text rest behind (pos n) formed token none place takes =
    let word = slice_index_or words n [] in
    let same = token_is behind_word bytes text rest word behind token (word_bytes_at words n formed) takes in
    let other : same_text word text ≡ false = position_miss (λ w. same_text w text) words none n word (at_word words n (grind (arith, nat_tests))) in
    let e : same_text word word ≡ false = subst (λ t. same_text word t ≡ false) same.0 other in
    false≢true (sym e ∙ same_text_refl word)
no_word words bytes text rest behind (negsuc n) formed token none place takes = false≢true place

pub found_word : (words : List (List ℕ)) (bytes text rest : List ℕ) (k : ℕ) → IsToken behind_word bytes text rest → position (λ w. same_text w text) words ≡ Some k
    → IsTrue (is_word_place (length words) (pos k)) × Takes (word_piece words (pos k)) behind_word bytes rest
found_word words bytes text rest k token found =
    let hit = position_hit (λ w. same_text w text) words k found in
    let same : hit.item ≡ text = text_same hit.item text (sym hit.passes) in
    let word : slice_index_or words k [] ≡ text = word_at words k hit.item hit.at ∙ same in
    let within = hit.within in
    (grind (arith, nat_tests), record { parts = token.takes.parts ∙ ap (λ t. t ++ rest) (sym word); ends = token.takes.ends })
