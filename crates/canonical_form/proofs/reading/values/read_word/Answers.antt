use Rattle.std.proofs.Common.{◌≡◌, ℤ, pos, sym, subst, ◌∙◌, to_z, w64, ◌<◌, ◌^◌, length, arith}
use Rattle.std.specs.Prelude.{IsTrue}
use Rattle.std.proofs.lemmas.Int.{to_z_pos}
use Rattle.config_value.specs.Spelled.{is_word_place}
use Rattle.prod_model.specs.Names.{same_text}
use Rattle.canonical_form.specs.steps.Pieces.{word_piece}
use Rattle.canonical_form.specs.AnswerParts.{behind_word}
use Rattle.canonical_form.specs.steps.Reading.{Takes}
use Rattle.canonical_form.proofs.LookUps.{position_hit}
use Rattle.canonical_form.proofs.WordSteps.{no_word, found_word}
use Rattle.canonical_form.proofs.reading.values.read_word.Goals as goal

pub returns-in_err-place-clause-none : goal.returns-in_err-place-clause-none
returns-in_err-place-clause-none c none v rest place takes =
    no_word c.args.words.now c.args.bytes.now c.split_token.result.0.now c.split_token.result.1.now rest v c.requires.formed c.split_token.ensures (sym c.place_of.ensures ∙ c.in_err-place.was) place takes

pub returns-clause-found : goal.returns-clause-found
returns-clause-found c =
    let k = c.in_ok-place.place in
    let at = sym c.place_of.ensures ∙ c.in_ok-place.was in
    let hit = position_hit (λ w. same_text w c.split_token.result.0.now) c.args.words.now k at in
    let within = hit.within in
    let few = c.requires.few in
    let small : k < 2 ^ 63 = omega arith in
    let same : to_z w64 k ≡ pos k = to_z_pos w64 k small in
    let found = found_word c.args.words.now c.args.bytes.now c.split_token.result.0.now c.split_token.result.1.now k c.split_token.ensures at in
    subst (λ (v : ℤ). IsTrue (is_word_place (length c.args.words.now) v) × Takes (word_piece c.args.words.now v) behind_word c.args.bytes.now c.split_token.result.1.now) (sym same) found
