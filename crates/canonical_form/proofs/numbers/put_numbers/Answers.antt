use Rattle.std.proofs.Common.{◌≡◌, ◌∷◌, ◌++◌, ◌∙◌, ap, rules, arith}
use Rattle.std.specs.Fmt.{decimal}
use Rattle.std.proofs.lemmas.Grind.{common_steps}
use Rattle.canonical_form.specs.steps.Pieces.{numbers_piece}
use Rattle.canonical_form.proofs.Joined.{numbers_piece_cons, after_commas}
use Rattle.canonical_form.proofs.numbers.put_numbers.Goals as goal

pub returns : goal.returns
returns c =
    let whole : c.args.numbers.now ≡ c.in-Some.first.now ∷ c.in-Some.rest.now = search rules in
    let piece : numbers_piece c.args.numbers.now ≡ decimal c.in-Some.first.now ++ after_commas c.in-Some.rest.now =
    ap numbers_piece whole ∙ numbers_piece_cons c.in-Some.first.now c.in-Some.rest.now in
    grind (arith, common_steps)
