use Rattle.std.proofs.Common.{rules, ◌≡◌, None}
use Rattle.std.specs.List.{position}
use Rattle.prod_model.specs.Names.{same_text}
use Rattle.file_meaning.proofs.NamePlaces.{past}
use Rattle.file_meaning.proofs.look_ups.word_number.Goals as goal

pub returns-in-None : goal.returns-in-None
returns-in-None c =
    let none : position (λ w. same_text w c.args.word.now) c.args.words.now ≡ None = search rules in
    let long = past (λ w. same_text w c.args.word.now) c.args.words.now none in
    search rules
