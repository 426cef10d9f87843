use Rattle.std.proofs.Common.{rules, ◌≡◌, Some, None}
use Rattle.std.specs.List.{position}
use Rattle.std.proofs.lemmas.Result.{IfOk-weaker}
use Rattle.prod_model.specs.Names.{same_text}
use Rattle.file_meaning.proofs.LookUps.{type_found, type_none}
use Rattle.file_meaning.proofs.look_ups.type_named.Goals as goal

pub returns-in-Some : goal.returns-in-Some
returns-in-Some c =
    let found : position (λ n. same_text n c.args.name.now) c.args.named.now.types ≡ Some c.in-Some.place = search rules in
    IfOk-weaker c.number_of.result _ _ (λ n is. type_found c.args.model.now c.args.named.now 0 c.args.name.now c.requires.named c.in-Some.place n found is) c.number_of.ensures

pub returns-in-None : goal.returns-in-None
returns-in-None c =
    let none : position (λ n. same_text n c.args.name.now) c.args.named.now.types ≡ None = search rules in
    IfOk-weaker c.number_of-in-None.result _ _
    (λ n is. type_none c.args.model.now c.args.named.now 0 c.args.name.now c.requires.named n none (search rules)) c.number_of-in-None.ensures
