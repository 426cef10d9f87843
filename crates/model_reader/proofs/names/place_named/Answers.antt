use Rattle.std.proofs.Common.{rules, ◌≡◌, Some, None}
use Rattle.std.specs.List.{position}
use Rattle.file_meaning.specs.steps.Names.{is_named}
use Rattle.file_meaning.proofs.NamePlaces.{named_found, named_past}
use Rattle.model_reader.proofs.names.place_named.Goals as goal

pub returns-in-Some : goal.returns-in-Some
returns-in-Some c =
    let found : position (is_named c.args.name.now) c.args.types.now ≡ Some c.in-Some.place = search rules in named_found c.args.name.now c.args.types.now c.in-Some.place found

pub returns-in-None : goal.returns-in-None
returns-in-None c =
    let none : position (is_named c.args.name.now) c.args.types.now ≡ None = search rules in
    let past = named_past c.args.name.now c.args.types.now none in
    search rules
