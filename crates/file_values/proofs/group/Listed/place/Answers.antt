use Rattle.std.proofs.Common.{rules, ◌≡◌, ◌∙◌, ◌<◌, ◌∷◌, ◌++◌, [], length, map, sym, ap, Some, arith}
use Rattle.std.proofs.lemmas.Option.{slice_get-get_or}
use Rattle.std.proofs.lemmas.List.{length-map, append_assoc}
use Rattle.std.proofs.Common.{get_or}
use Rattle.serde_json.specs.Data.{null}
use Rattle.serde_json.specs.View.{view}
use Rattle.file_values.specs.declared.part.Part.TheVariants.{At}
use Rattle.file_values.specs.steps.Groups.{step_by}
use Rattle.file_values.proofs.GroupLaws.{place_there}
use Rattle.file_values.proofs.group.Listed.place.Goals as goal

pub returns : goal.returns
returns c =
    let long = length-map c.args.self.now.items.now view in
    let asked = c.requires in
    let within : c.args.index < length (map view c.args.self.now.items.now) = omega (arith, asked, long) in
    let whole : c.append.new.self ≡ (step_by c.args.self.now.list ++ At c.args.index ∷ []) ++ step_by c.args.self.now.text = search rules in
    place_there c.args.self.now.list c.args.self.now.text (map view c.args.self.now.items.now) c.args.index
    (get_or (map view c.args.self.now.items.now) c.args.index null) (slice_get-get_or (map view c.args.self.now.items.now) c.args.index null within)
    ∙ ap (λ s. Some s) (sym (whole ∙ append_assoc (step_by c.args.self.now.list) (At c.args.index ∷ []) (step_by c.args.self.now.text)))
