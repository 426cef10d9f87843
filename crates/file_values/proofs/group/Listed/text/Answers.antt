use Rattle.std.proofs.Common.{◌∙◌, length, map, refl, sym, ap, Some}
use Rattle.std.proofs.lemmas.Option.{slice_get_read, slice_get-map}
use Rattle.std.specs.Option.{option_map}
use Rattle.serde_json.specs.View.{view}
use Rattle.base_laws.specs.Places.{IsAt}
use Rattle.file_values.specs.Read.{text_in, text_at}
use Rattle.file_values.specs.steps.Groups.{text_by}
use Rattle.file_values.proofs.GroupLaws.{text_there}
use Rattle.file_values.proofs.group.Listed.text.Goals as goal

pub returns-in-None : goal.returns-in-None
returns-in-None c =
    let there : IsAt (map view c.args.self.now.items.now) c.args.index (view c.index-self-index.result) =
    slice_get-map view c.args.self.now.items.now c.args.index
    ∙ ap (option_map view) (slice_get_read c.args.self.now.items.now (length c.args.self.now.items.now) c.args.index c.index-self-index.result refl c.requires c.index-self-index.is) in
    text_there c.args.self.now.list c.args.self.now.text (map view c.args.self.now.items.now) c.args.index (view c.index-self-index.result) there
    ∙ ap (λ o. Some (text_by o (view c.index-self-index.result))) c.in-None.is
    ∙ ap (λ v. Some (text_in (view v))) c.index-self-index.is ∙ ap (λ s. Some s) (sym c.text_in.ensures)

pub returns-in-Some : goal.returns-in-Some
returns-in-Some c =
    let there : IsAt (map view c.args.self.now.items.now) c.args.index (view c.index-self-index.result) =
    slice_get-map view c.args.self.now.items.now c.args.index
    ∙ ap (option_map view) (slice_get_read c.args.self.now.items.now (length c.args.self.now.items.now) c.args.index c.index-self-index.result refl c.requires c.index-self-index.is) in
    text_there c.args.self.now.list c.args.self.now.text (map view c.args.self.now.items.now) c.args.index (view c.index-self-index.result) there
    ∙ ap (λ o. Some (text_by o (view c.index-self-index.result))) c.in-Some.is
    ∙ ap (λ v. Some (text_at c.in-Some.key (view v))) c.index-self-index.is ∙ ap (λ s. Some s) (sym c.text_at.ensures)
