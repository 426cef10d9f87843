use Rattle.std.proofs.Common.{length, refl, ap, ◌∙◌}
use Rattle.std.proofs.lemmas.Option.{slice_get_read, slice_get-map}
use Rattle.std.specs.Option.{option_map}
use Rattle.serde_json.specs.View.{view}
use Rattle.file_values.proofs.walk.item_at.Goals as goal

pub returns : goal.returns
returns c = slice_get-map view c.args.items.now c.args.index ∙ ap (option_map view) (slice_get_read c.args.items.now (length c.args.items.now) c.args.index c.index-items-index.result refl c.requires c.index-items-index.is)
