use Rattle.std.proofs.Common.{◌∙◌, sym, ap}
use Rattle.std.specs.List.{position}
use Rattle.prod_model.specs.Names.{same_text}
use Rattle.prod_model.proofs.NameLaws.{position_now}
use Rattle.file_values.proofs.names.Names.place_of.Goals as goal

pub returns : goal.returns
returns c =
    c.get_index_of.ensures.index ∙ sym (position_now c.args.name.now c.self.inside.texts.keys)
    ∙ ap (position (λ n. same_text n c.args.name.now)) c.self.view_is
