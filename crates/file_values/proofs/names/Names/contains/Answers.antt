use Rattle.std.proofs.Common.{◌∙◌, sym, ap}
use Rattle.std.specs.List.{list_any}
use Rattle.prod_model.specs.Names.{same_text}
use Rattle.file_values.proofs.NameLaws.{any_now}
use Rattle.file_values.proofs.names.Names.contains.Goals as goal

pub returns : goal.returns
returns c =
    c.contains.ensures ∙ sym (any_now c.args.name.now c.self.inside.texts.keys)
    ∙ ap (list_any (λ n. same_text n c.args.name.now)) c.self.view_is
