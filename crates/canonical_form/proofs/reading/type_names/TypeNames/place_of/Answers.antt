use Rattle.std.proofs.Common.{◌∙◌, sym, ap}
use Rattle.std.specs.List.{position}
use Rattle.prod_model.specs.Names.{same_text}
use Rattle.prod_model.proofs.NameLaws.{position_now}
use Rattle.canonical_form.proofs.reading.type_names.TypeNames.place_of.Goals as goal

pub returns-in_err-place : goal.returns-in_err-place
returns-in_err-place c =
    c.from_residual.ensures ∙ sym c.in_err-place.was ∙ c.get_index_of.ensures.index ∙ sym (position_now c.args.name.now c.self.inside.texts.keys)
    ∙ ap (position (λ n. same_text n c.args.name.now)) c.self.view_is

pub returns : goal.returns
returns c =
    sym c.in_ok-place.was ∙ c.get_index_of.ensures.index ∙ sym (position_now c.args.name.now c.self.inside.texts.keys)
    ∙ ap (position (λ n. same_text n c.args.name.now)) c.self.view_is
