use Rattle.std.proofs.Common.{◌∙◌, ap, sym, map}
use Rattle.std.proofs.lemmas.Result.{IfOk-weaker}
use Rattle.std.proofs.lemmas.Simd.{map-map}
use Rattle.prod_model.specs.Taxonomy.{words_of}
use Rattle.canonical_form.proofs.TypeNames.{attribute_names, attribute_words}
use Rattle.canonical_form.proofs.names.first_attributes.Goals as goal

pub returns-clause-names : goal.returns-clause-names
returns-clause-names c =
    IfOk-weaker c.first_declarations.result _ _
    (λ firsts read. sym (map-map (λ d. d.name) (λ d. d.now) firsts.items) ∙ ap (map (λ d. d.name)) read ∙ attribute_names c.args.model.now c.args.t c.requires.valid)
    c.first_declarations.ensures

pub returns-clause-words : goal.returns-clause-words
returns-clause-words c =
    IfOk-weaker c.first_declarations.result _ _
    (λ firsts read. sym (map-map (λ d. words_of d.domain) (λ d. d.now) firsts.items) ∙ ap (map (λ d. words_of d.domain)) read ∙ attribute_words c.args.model.now c.args.t c.requires.valid)
    c.first_declarations.ensures
